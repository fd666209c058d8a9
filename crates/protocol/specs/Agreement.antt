-- What is proved of every list of calls: agreement, and what goes with it.
use Rattle.std.specs.Prelude.{◌≡◌, ℕ, zero, suc, ◌+◌, ◌*◌, ◌<◌, ◌≤◌, Bool, true, false, cond, ◌&&◌, List, [], length, ◌==◌, nat_eq}
use Rattle.protocol.specs.Model.{Plan, State, Verdict, fly, default, chosen, empty, closed, item_of, author_of, Seat, Listed, Agree, reading, Acceptable}
use Rattle.protocol.specs.Moves.{Start, Runs}
use Rattle.protocol.specs.Calls.{Call, Calls}

-- a state that moves lead to from a start, and one that calls lead to
abbrev pub Reached : Plan → State → Type 0
Reached P z = (x : State) × Start P x × Runs P x z

abbrev pub Made : Plan → State → Type 0
Made P z = (x : State) × Start P x × Calls P x z

-- p's decision of item i is r
abbrev pub Decided : State → ℕ → ℕ → Verdict → Type 0
Decided x p i r = x.bag p i ≡ closed r

-- the sender of item i has broadcast value v as its own
abbrev pub Opened : Plan → State → ℕ → ℕ → Type 0
Opened P x i v = (m : ℕ) × (t : ℕ) × (m < x.count) × (x.flight m ≡ fly i v [] (P.sender i) t)

-- a decision s is as the sender would have it: the very value that was opened, or the default where none was
abbrev pub Faithful : Plan → State → ℕ → Verdict → Type 0
Faithful P x i s = ((v : ℕ) → Opened P x i v → s ≡ chosen v) × (((v : ℕ) → ¬ (Opened P x i v)) → s ≡ default)

-- no two decisions of an item differ
abbrev pub Agreed : Type 0
Agreed = (P : Plan) (z : State) → Made P z → (i p q : ℕ) (r s : Verdict) → Decided z p i r → Decided z q i s → Agree P r s

-- Take the call, from x to y, in which an item has its first decision. If its sender had not turned before it, then after it and ever after, whoever turns, each decision is as the sender would have it.
abbrev pub Valid : Type 0
Valid = (P : Plan) (x y z : State) → Made P x → Call P x y → Calls P y z → (i p q : ℕ) (r s : Verdict)
    → ((h : ℕ) (u : Verdict) → ¬ (Decided x h i u)) → Decided y p i r → x.turned (P.sender i) ≡ false → Decided z q i s → Faithful P x i s

-- how many of the numbers below c pass
abbrev pub tally : (ℕ → Bool) → ℕ → ℕ
tally b zero = 0
tally b (suc c) = cond (b c) 1 0 + tally b c

-- the broadcasts of an item, those of them whose author is a, and all broadcasts of a
abbrev pub broadcasts : State → ℕ → ℕ
broadcasts x i = tally (λ m. nat_eq (item_of (x.flight m)) i) x.count

abbrev pub broadcasts_of : State → ℕ → ℕ → ℕ
broadcasts_of x i a = tally (λ m. (item_of (x.flight m) == i) && author_of (x.flight m) == a) x.count

abbrev pub flights_of : State → ℕ → ℕ
flights_of x a = tally (λ m. nat_eq (author_of (x.flight m)) a) x.count

-- an item has at most 2 n - 1 broadcasts: at most two of one author, and one of its sender
abbrev pub Few : Plan → State → ℕ → Type 0
Few P z i = (broadcasts z i + 1 ≤ 2 * P.n) × ((a : ℕ) → broadcasts_of z i a ≤ 2) × (broadcasts_of z i (P.sender i) ≤ 1)

abbrev pub Sparing : Type 0
Sparing = (P : Plan) (z : State) → Made P z → (i : ℕ) → Few P z i

-- so there are at most 2 n - 1 broadcasts for each item of the agenda, and of one author two for each item
abbrev pub Within : Plan → State → Type 0
Within P z = (z.count + P.items ≤ 2 * P.n * P.items) × ((a : ℕ) → flights_of z a ≤ 2 * P.items)

abbrev pub Roomy : Type 0
Roomy = (P : Plan) (z : State) → Made P z → Within P z

-- one broadcast more, by p, keeps within those numbers
abbrev pub Room : Plan → State → ℕ → Type 0
Room P x p = (x.count + 1 + P.items ≤ 2 * P.n * P.items) × (flights_of x p + 1 ≤ 2 * P.items)

-- whenever a correct processor may broadcast, to open or to relay, there is room for it
pub record Spacious : Type 0 where
  pub openings : (P : Plan) (x : State) → Made P x → (p i v : ℕ) → x.turned p ≡ false → Listed P i → p ≡ P.sender i → reading x p ≡ P.moment i → x.bag p i ≡ empty → P.admitted v ≡ true → Room P x p
  pub relays : (P : Plan) (x : State) → Made P x → (p i v : ℕ) (l : List ℕ) → Seat P p → x.turned p ≡ false → Acceptable P x p i v l → length l ≤ P.f → Room P x p

-- a decision stands, whatever comes
abbrev pub Standing : Type 0
Standing = (P : Plan) (y z : State) → Made P y → Calls P y z → (p i : ℕ) (r : Verdict) → Decided y p i r → Decided z p i r

-- every correct processor has decided every item
abbrev pub Finished : Plan → State → Type 0
Finished P x = (p i : ℕ) → Seat P p → Listed P i → x.turned p ≡ false → (r : Verdict) × Decided x p i r

-- what is finished stays so
abbrev pub Closing : Type 0
Closing = (P : Plan) (y z : State) → Made P y → Finished P y → Calls P y z → Finished P z

pub record Agreement : Type 0 where
  pub agreed : Agreed
  pub valid : Valid
  pub sparing : Sparing
  pub spacious : Spacious
  pub standing : Standing
  pub closing : Closing
