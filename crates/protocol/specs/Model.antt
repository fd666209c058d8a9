-- The system as plain data: what is fixed before a run (Plan), what a run changes (State), and the words in which the moves are told.
-- Lists of link numbers have the newest first: the links `1, 4, 2` of a frame are `2 ∷ 4 ∷ 1 ∷ []`.
use Rattle.std.specs.Prelude.{◌≡◌, ℕ, suc, ◌+◌, ◌*◌, ◌<◌, ◌≤◌, Bool, true, false, not, List, [], ◌∷◌, length}

-- What is fixed before a run: n processors, at most f of them turn faulty; a frame between correct ones is under way for fewer than d ticks; a correct clock is at most e ticks ahead.
-- sender and moment: who opens an item, and at which clock reading. admitted and same: the kind of value.
pub record Plan : Type 0 where
  pub n : ℕ
  pub f : ℕ
  pub d : ℕ
  pub e : ℕ
  pub items : ℕ
  pub sender : ℕ → ℕ
  pub moment : ℕ → ℕ
  pub admitted : ℕ → Bool
  pub same : ℕ → ℕ → Bool
  pub spread : 1 ≤ d
  pub sender_low : (i : ℕ) → 1 ≤ sender i
  pub sender_high : (i : ℕ) → sender i ≤ n
  pub same_refl : (v : ℕ) → admitted v ≡ true → same v v ≡ true
  pub same_sym : (v w : ℕ) → admitted v ≡ true → admitted w ≡ true → same v w ≡ true → same w v ≡ true
  pub same_trans : (u v w : ℕ) → admitted u ≡ true → admitted v ≡ true → admitted w ≡ true → same u v ≡ true → same v w ≡ true → same u w ≡ true

-- what a processor decides: the default, or a value
pub data Verdict : Type 0 where
  default : Verdict
  chosen : ℕ → Verdict

-- what a processor has of an item: no value, one, two, or its decision
pub data Bag : Type 0 where
  empty : Bag
  one : ℕ → Bag
  two : ℕ → ℕ → Bag
  closed : Verdict → Bag

-- a broadcast: item, value, the numbers of the links before the author's own, the author, the time at which it began
pub data Flight : Type 0 where
  fly : ℕ → ℕ → List ℕ → ℕ → ℕ → Flight

abbrev pub item_of : Flight → ℕ
item_of (fly i v l a t) = i

abbrev pub author_of : Flight → ℕ
author_of (fly i v l a t) = a

-- now: real time. offset: how far a processor's clock is ahead. turned: who has turned faulty, and faulty how many have. bag: by processor and item.
-- sealed: whether the signer, named first, has sealed item, value and the link numbers before its own, followed by its own.
-- flight: the broadcasts so far, numbered below count. way: whether a flight, named first, is still on its way to a processor.
pub record State : Type 0 where
  pub now : ℕ
  pub offset : ℕ → ℕ
  pub turned : ℕ → Bool
  pub faulty : ℕ
  pub bag : ℕ → ℕ → Bag
  pub sealed : ℕ → ℕ → ℕ → List ℕ → Bool
  pub count : ℕ
  pub flight : ℕ → Flight
  pub way : ℕ → ℕ → Bool

-- a processor's number is 1 to n
abbrev pub Seat : Plan → ℕ → Type 0
Seat P p = (1 ≤ p) × (p ≤ P.n)

-- an item of the agenda is 1 to the number of items
abbrev pub Listed : Plan → ℕ → Type 0
Listed P i = (1 ≤ i) × (i ≤ P.items)

-- q is none of the numbers
abbrev pub NotIn : ℕ → List ℕ → Type 0
NotIn q [] = Unit {0}
NotIn q (a ∷ l) = (¬ (q ≡ a)) × NotIn q l

-- no number is repeated
abbrev pub Distinct : List ℕ → Type 0
Distinct [] = Unit {0}
Distinct (a ∷ l) = NotIn a l × Distinct l

-- each number is a processor's
abbrev pub Seats : Plan → List ℕ → Type 0
Seats P [] = Unit {0}
Seats P (a ∷ l) = Seat P a × Seats P l

-- the oldest link is s's
abbrev pub Began : ℕ → List ℕ → Type 0
Began s [] = ⊥
Began s (a ∷ []) = a ≡ s
Began s (a ∷ (b ∷ l)) = Began s (b ∷ l)

-- each link is sealed by its processor
abbrev pub Chain : State → ℕ → ℕ → List ℕ → Type 0
Chain x i v [] = Unit {0}
Chain x i v (a ∷ l) = (x.sealed a i v l ≡ true) × Chain x i v l

-- may a value join the bag: it is not closed, holds no same value, and does not hold two
abbrev pub fresh : Plan → Bag → ℕ → Bool
fresh P empty v = true
fresh P (one w) v = not (P.same w v)
fresh P (two w u) v = false
fresh P (closed r) v = false

-- the bag with one value more
abbrev pub put : Bag → ℕ → Bag
put empty v = one v
put (one w) v = two w v
put (two w u) v = two w u
put (closed r) v = closed r

-- what a bag decides: its value where it holds one, the default where it holds none or two; a closed bag keeps to its decision
abbrev pub verdict : Bag → Verdict
verdict empty = default
verdict (one v) = chosen v
verdict (two v w) = default
verdict (closed r) = r

abbrev pub is_closed : Bag → Bool
is_closed empty = false
is_closed (one v) = false
is_closed (two v w) = false
is_closed (closed r) = true

-- two decisions do not differ: both are the default, or both are values that are the same
abbrev pub Agree : Plan → Verdict → Verdict → Type 0
Agree P default default = Unit {0}
Agree P default (chosen w) = ⊥
Agree P (chosen v) default = ⊥
Agree P (chosen v) (chosen w) = P.same v w ≡ true

-- what p's clock shows
abbrev pub reading : State → ℕ → ℕ
reading x p = x.now + x.offset p

-- the tests that a frame passes at a correct processor p: item i, value v, link numbers l
pub record Acceptable (P : Plan) (x : State) (p i v : ℕ) (l : List ℕ) : Type 0 where
  pub listed : Listed P i
  pub admits : P.admitted v ≡ true
  pub short : length l ≤ suc P.f
  pub first : Began (P.sender i) l
  pub apart : Distinct l
  pub seats : Seats P l
  pub own : NotIn p l
  pub genuine : Chain x i v l
  pub not_early : P.moment i ≤ reading x p + length l * P.e
  pub not_late : reading x p < P.moment i + length l * (P.d + P.e)
  pub joins : fresh P (x.bag p i) v ≡ true
