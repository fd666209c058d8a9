-- What a seal scheme means, and what its functions answer and leave.
use Rattle.std.specs.Prelude.{◌≡◌, ℕ, ◌-◌, ◌^◌, ◌<◌, ◌≤◌, Bool, true, false, cond, not, ◌&&◌, ◌||◌, List, [], ◌∷◌, ◌++◌, length, is_some, Some, None, Ok, Err, count_by, Option, Result, ◌==◌, nat_eq, nat_le, slice_index, slice_index_or, slice_set}
use Rattle.std.specs.List.{AllByRecursion}
use Rattle.std.specs.Str.{bytes_eq}
use Rattle.refusals.specs.declared.refusal.Refusal.{Refusal}
use Rattle.refusals.specs.declared.refusal.Refusal.TheVariants.{Signer, Text, Room}

pub record Triple : Type 0 where
  pub signer : ℕ
  pub text : List ℕ
  pub seal : ℕ

-- the triples in order of issue, the number left for each of the signers 1 to 8, and the longest text
pub record Meaning : Type 0 where
  pub triples : List Triple
  pub room : List ℕ
  pub longest : ℕ

-- signers are numbered 1 to 8
abbrev pub known : ℕ → Bool
known p = nat_le 1 p && nat_le p 8

abbrev pub is_of : ℕ → List ℕ → Triple → Bool
is_of p t e = e.signer == p && bytes_eq e.text t

-- the seal of the first triple of a signer and a text
abbrev pub seal_of : List Triple → ℕ → List ℕ → Option ℕ
seal_of [] p t = None
seal_of (e ∷ es) p t = cond (is_of p t e) (Some e.seal) (seal_of es p t)

-- whether a triple stands in the list
abbrev pub holds : List Triple → ℕ → List ℕ → ℕ → Bool
holds [] p t s = false
holds (e ∷ es) p t s = (is_of p t e && e.seal == s) || holds es p t s

-- no signer and text stand in the list twice
abbrev pub single : List Triple → Bool
single [] = true
single (e ∷ es) = not (is_some (seal_of es e.signer e.text)) && single es

-- every triple is of a known signer
abbrev pub all_known : List Triple → Bool
all_known [] = true
all_known (e ∷ es) = known e.signer && all_known es

-- how many the signer has left: none for other signers
abbrev pub left_of : Meaning → ℕ → ℕ
left_of m p = cond (known p) (slice_index m.room (p - 1)) 0

-- how many triples are the signer's
abbrev pub count_for : ℕ → List Triple → ℕ
count_for p es = count_by (λ e. nat_eq e.signer p) es

-- the number that a signer spends next, 0 where it has none left: row p - 1 of `hands` has
-- signer p's numbers, of which the first `dealt` were dealt
abbrev pub next_of : List (List ℕ) → ℕ → Meaning → ℕ → ℕ
next_of hands dealt m p = cond (left_of m p == 0) 0 (slice_index (slice_index_or hands (p - 1) []) (dealt - left_of m p))

-- the answer where signer and text pass: the seal that stands, or a new one if any is left
abbrev pub granted : Option ℕ → ℕ → ℕ → Result ℕ Refusal
granted (Some s) n new = Ok s
granted None n new = cond (n == 0) (Err Room) (Ok new)

-- what `sign` answers, with `new` for the number of a new seal
abbrev pub answered : Meaning → ℕ → List ℕ → ℕ → Result ℕ Refusal
answered m p t new = cond (known p) (cond (nat_le (length t) m.longest) (granted (seal_of m.triples p t) (left_of m p) new) (Err Text)) (Err Signer)

-- whether `sign` issues a new seal
abbrev pub issues : Meaning → ℕ → List ℕ → Bool
issues m p t = known p && (nat_le (length t) m.longest && (not (is_some (seal_of m.triples p t)) && not (left_of m p == 0)))

-- one less left for signer p
abbrev pub lowered : List ℕ → ℕ → List ℕ
lowered room p = slice_set room (p - 1) (slice_index room (p - 1) - 1)

abbrev pub triple : ℕ → List ℕ → ℕ → Triple
triple p t s = record { signer = p; text = t; seal = s }

-- one triple more, the last, and one less left for its signer
abbrev pub issued : Meaning → ℕ → List ℕ → ℕ → Meaning
issued m p t new = record {
  triples = m.triples ++ triple p t new ∷ [];
  room = lowered m.room p;
  longest = m.longest;
}

-- what `sign` leaves
abbrev pub signed : Meaning → ℕ → List ℕ → ℕ → Meaning
signed m p t new = cond (issues m p t) (issued m p t new) m

-- the seal in an answer
abbrev pub given : Result ℕ Refusal → ℕ
given (Ok s) = s
given (Err e) = 0

-- what holds of every scheme
pub record Tidy (m : Meaning) : Type 0 where
  pub once : single m.triples ≡ true
  pub signers : all_known m.triples ≡ true
  pub texts : AllByRecursion (λ e. length e.text ≤ m.longest) m.triples
  pub seals : AllByRecursion (λ e. e.seal < 2 ^ 32) m.triples
  pub eight : length m.room ≡ 8
  pub least : 1 ≤ m.longest
  pub most : m.longest ≤ 64
