-- The seals of a frame's links.
use Rattle.std.proofs.Common.{◌≡◌, ℕ, ◌+◌, ◌-◌, ◌<◌, ◌≤◌, Bool, true, false, not, ◌⊎◌, List, [], ◌∷◌, ◌++◌, reverse, length, get_or, take, is_some, Some, None, Ok, Option, sym, refl, ap, ◌∙◌, inl, inr, arith}
use Rattle.std.proofs.lemmas.List.{reverse-append, reverse-reverse, map_push, length_push, take-append-le, take_all, get_or_append_left, get_or_push}
use Rattle.std.proofs.lemmas.Bool.{true≢false, and_from, le-leb, cond-true, not-false, not_from_true, cases_lt}
use Rattle.refusals.specs.declared.refusal.Refusal.{Refusal}
use Rattle.refusals.specs.Places.{first}
use Rattle.seals.specs.Meanings.{Triple, holds}
use Rattle.frames.specs.declared.link.Link.{Link}
use Rattle.frames.specs.Bytes.{Fields, fields}
use Rattle.frames.specs.Texts.{link_at, numbers_of, text_for, no_link}
use Rattle.processor.specs.Chains.{sealed, is_sealed, unless_at, seals}
use Rattle.processor.proofs.Outcomes.{no_ok}
use Rattle.refusals.proofs.Firsts.{none_at, none_from}
use Rattle.seals.proofs.Signing.{holds_more}

-- where no place is found, none passes
pub nowhere : (P : ℕ → Bool) (n k : ℕ) → is_some (first P n) ≡ false → k < n → P k ≡ false
nowhere P n k h l = none_at P n k (none (first P n) h) l
  where
    none : (o : Option ℕ) → is_some o ≡ false → o ≡ None
    none None g = refl
    none (Some j) g = absurd (true≢false g)

unless_at_none : (row : ℕ → Refusal) (o : Option ℕ) → unless_at row o ≡ Ok tt → o ≡ None
unless_at_none row None h = refl
unless_at_none row (Some k) h = no_ok (row (k + 1)) tt h

-- a row over all places below m passes where no place fails
pub unless_at_ok : (row : ℕ → Refusal) (P : ℕ → Bool) (m : ℕ) → unless_at row (first P m) ≡ Ok tt → (k : ℕ) → k < m → P k ≡ false
unless_at_ok row P m h k l = none_at P m k (unless_at_none row (first P m) h) l

pub unless_at_from : (row : ℕ → Refusal) (P : ℕ → Bool) (m : ℕ) → ((k : ℕ) → k < m → P k ≡ false) → unless_at row (first P m) ≡ Ok tt
unless_at_from row P m h = ap (unless_at row) (none_from P m h)

abbrev pub link_by : ℕ → ℕ → Link
link_by own seal = record { processor = own; seal = seal }

-- a link within the frame
pub link_within : (f : Fields) (k : ℕ) → k < length f.links → link_at f (k + 1) ≡ Some (get_or f.links k no_link)
link_within f k l =
    let fine = and_from _ _ (le-leb 1 (k + 1) (omega arith)) (le-leb (k + 1) (length f.links) (omega arith)) in
    let back : k + 1 - 1 ≡ k = omega arith in
    cond-true _ _ _ fine ∙ ap (λ j. Some (get_or f.links j no_link)) back

-- the seal of link k, counted from 0, checks on its text
abbrev pub link_holds : List Triple → ℕ → ℕ → List Link → ℕ → Bool
link_holds ts i v ls k = let l = get_or ls k no_link in holds ts l.processor (text_for i v (numbers_of (take (k + 1) ls))) l.seal

is_sealed_holds : (ts : List Triple) (i v : ℕ) (ls : List Link) (k : ℕ) → k < length ls → is_sealed ts (fields i v ls) (k + 1) ≡ link_holds ts i v ls k
is_sealed_holds ts i v ls k h = ap (seals ts (text_for i v (numbers_of (take (k + 1) ls)))) (link_within (fields i v ls) k h)

pub sealed_at : (ts : List Triple) (i v : ℕ) (ls : List Link) (k : ℕ) → sealed ts (fields i v ls) ≡ Ok tt → k < length ls → link_holds ts i v ls k ≡ true
sealed_at ts i v ls k e h = sym (is_sealed_holds ts i v ls k h) ∙ not-false _ (unless_at_ok Refusal.Forged (λ j. not (is_sealed ts (fields i v ls) (j + 1))) (length ls) e k h)

pub sealed_from : (ts : List Triple) (i v : ℕ) (ls : List Link) → ((k : ℕ) → k < length ls → link_holds ts i v ls k ≡ true) → sealed ts (fields i v ls) ≡ Ok tt
sealed_from ts i v ls h = unless_at_from Refusal.Forged (λ j. not (is_sealed ts (fields i v ls) (j + 1))) (length ls) (λ k l. not_from_true _ (is_sealed_holds ts i v ls k l ∙ h k l))

-- more triples break no chain
pub sealed_more : (ts us : List Triple) (i v : ℕ) (ls : List Link) → sealed ts (fields i v ls) ≡ Ok tt → sealed (ts ++ us) (fields i v ls) ≡ Ok tt
sealed_more ts us i v ls e = sealed_from (ts ++ us) i v ls (λ k h. holds_more ts us _ _ _ (sealed_at ts i v ls k e h))

-- one link more, sealed by its processor
pub sealed_push : (ts : List Triple) (i v : ℕ) (ls : List Link) (own s : ℕ) → sealed ts (fields i v ls) ≡ Ok tt
    → holds ts own (text_for i v (reverse (own ∷ reverse (numbers_of ls)))) s ≡ true → sealed ts (fields i v (ls ++ link_by own s ∷ [])) ≡ Ok tt
sealed_push ts i v ls own s e last = sealed_from ts i v (ls ++ link_by own s ∷ []) (λ k h. each k (cases_lt k (length ls)) (let n = length_push ls (link_by own s) in omega arith))
  where
    each : (k : ℕ) → (k < length ls) ⊎ (length ls ≤ k) → k < length ls + 1 → link_holds ts i v (ls ++ link_by own s ∷ []) k ≡ true
    each k (inl h) l =
        let link = get_or_append_left ls (link_by own s ∷ []) no_link k h in
        let text = take-append-le (k + 1) ls (link_by own s ∷ []) (omega arith) in
        (λ i₁. holds ts (link i₁).processor (text_for i v (numbers_of (text i₁))) (link i₁).seal) ∙ sealed_at ts i v ls k e h
    each k (inr h) l =
        let at : k ≡ length ls = omega arith in
        let link = get_or_push ls (link_by own s) no_link k (sym at) in
        let text = take_all (k + 1) (ls ++ link_by own s ∷ []) (let n = length_push ls (link_by own s) in omega arith) in
        let numbers = map_push (λ (x : Link). x.processor) ls (link_by own s) in
        let back = ap (λ (ns : List ℕ). ns ++ own ∷ []) (sym (reverse-reverse (numbers_of ls))) ∙ sym (reverse-append (own ∷ []) (reverse (numbers_of ls))) in
        (λ i₁. holds ts (link i₁).processor (text_for i v (numbers_of (text i₁))) (link i₁).seal)
        ∙ ap (λ (ns : List ℕ). holds ts own (text_for i v ns) s) (numbers ∙ back)
        ∙ last
