-- Numbers in a list, oldest first and newest first.
use Rattle.std.proofs.Common.{◌≡◌, ℕ, ◌≤◌, false, List, [], ◌∷◌, ◌++◌, reverse, length, sym, refl, arith}
use mathlib.Core.List.{reverse-cons}
use Rattle.std.proofs.lemmas.Bool.{or_parts, or_from, eqb-false, ne_eqb}
use Rattle.frames.specs.declared.link.Link.{Link}
use Rattle.processor.specs.Broadcasts.{owed_for, links_in}
use Rattle.processor.specs.Naming.{is_in}
use Rattle.protocol.specs.Model.{NotIn}

not_in_append : (p : ℕ) (xs ys : List ℕ) → NotIn p xs → NotIn p ys → NotIn p (xs ++ ys)
not_in_append p [] ys h k = k
not_in_append p (x ∷ xs) ys h k = (h.0, not_in_append p xs ys h.1 k)

not_in_parts : (p : ℕ) (xs ys : List ℕ) → NotIn p (xs ++ ys) → NotIn p xs × NotIn p ys
not_in_parts p [] ys h = (tt, h)
not_in_parts p (x ∷ xs) ys h = let r = not_in_parts p xs ys h.1 in ((h.0, r.0), r.1)

-- a number is in neither list, or in neither of them
pub not_in_newest : (p : ℕ) (xs : List ℕ) → is_in xs p ≡ false → NotIn p (reverse xs)
not_in_newest p [] h = tt
not_in_newest p (x ∷ xs) h =
    let k = or_parts _ _ h in
    rw (reverse-cons x xs) (not_in_append p (reverse xs) (x ∷ []) (not_in_newest p xs k.1) ((λ e. eqb-false x p k.0 (sym e)), tt))

pub newest_not_in : (p : ℕ) (xs : List ℕ) → NotIn p (reverse xs) → is_in xs p ≡ false
newest_not_in p [] h = refl
newest_not_in p (x ∷ xs) h =
    let k = not_in_parts p (reverse xs) (x ∷ []) (rw (reverse-cons x xs) at h) in
    or_from _ _ (ne_eqb x p (λ e. k.1.0 (sym e))) (newest_not_in p xs k.0)

-- at most six links are all in what is owed
pub links_owed : (i v own : ℕ) (ls : List Link) → length ls ≤ 6 → links_in (owed_for i v own ls) ≡ ls
links_owed i v own [] h = refl
links_owed i v own (a ∷ []) h = refl
links_owed i v own (a ∷ b ∷ []) h = refl
links_owed i v own (a ∷ b ∷ c ∷ []) h = refl
links_owed i v own (a ∷ b ∷ c ∷ d ∷ []) h = refl
links_owed i v own (a ∷ b ∷ c ∷ d ∷ e ∷ []) h = refl
links_owed i v own (a ∷ b ∷ c ∷ d ∷ e ∷ f ∷ []) h = refl
links_owed i v own (a ∷ b ∷ c ∷ d ∷ e ∷ f ∷ g ∷ ls) h = absurd (omega arith)
