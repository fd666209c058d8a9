-- Looking up the table by a number and by a name.
use Rattle.std.proofs.Common.{◌≡◌, ℕ, false, List, [], ◌∷◌, sym, refl, ◌∙◌}
use Rattle.std.specs.List.{AllByRecursion}
use Rattle.std.specs.Str.{bytes_eq}
use Rattle.std.proofs.lemmas.Slice.Eq.{bytes_eq-Decides}
use Rattle.std.proofs.lemmas.Bool.{cond-false, false_from_ne_true}
use Rattle.refusals.specs.Table.{Entry, numbered_in}

differ : (a b : List ℕ) → (b ≡ a → ⊥) → bytes_eq a b ≡ false
differ a b no' = false_from_ne_true _ (λ y. no' (sym ((bytes_eq-Decides a b).0 y)))

-- a name that no row has
pub none_of : (es : List Entry) (t : List ℕ) → AllByRecursion (λ e. t ≡ e.name → ⊥) es → 0 ≡ numbered_in es t
none_of [] t h = refl
none_of (e ∷ es) t h = none_of es t h.1 ∙ sym (cond-false _ _ _ (differ e.name t h.0))
