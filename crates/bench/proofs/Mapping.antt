-- What an array's `map` gives where each call answers by a function.
use Rattle.std.proofs.Common.{◌≡◌, ℕ, zero, suc, ◌+◌, ◌<◌, ◌≤◌, ◌⊎◌, inl, inr, List, [], ◌∷◌, length, get_or, sym, refl, ap, ◌∙◌, subst, arith}
use Rattle.std.specs.Prelude.{map}
use Rattle.std.specs.Array.{IsMapOf, MapsFrom}
use Rattle.std.specs.Fn.{Called}
use Rattle.std.proofs.lemmas.Bool.{cases_order}
use Rattle.std.proofs.lemmas.List.{same_lists, get_or-map, length-map}
use denote.Param.Members.{Mut}

module _ {F A B : Type 0} (g : Mut F (A × Unit {0}) B) (f : F) (h : A → B) (k : (x : A) (y : B) (q : F) → Called g f (x, tt) y q → (q ≡ f) × (y ≡ h x)) where
  each : (n i : ℕ) (q : F) (xs : List A) (ys : List B) → q ≡ f → MapsFrom g q xs ys i n → (j : ℕ) (d : A) (e : B) → i ≤ j → j < i + n → get_or ys j e ≡ h (get_or xs j d)
  each zero i q xs ys same m j d e low high = absurd (omega arith)
  each (suc n) i q xs ys same m j d e low high = by (each n (i + 1) m.0 xs ys) (cases_order i j)
    where
      called : Called g f (m.1, tt) m.2 m.0
      called = subst (λ p. Called g p (m.1, tt) m.2 m.0) same m.5

      by : (m.0 ≡ f → MapsFrom g m.0 xs ys (i + 1) n → (j : ℕ) (d : A) (e : B) → i + 1 ≤ j → j < i + 1 + n → get_or ys j e ≡ h (get_or xs j d)) → (i ≡ j) ⊎ ((i < j) ⊎ (j < i)) → get_or ys j e ≡ h (get_or xs j d)
      by rest (inl p) = ap (λ a. get_or ys a e) (sym p) ∙ m.4.1 e ∙ (k _ _ _ called).1 ∙ ap h (sym (m.3.1 d)) ∙ ap (λ a. h (get_or xs a d)) p
      by rest (inr (inl l)) = rest (k _ _ _ called).0 m.6 j d e (omega arith) (omega arith)
      by rest (inr (inr l)) = absurd (omega arith)

  pub mapped : (n : ℕ) (xs : List A) (ys : List B) → length xs ≡ n → IsMapOf g f xs ys n → ys ≡ map h xs
  mapped n [] ys size m = same_lists ys [] (m.long ∙ sym size) (λ j e l. absurd (omega (arith, m.long)))
  mapped n (x ∷ rest) ys size m =
      let xs = x ∷ rest in
      same_lists ys (map h xs) (m.long ∙ sym size ∙ sym (length-map xs h))
      (λ j e l. each n 0 f xs ys refl m.each j x e (omega arith) (omega (arith, m.long)) ∙ sym (get_or-map h xs j x e (omega (arith, m.long))))
