-- The library's hexadecimal digits, with zeros before them, are the last sixteen.
use Rattle.std.proofs.Common.{◌≡◌, ℕ, zero, suc, ◌+◌, ◌-◌, ◌*◌, ◌/◌, ◌%◌, ◌^◌, ◌<◌, ◌≤◌, ⊎_elim, true, false, List, [], ◌∷◌, ◌++◌, length, replicate, refl, sym, ap, ◌∙◌, append_assoc, add-one, arith}
use native.Mathlib.Nat.{pow-succ'}
use Rattle.std.specs.Fmt.{char_count, digit_glyph, digits, digits_onto, format_spec, padded_integral}
use Rattle.std.proofs.lemmas.Bool.{cond_both, eqb-true, eqb-false}
use Rattle.std.proofs.lemmas.List.{append-nil, replicate_more}
use Rattle.std.proofs.Math.Nat.{eq-zero-or-pos}
use Rattle.script.specs.Printing.{hex}

zeros : (k : ℕ) → hex k 0 ≡ replicate k 48
unfolding hex
zeros zero = refl
zeros (suc k) = ap (λ l. l ++ (48 ∷ [])) (zeros k) ∙ replicate_more k 48 ∙ rw add-one refl

-- k digits are zeros and the digits that the number has
abbrev Padded : ℕ → ℕ → List ℕ → List ℕ → Type 0
Padded k v acc ds = (p : ℕ) × (p + length ds ≡ k + length acc) × (replicate p 48 ++ ds ≡ hex k v ++ acc)

last_digit : (k v : ℕ) (acc : List ℕ) → v / 16 ≡ 0 → Padded (suc k) v acc (digit_glyph true (v % 16) ∷ acc)
unfolding hex
last_digit k v acc none =
    (k, omega arith, sym (append_assoc (hex k (v / 16)) (digit_glyph true (v % 16) ∷ []) acc ∙ ap (λ w. hex k w ++ (digit_glyph true (v % 16) ∷ acc)) none ∙ ap (λ l. l ++ (digit_glyph true (v % 16) ∷ acc)) (zeros k)))

one_more : (k v : ℕ) (acc ds : List ℕ) → Padded k (v / 16) (digit_glyph true (v % 16) ∷ acc) ds → Padded (suc k) v acc ds
unfolding hex
one_more k v acc ds (p, len, is) = (p, omega (arith, len), is ∙ sym (append_assoc (hex k (v / 16)) (digit_glyph true (v % 16) ∷ []) acc))

fewer : (k v : ℕ) → v < 16 ^ suc k → v / 16 < 16 ^ k
fewer k v small = let power : 16 ^ suc k ≡ 16 * 16 ^ k = rw pow-succ' refl in omega (arith, power, small)

some_left : (k v : ℕ) → v < 16 ^ suc k → (v / 16 ≡ 0 → ⊥) → 0 < k
some_left k v small more =
    ⊎_elim (λ none. let low : v / 16 < 16 ^ k = fewer k v small in let one : 16 ^ k ≡ 1 = ap (λ j. 16 ^ j) none in absurd (more (omega (arith, low, one))))
    (λ some. some) (eq-zero-or-pos k)

padded : (k f v : ℕ) (acc : List ℕ) → k ≤ f → 0 < k → v < 16 ^ k → Padded k v acc (digits_onto f 16 true v acc)
padded zero f v acc le some small = absurd (omega arith)
padded (suc k) zero v acc le some small = absurd (omega arith)
padded (suc k) (suc f) v acc le some small =
    cond_both _ _ _ (Padded (suc k) v acc) (λ yes. last_digit k v acc (eqb-true _ _ yes))
    (λ no. one_more k v acc _ (padded k f (v / 16) (digit_glyph true (v % 16) ∷ acc) (omega arith) (some_left k v small (eqb-false _ _ no)) (fewer k v small)))

digits_padded : (v : ℕ) → v < 16 ^ 16 → Padded 16 v [] (digits 16 true v)
unfolding digits
digits_padded v small = padded 16 64 v [] (omega arith) (omega arith) small

zero_padded : (p : ℕ) (ds : List ℕ) → p + length ds ≡ 16 + 0 → padded_integral (format_spec 32 0 4 16 (2 ^ 64 - 1)) false [] ds ≡ replicate p 48 ++ ds
unfolding padded_integral char_count
zero_padded p ds len =
    let room : 16 - length ds - 0 - 0 ≡ p = omega (arith, len) in
    rw room (ap (λ l. replicate p 48 ++ l) (append-nil ds))

from_padded : (v : ℕ) (ds : List ℕ) → Padded 16 v [] ds → padded_integral (format_spec 32 0 4 16 (2 ^ 64 - 1)) false [] ds ≡ hex 16 v
from_padded v ds (p, len, is) = zero_padded p ds len ∙ is ∙ append-nil (hex 16 v)

-- what `{:016X}` writes of a value
pub sixteen_digits : (v : ℕ) → v < 2 ^ 64 → padded_integral (format_spec 32 0 4 16 (2 ^ 64 - 1)) false [] (digits 16 true v) ≡ hex 16 v
sixteen_digits v small = from_padded v (digits 16 true v) (digits_padded v small)
