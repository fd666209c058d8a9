-- One more digit of a number, and two more of a byte string. Assumes nothing.
use Rattle.std.proofs.Common.{set, ◌≡◌, ℕ, suc, ◌+◌, ◌-◌, ◌*◌, ◌^◌, ◌<◌, ◌≤◌, List, [], ◌∷◌, ◌++◌, length, get_or, take, drop, Some, None, Option, sym, refl, ap, ◌∙◌, append_assoc, mul-le-mul_left, mul-suc, arith}
use native.Mathlib.Nat.{pow-succ', pow-le-pow_right}
use Rattle.std.specs.Option.{option_map}
use Rattle.std.proofs.lemmas.List.{take_more_set, take_rest}
use Rattle.lines.specs.Cut.{head, tail, tails}
use Rattle.lines.specs.Digits.{number_of, numbers_of, and_then, byte_of, bytes_of}

-- one more digit of a number that n digits can write
pub room_for_digit : (base i n v d : ℕ) → 0 < base → v < base ^ i → d < base → i < n → base ^ n ≤ 2 ^ 64 → base * v + d < 2 ^ 64
room_for_digit base i n v d some h low more few =
    let grown : base ^ suc i ≤ base ^ n = pow-le-pow_right {n = base} some (omega arith) in
    let power : base ^ suc i ≡ base * base ^ i = rw pow-succ' refl in
    omega (arith, grown, power, few, low, mul-suc base v, mul-le-mul_left {m = suc v} base h)

one_byte : (o : Option (List ℕ)) (b : ℕ) (xs ys : List ℕ) → ys ≡ xs ++ b ∷ [] → option_map (λ zs. xs ++ zs) (option_map (λ zs. b ∷ zs) o) ≡ option_map (λ zs. ys ++ zs) o
one_byte None b xs ys e = refl
one_byte (Some zs) b xs ys e = ap Some (sym (append_assoc xs (b ∷ []) zs) ∙ ap (λ v. v ++ zs) (sym e))

pub two_digits : (rest : List ℕ) (b : ℕ) (xs ys : List ℕ) → Some b ≡ byte_of (get_or rest 0 0) (get_or rest 1 0) → ys ≡ xs ++ b ∷ [] → option_map (λ zs. xs ++ zs) (bytes_of rest) ≡ option_map (λ zs. ys ++ zs) (bytes_of (take (length rest - 2) (drop 2 rest)))
two_digits [] b xs ys is e = absurd (grind arith)
two_digits (h ∷ []) b xs ys is e = absurd (grind arith)
two_digits (h ∷ l ∷ rest) b xs ys is e =
    ap (λ o. option_map (λ zs. xs ++ zs) (and_then o (λ x. option_map (λ zs. x ∷ zs) (bytes_of rest)))) (sym is)
    ∙ one_byte (bytes_of rest) b xs ys e
    ∙ ap (λ t. option_map (λ zs. ys ++ zs) (bytes_of t)) (sym (take_rest (h ∷ l ∷ rest) 2))

left_over : (n i : ℕ) → i < n → n - i ≡ suc (n - (i + 1))
left_over n i h = omega arith

-- one word more is read as a number
pub one_number : (n i : ℕ) (items : List ℕ) (x : ℕ) (ws next : List (List ℕ)) (o : Option (List ℕ))
    → i < n → length items ≡ n → Some x ≡ and_then (head ws) number_of → next ≡ tail ws
    → option_map (λ xs. take i items ++ xs) (numbers_of (n - i) ws) ≡ o
    → option_map (λ xs. take (i + 1) (set items i x) ++ xs) (numbers_of (n - (i + 1)) next) ≡ o
one_number n i items x ws next o more len is left so_far =
    ap (λ v. option_map (λ xs. take (i + 1) (set items i x) ++ xs) (numbers_of (n - (i + 1)) v)) left
    ∙ sym (one_byte (numbers_of (n - (i + 1)) (tail ws)) x (take i items) _ (take_more_set items i x (omega (arith, len))))
    ∙ ap (λ r. option_map (λ xs. take i items ++ xs) (and_then r (λ y. option_map (λ xs. y ∷ xs) (numbers_of (n - (i + 1)) (tail ws))))) is
    ∙ ap (λ k. option_map (λ xs. take i items ++ xs) (numbers_of k ws)) (sym (left_over n i more))
    ∙ so_far

pub one_tail : (n i : ℕ) (ws next all : List (List ℕ)) → i < n → next ≡ tail ws → tails (n - i) ws ≡ all → tails (n - (i + 1)) next ≡ all
one_tail n i ws next all more left so_far =
    ap (tails (n - (i + 1))) left ∙ ap (λ k. tails k ws) (sym (left_over n i more)) ∙ so_far
