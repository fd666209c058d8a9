-- Numbers in bytes, the most significant first.
use Rattle.std.proofs.Common.{◌≡◌, ℕ, zero, suc, ◌+◌, ◌*◌, ◌/◌, ◌%◌, ◌^◌, ◌<◌, ◌≤◌, List, [], ◌∷◌, ◌++◌, length, get_or, take, drop, sym, ap, ◌∙◌, add-zero, add-suc, suc-add, pow-suc, zero-add, arith, length-drop}
use Rattle.std.specs.Int.Digits.{number_from_digits, number_from_digits_after, AllBelowBase}
use Rattle.std.proofs.lemmas.Int.Digits.{number_push, number_more}
use Rattle.std.proofs.ByRecursion.{All-take}
use Rattle.std.proofs.lemmas.List.{append_assoc, append-nil, get_or-drop, length-take-le}
use Rattle.frames.specs.Bytes.{big_endian}

-- the number that a number's bytes write
pub number_be : (n v : ℕ) → v < 256 ^ n → number_from_digits 256 (big_endian n v) ≡ v
number_be zero v h = omega arith
number_be (suc n) v h = number_push 256 (big_endian n (v / 256)) (v % 256) ∙ omega (arith, number_be n (v / 256) (omega (arith, pow-suc 256 n)))

-- the bytes of a number that bytes go on to write
be_after : (k a : ℕ) (bs : List ℕ) → AllBelowBase 256 bs → big_endian (k + length bs) (number_from_digits_after 256 a bs) ≡ big_endian k a ++ bs
be_after k a [] h = ap (λ n. big_endian n a) (add-zero k) ∙ sym (append-nil (big_endian k a))
be_after k a (b ∷ bs) h =
    let v = number_from_digits_after 256 (a * 256 + b) bs in
    let before : (a * 256 + b) / 256 ≡ a = omega (arith, h.0) in
    let last : (a * 256 + b) % 256 ≡ b = omega (arith, h.0) in
    ap (λ n. big_endian n v) (add-suc k (length bs) ∙ sym (suc-add k (length bs))) ∙ be_after (suc k) (a * 256 + b) bs h.1 ∙ (λ i. (big_endian k (before i) ++ last i ∷ []) ++ bs) ∙ append_assoc (big_endian k a) (b ∷ []) bs

-- the bytes of the number that m bytes write
pub be_number : (m : ℕ) (bs : List ℕ) → m ≤ length bs → AllBelowBase 256 bs → big_endian m (number_from_digits 256 (take m bs)) ≡ take m bs
be_number m bs h u =
    let v = number_from_digits 256 (take m bs) in
    ap (λ k. big_endian k v) (sym (zero-add (length (take m bs)) ∙ length-take-le m bs h)) ∙ be_after 0 0 (take m bs) (All-take (λ b. b < 256) m bs u)

-- one more byte after the first
digit_more : (bs : List ℕ) (i : ℕ) → suc i < length bs → number_from_digits 256 (take (i + 1) (drop 1 bs)) ≡ number_from_digits 256 (take i (drop 1 bs)) * 256 + get_or bs (1 + i) 0
digit_more bs i h = number_more 256 (drop 1 bs) i (omega (arith, length-drop 1 bs)) ∙ ap (λ x. number_from_digits 256 (take i (drop 1 bs)) * 256 + x) (get_or-drop 1 bs i 0)

-- the eight bytes after the first, as the library reads them
pub number_eight : (bs : List ℕ) → 9 ≤ length bs → number_from_digits 256 (take 8 (drop 1 bs)) ≡ get_or bs 1 0 * 72057594037927936 + get_or bs 2 0 * 281474976710656 + get_or bs 3 0 * 1099511627776 + get_or bs 4 0 * 4294967296 + get_or bs 5 0 * 16777216 + get_or bs 6 0 * 65536 + get_or bs 7 0 * 256 + get_or bs 8 0
number_eight bs h =
    let more = digit_more bs in
    omega (arith, more 0 (omega arith), more 1 (omega arith), more 2 (omega arith), more 3 (omega arith), more 4 (omega arith), more 5 (omega arith), more 6 (omega arith), more 7 (omega arith))
