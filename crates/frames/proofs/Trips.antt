-- Writing and reading undo each other.
use Rattle.std.proofs.Common.{◌≡◌, ℕ, zero, suc, ◌*◌, ◌^◌, ◌<◌, ◌≤◌, List, [], ◌∷◌, ◌++◌, length, get_or, take, drop, Ok, sym, refl, ap, ◌∙◌, arith, length-drop}
use Rattle.std.specs.Int.Digits.{number_from_digits, AllBelowBase}
use Rattle.std.specs.List.{flat_map}
use Rattle.std.proofs.ByRecursion.{All-drop}
use Rattle.std.proofs.lemmas.List.{nil_from_length, take-append-drop, take_more}
use Rattle.std.proofs.lemmas.Bool.{and_from, le-leb, eq-eqb, cond-true}
use Rattle.frames.specs.declared.link.Link.{Link}
use Rattle.frames.specs.Bytes.{Fields, fields, Small, big_endian, link_bytes, links_of, encode, decoded, decode, size_of}
use Rattle.frames.proofs.Numbers.{number_be, be_number}
use Rattle.frames.proofs.Linking.{length_links, length_links_of}

links_again : (ls : List Link) → Small ls → links_of (length ls) (flat_map link_bytes ls) ≡ ls
links_again [] h = refl
links_again (l ∷ ls) h =
    let seal : number_from_digits 256 (big_endian 4 l.seal) ≡ l.seal = number_be 4 l.seal h.0.1 in
    let rest = links_again ls h.1 in
    (λ i. record { processor = l.processor; seal = seal i } ∷ rest i)

-- what is written reads back
pub read_written : (f : Fields) → f.value < 2 ^ 64 → 1 ≤ length f.links → length f.links ≤ 8 → Small f.links → decode (encode f) ≡ Ok f
unfolding encode decoded
read_written f v some few small =
    let s = length f.links in
    let shape = and_from _ _ (le-leb 1 s some) (and_from _ _ (le-leb s 8 few) (eq-eqb (length (encode f)) (size_of s) (omega (arith, length_links f.links)))) in
    let value = number_be 8 f.value v in
    let links = links_again f.links small in
    cond-true _ _ _ shape ∙ (λ i. Ok (fields f.item (value i) (links i)))

-- a byte and then a number of m bytes
front_again : (m : ℕ) (bs : List ℕ) → m < length bs → AllBelowBase 256 bs → get_or bs 0 0 ∷ big_endian m (number_from_digits 256 (take m (drop 1 bs))) ≡ take (suc m) bs
front_again m [] h u = absurd (omega arith)
front_again m (b ∷ bs) h u = ap (λ l. b ∷ l) (be_number m bs (omega arith) u.1)

bytes_again : (n : ℕ) (bs : List ℕ) → length bs ≡ 5 * n → AllBelowBase 256 bs → flat_map link_bytes (links_of n bs) ≡ bs
bytes_again zero bs l u = sym (nil_from_length bs (omega arith))
bytes_again (suc n) bs l u =
    let link = front_again 4 bs (omega arith) u in
    let rest = bytes_again n (drop 5 bs) (omega (arith, length-drop 5 bs)) (All-drop (λ b. b < 256) 5 bs u) in
    (λ i. link i ++ rest i) ∙ take-append-drop 5 bs

-- what is read writes back
pub written_read : (bs : List ℕ) → 10 ≤ length bs → length bs ≡ size_of (get_or bs 9 0) → AllBelowBase 256 bs → encode (decoded bs) ≡ bs
unfolding encode decoded
written_read bs t l u =
    let s = get_or bs 9 0 in
    let front = front_again 8 bs (omega arith) u in
    let count = length_links_of s (drop 10 bs) in
    let rest = bytes_again s (drop 10 bs) (omega (arith, length-drop 10 bs)) (All-drop (λ b. b < 256) 10 bs u) in
    (λ i. (front i ++ count i ∷ []) ++ rest i) ∙ ap (λ l. l ++ drop 10 bs) (sym (take_more bs 9 0 (omega arith))) ∙ take-append-drop 10 bs
