-- Links as bytes, one by one.
use Rattle.std.proofs.Common.{◌≡◌, ℕ, zero, suc, ◌*◌, ◌<◌, List, [], ◌∷◌, length, get_or, take, drop, refl, ap, arith}
use Rattle.std.specs.Int.Digits.{number_from_digits}
use Rattle.std.specs.List.{flat_map}
use Rattle.std.specs.Simd.{first_chunks}
use Rattle.std.proofs.lemmas.List.{take-take}
use Rattle.frames.specs.declared.link.Link.{Link}
use Rattle.frames.specs.Bytes.{link_bytes, link_of, links_of}
use Rattle.frames.specs.Texts.{no_link}

pub length_links : (ls : List Link) → length (flat_map link_bytes ls) ≡ 5 * length ls
length_links [] = refl
length_links (l ∷ ls) = omega (arith, length_links ls)

pub length_links_of : (n : ℕ) (bs : List ℕ) → length (links_of n bs) ≡ n
length_links_of zero bs = refl
length_links_of (suc n) bs = ap suc (length_links_of n (drop 5 bs))

-- a link is what its five bytes say
pub link_of_take : (bs : List ℕ) → link_of (take 5 bs) ≡ link_of bs
link_of_take [] = refl
link_of_take (b ∷ bs) = ap (λ xs. let l : Link = record { processor = b; seal = number_from_digits 256 xs } in l) (take-take 4 4 bs (omega arith))

-- a chunk of five bytes is a link's
pub link_of_chunk : (n i : ℕ) (bs d : List ℕ) → i < n → link_of (get_or (first_chunks 5 n bs) i d) ≡ get_or (links_of n bs) i no_link
link_of_chunk zero i bs d h = absurd (omega arith)
link_of_chunk (suc n) zero bs d h = link_of_take bs
link_of_chunk (suc n) (suc i) bs d h = link_of_chunk n i (drop 5 bs) d (omega arith)
