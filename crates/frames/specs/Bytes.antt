-- The bytes of a frame.
use Rattle.std.specs.Prelude.{ℕ, zero, suc, ◌+◌, ◌*◌, ◌/◌, ◌%◌, ◌^◌, ◌<◌, Bool, cond, ◌&&◌, List, [], ◌∷◌, ◌++◌, length, take, drop, Ok, Err, Result, ◌==◌, nat_le, slice_index, slice_index_or}
use Rattle.std.specs.Int.Digits.{number_from_digits}
use Rattle.std.specs.List.{flat_map, AllByRecursion}
use Rattle.refusals.specs.declared.refusal.Refusal.{Refusal}
use Rattle.refusals.specs.declared.refusal.Refusal.TheVariants.{Frame}
use Rattle.frames.specs.declared.link.Link.{Link}

-- what a frame says
pub record Fields : Type 0 where
  pub item : ℕ
  pub value : ℕ
  pub links : List Link

abbrev pub fields : ℕ → ℕ → List Link → Fields
fields i v ls = record { item = i; value = v; links = ls }

-- a number in n bytes, the most significant first
abbrev pub big_endian : ℕ → ℕ → List ℕ
big_endian zero v = []
big_endian (suc n) v = big_endian n (v / 256) ++ v % 256 ∷ []

-- a link: the processor's number and the four bytes of the seal
abbrev pub link_bytes : Link → List ℕ
link_bytes l = l.processor ∷ big_endian 4 l.seal

-- the item, the eight bytes of the value and a count
abbrev pub header : ℕ → ℕ → ℕ → List ℕ
header i v s = i ∷ (big_endian 8 v ++ s ∷ [])

-- the bytes of a frame: the header, and then the links
unfoldable pub encode : Fields → List ℕ
encode f = header f.item f.value (length f.links) ++ flat_map link_bytes f.links

-- the length of a frame with s links
abbrev pub size_of : ℕ → ℕ
size_of s = 10 + 5 * s

-- the link at the front of the bytes
abbrev pub link_of : List ℕ → Link
link_of bs = record { processor = slice_index bs 0; seal = number_from_digits 256 (take 4 (drop 1 bs)) }

-- the first n links of the bytes
abbrev pub links_of : ℕ → List ℕ → List Link
links_of zero bs = []
links_of (suc n) bs = link_of bs ∷ links_of n (drop 5 bs)

-- whether byte 9, the number of links, is 1 to 8, and the length is that of so many links
abbrev pub shaped : List ℕ → Bool
shaped bs = let s = slice_index_or bs 9 0 in nat_le 1 s && (nat_le s 8 && length bs == size_of s)

-- what bytes of that shape say
unfoldable pub decoded : List ℕ → Fields
decoded bs = fields (slice_index bs 0) (number_from_digits 256 (take 8 (drop 1 bs))) (links_of (slice_index bs 9) (drop 10 bs))

-- what a buffer says, all of its bytes; row 30 where they have not that shape
abbrev pub decode : List ℕ → Result Fields Refusal
decode bs = cond (shaped bs) (Ok (decoded bs)) (Err Frame)

-- a buffer after bytes were written to its front: what lies past them stays
abbrev pub placed : List ℕ → List ℕ → List ℕ
placed bs buf = bs ++ drop (length bs) buf

-- whether the frame has 1 to 8 links, and the buffer has room for it
abbrev pub fits : List ℕ → Fields → Bool
fits buf f = let s = length f.links in nat_le 1 s && (nat_le s 8 && nat_le (size_of s) (length buf))

-- what `write` answers
abbrev pub writes : List ℕ → Fields → Result ℕ Refusal
writes buf f = cond (fits buf f) (Ok (size_of (length f.links))) (Err Frame)

-- what `write` leaves in the buffer
abbrev pub written : List ℕ → Fields → List ℕ
written buf f = cond (fits buf f) (placed (encode f) buf) buf

-- links as their types hold them
abbrev pub Small : List Link → Type 0
Small ls = AllByRecursion (λ l. (l.processor < 256) × (l.seal < 2 ^ 32)) ls
