-- The links of a frame one by one, and the texts that they seal.
use Rattle.std.specs.Prelude.{ℕ, ◌+◌, ◌-◌, Bool, cond, ◌&&◌, List, ◌++◌, map, length, take, Some, None, Option, nat_le, slice_index_or}
use Rattle.frames.specs.declared.link.Link.{Link}
use Rattle.frames.specs.Bytes.{Fields, header, placed}

-- whether the frame has a link k, counted from 1
abbrev pub is_link : Fields → ℕ → Bool
is_link f k = nat_le 1 k && nat_le k (length f.links)

abbrev pub no_link : Link
no_link = record { processor = 0; seal = 0 }

-- link k, counted from 1
abbrev pub link_at : Fields → ℕ → Option Link
link_at f k = cond (is_link f k) (Some (slice_index_or f.links (k - 1) no_link)) None

-- the links' processor numbers
abbrev pub numbers_of : List Link → List ℕ
numbers_of ls = map (λ l. l.processor) ls

-- the text that the last of some processors seals: the item, the value, how many they are and their numbers
unfoldable pub text_for : ℕ → ℕ → List ℕ → List ℕ
text_for i v ps = header i v (length ps) ++ ps

-- the text of link k: the item, the value, k and the first k processor numbers
abbrev pub text_of : Fields → ℕ → List ℕ
text_of f k = text_for f.item f.value (numbers_of (take k f.links))

-- what the writer of a text of k processors answers: its length, if it may be written
abbrev pub text_answer : Bool → ℕ → Option ℕ
text_answer ok k = cond ok (Some (10 + k)) None

-- what the writer of a text leaves in the buffer
abbrev pub text_left : Bool → List ℕ → List ℕ → List ℕ
text_left ok bs out = cond ok (placed bs out) out
