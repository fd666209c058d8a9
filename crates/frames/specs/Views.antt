-- What a frame that was read says.
use Rattle.std.specs.Prelude.{ℕ, ◌/◌, ◌≤◌, min, List, length, Ok, Err, Result}
use Rattle.refusals.specs.declared.refusal.Refusal.{Refusal}
use Rattle.frames.specs.declared.frame.Frame.{Frame}
use Rattle.frames.specs.Bytes.{Fields, fields, links_of}

-- how many whole links the bytes hold, of eight at most
abbrev pub count_of : List ℕ → ℕ
count_of bs = min (length bs / 5) 8

-- the header as it was taken apart, and the links of the rest
abbrev pub fields_of : Frame → Fields
fields_of f = let bs = f.links.now in fields f.item f.value (links_of (count_of bs) bs)

-- what the reader answers, with the fields for the frame
abbrev pub view_of : Result Frame Refusal → Result Fields Refusal
view_of (Ok f) = Ok (fields_of f)
view_of (Err e) = Err e

-- 1 to 8 links
pub record Whole (f : Fields) : Type 0 where
  pub some : 1 ≤ length f.links
  pub few : length f.links ≤ 8
