-- The tests of a frame's links. Places are counted from 0, and a refusal tells them counted from 1.
use Rattle.std.specs.Prelude.{ℕ, ◌+◌, Bool, false, not, ◌&&◌, ◌||◌, List, length, is_some, Some, None, Ok, Err, Option, Result, nat_eq, nat_le, slice_index}
use Rattle.refusals.specs.Places.{first}
use Rattle.refusals.specs.declared.refusal.Refusal.{Refusal}
use Rattle.refusals.specs.declared.refusal.Refusal.TheVariants.{Own, Forged, Link as BadLink}
use Rattle.seals.specs.Meanings.{Triple, holds}
use Rattle.frames.specs.declared.link.Link.{Link}
use Rattle.frames.specs.Bytes.{Fields}
use Rattle.frames.specs.Texts.{link_at, numbers_of, text_of}
use Rattle.processor.specs.Steps.{after}

-- the row of the smallest place that fails, if one does
abbrev pub unless_at : (ℕ → Refusal) → Option ℕ → Result Unit Refusal
unless_at row None = Ok tt
unless_at row (Some k) = Err (row (k + 1))

-- the number at place k is the same as an earlier one
abbrev pub is_repeat : List ℕ → ℕ → Bool
is_repeat ps k = is_some (first (λ j. nat_eq (slice_index ps j) (slice_index ps k)) k)

-- the number at place k is not 1 to n, or it is a repeat
abbrev pub is_wrong : ℕ → List ℕ → ℕ → Bool
is_wrong n ps k = not (nat_le 1 (slice_index ps k) && nat_le (slice_index ps k) n) || is_repeat ps k

-- row 35: each number is 1 to n, and none is repeated
abbrev pub numbered : ℕ → List ℕ → Result Unit Refusal
numbered n ps = unless_at BadLink (first (is_wrong n ps) (length ps))

-- row 36: the receiver is none of them
abbrev pub not_own : ℕ → List ℕ → Result Unit Refusal
not_own own ps = unless_at Own (first (λ k. nat_eq (slice_index ps k) own) (length ps))

-- whether a link has the seal of its processor on the text
abbrev pub seals : List Triple → List ℕ → Option Link → Bool
seals ts text (Some l) = holds ts l.processor text l.seal
seals ts text None = false

-- whether link k, counted from 1, is sealed
abbrev pub is_sealed : List Triple → Fields → ℕ → Bool
is_sealed ts f k = seals ts (text_of f k) (link_at f k)

-- row 37: each link is sealed
abbrev pub sealed : List Triple → Fields → Result Unit Refusal
sealed ts f = unless_at Forged (first (λ k. not (is_sealed ts f (k + 1))) (length f.links))

-- rows 35 and 36, each over all numbers
abbrev pub linked : ℕ → ℕ → List ℕ → Result Unit Refusal
linked n own ps = after (numbered n ps) (λ _. not_own own ps)

-- rows 35, 36 and 37 of a frame at processor `own`
abbrev pub chained : ℕ → List Triple → ℕ → Fields → Result Unit Refusal
chained n ts own f = after (linked n own (numbers_of f.links)) (λ _. sealed ts f)
