-- The pieces and the words that are still to come. Assumes nothing.
use Rattle.std.specs.Prelude.{◌≡◌, ◌⊎◌, ℕ, List, None, Option, Result, Some, IsUtf8}
use Rattle.std.specs.Borrow.{Bor}
use Rattle.std.specs.Option.{option_map}
use Rattle.std.specs.Result.{result_ok}
use Rattle.lines.specs.declared.pieces.Pieces.{Pieces}
use Rattle.lines.specs.declared.words.Words.{Words}
use Rattle.lines.specs.Cut.{head, pieces_of}

abbrev pub left : Pieces → List (List ℕ)
left p = pieces_of p.separator (option_map (λ (r : Bor (List ℕ)). r.now) p.rest)

abbrev pub ahead : Words → List (List ℕ)
ahead w = left w.parts

-- there is no next word, or its bytes are no text
abbrev pub NoText : List (List ℕ) → Type 0
NoText ws = (w : List ℕ) → Some w ≡ head ws → IsUtf8 w → ⊥

-- what the next word says as text; none where there is no next word, or its bytes are no text
abbrev pub Parsed : {A E : Type 0} → (List ℕ → Result A E → Type 0) → List (List ℕ) → Option A → Type 0
Parsed {A} {E} gives ws o =
    (NoText ws × (o ≡ None)) ⊎ ((w : List ℕ) × (r : Result A E) × (Some w ≡ head ws) × gives w r × (o ≡ result_ok r))
