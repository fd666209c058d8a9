-- Whom an owed broadcast names.
use Rattle.std.specs.Prelude.{ℕ, Bool, false, ◌||◌, List, [], ◌∷◌, ◌==◌}
use Rattle.frames.specs.Texts.{numbers_of}
use Rattle.processor.specs.declared.owed.Owed.{Owed}
use Rattle.processor.specs.Broadcasts.{links_in}

abbrev pub is_in : List ℕ → ℕ → Bool
is_in [] p = false
is_in (x ∷ xs) p = x == p || is_in xs p

-- p is the author, or the number of a link so far
abbrev pub is_named : Owed → ℕ → Bool
is_named o p = o.own == p || is_in (numbers_of (links_in o)) p
