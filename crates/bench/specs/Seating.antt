-- What a bench keeps for its processors.
use Rattle.std.specs.Prelude.{ℕ, Bool, List}
use Rattle.processor.specs.declared.part.Part.{Part}

-- for the processors 1 to 8, in order: the offset of each clock, whether each has turned faulty, and each part
pub record Seating : Type 0 where
  pub offsets : List ℕ
  pub turned : List Bool
  pub parts : List Part
