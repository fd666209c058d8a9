use Rattle.std.proofs.Common.{◌≡◌, replicate, take}
use Rattle.frames.specs.Bytes.{placed}
use Rattle.frames.specs.Texts.{numbers_of}
use Rattle.frames.specs.Views.{fields_of}
use Rattle.frames.proofs.frame.Frame.processors.Given as goal

abbrev pub invariant-loop-k : goal.invariant-loop-k
invariant-loop-k l = l.numbers ≡ placed (numbers_of (take l.k (fields_of l.self).links)) (replicate 8 0)
