use Rattle.std.proofs.Common.{ℕ, List, ◌++◌, length, string_bytes}
use Rattle.bench.specs.Model.{model_of}
use Rattle.lines.specs.Left.{left}
use Rattle.script.specs.Calls.{values}
use Rattle.script.specs.Transcript.{Prints, Runs}
use Rattle.script.proofs.player.Player.run.Given as goal

abbrev pub invariant-loop-bench : goal.invariant-loop-bench
invariant-loop-bench g l =
    (o : List ℕ) → Runs (values g.K.Kind.admitted g.K.Kind.same) (model_of g.S.Scheme.meaning l.bench) (left l.self.lines) o
    → Prints (Runs (values g.K.Kind.admitted g.K.Kind.same) (model_of g.S.Scheme.meaning l.fn.bench) (left l.fn.self.lines)) (string_bytes l.fn.self.out) (string_bytes l.self.out ++ o)

abbrev pub decreases-loop-bench : goal.decreases-loop-bench
decreases-loop-bench g l = length (left l.self.lines)
