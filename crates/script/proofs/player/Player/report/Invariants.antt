use Rattle.std.proofs.Common.{◌≡◌, ◌++◌, ◌-◌, string_bytes}
use Rattle.bench.specs.Model.{model_of}
use Rattle.script.specs.Transcript.{item_lines}
use Rattle.script.proofs.player.Player.report.Given as goal

abbrev pub invariant-loop-item : goal.invariant-loop-item
invariant-loop-item g l = string_bytes l.self.out ≡ string_bytes l.fn.self.out ++ item_lines (model_of g.S.Scheme.meaning l.bench) (l.item - 1)
