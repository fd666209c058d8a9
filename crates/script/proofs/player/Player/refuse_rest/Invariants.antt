use Rattle.std.proofs.Common.{◌≡◌, ◌++◌, length, string_bytes}
use Rattle.lines.specs.Left.{left}
use Rattle.script.specs.Transcript.{out_of_order}
use Rattle.script.proofs.player.Player.refuse_rest.Given as goal

abbrev pub invariant-loop-self : goal.invariant-loop-self
invariant-loop-self l = string_bytes l.self.out ++ out_of_order (left l.self.lines) ≡ string_bytes l.fn.self.out ++ out_of_order (left l.fn.self.lines)

abbrev pub decreases-loop-self : goal.decreases-loop-self
decreases-loop-self l = length (left l.self.lines)
