use Rattle.std.proofs.Common.{ℕ, List, ◌++◌, length, string_bytes}
use Rattle.lines.specs.Left.{left}
use Rattle.script.specs.Settings.{setting_of, unset}
use Rattle.script.specs.Transcript.{Opens, Prints}
use Rattle.script.proofs.player.Player.open.Given as goal

abbrev pub invariant-loop-setting : goal.invariant-loop-setting
invariant-loop-setting l =
    (o : List ℕ) → Opens (setting_of l.setting) (left l.self.lines) o → Prints (Opens unset (left l.fn.self.lines)) (string_bytes l.fn.self.out) (string_bytes l.self.out ++ o)

abbrev pub decreases-loop-setting : goal.decreases-loop-setting
decreases-loop-setting l = length (left l.self.lines)
