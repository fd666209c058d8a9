-- The decisions of the first processors have been written.
use Rattle.std.specs.Fmt.{HasWritten, IsPlainFormatter}
use Rattle.script.specs.Printing.{decision_words}
use Rattle.script.proofs.printing.ItemLineDisplay.fmt.Given as goal

abbrev pub invariant-loop-q : goal.invariant-loop-q
invariant-loop-q g l =
    IsPlainFormatter l.initial.f → HasWritten g.W.Write.write_str_gives l.initial.f (decision_words l.self.report.now.decisions l.q) l.f
