-- A first word that names no form.
use Rattle.std.proofs.Common.{refl}
use Rattle.lines.specs.Grammar.{forms}
use Rattle.lines.specs.Left.{ahead}
use Rattle.lines.proofs.Naming.{no_form, no_text, unknown}
use Rattle.lines.proofs.forms.read_words.Goals as goal

pub returns-in_err-text : goal.returns-in_err-text
returns-in_err-text c = rw c.from_residual.ensures (no_form (ahead c.args.words) (no_text forms _ refl c.in_err-text.ensures.value))

pub returns-in_default : goal.returns-in_default
returns-in_default c =
    let w = c.in_default in
    no_form (ahead c.args.words)
    (unknown forms _ _ c.in_ok-text.ensures.value
    (w.not-bench, (w.not-item, (w.not-start, (w.not-set, (w.not-turn, (w.not-advance, (w.not-seal, (w.not-open, (w.not-inject, (w.not-deliver, (w.not-decide, tt))))))))))))
