-- A word that is text.
use Rattle.std.proofs.Common.{inr}
use Rattle.lines.proofs.words.Words.parse.Goals as goal

pub returns-clause-value : goal.returns-clause-value
returns-clause-value g c = inr (c.in_ok-text.field-0.now, c.parse.result, c.in_ok-text.ensures.value, c.parse.ensures.value, c.ok.ensures.value)
