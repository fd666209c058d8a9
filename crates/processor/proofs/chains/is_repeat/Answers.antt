use Rattle.std.proofs.Common.{eqb, get_or, ◌∙◌, arith}
use Rattle.refusals.proofs.Firsts.{first_any}
use Rattle.processor.proofs.chains.is_repeat.Goals as goal

pub returns : goal.returns
returns c = c.contains.ensures.value ∙ first_any (λ j. eqb j (get_or c.args.processors.now c.args.k 0)) c.args.processors.now c.args.k 0 (omega arith)
