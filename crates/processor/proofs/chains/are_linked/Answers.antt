use Rattle.std.proofs.Common.{sym, ◌∙◌}
use Rattle.processor.proofs.Linking.{linked_by}
use Rattle.processor.proofs.chains.are_linked.Goals as goal

pub returns-in-Some-first_own : goal.returns-in-Some-first_own
returns-in-Some-first_own c = linked_by c.args.n c.args.own c.args.processors.now _ (sym c.first_wrong.ensures.is ∙ c.in_default.is) (sym c.first_own.ensures.is ∙ c.in-Some-first_own.is)

pub returns : goal.returns
returns c = linked_by c.args.n c.args.own c.args.processors.now _ (sym c.first_wrong.ensures.is ∙ c.in_default.is) (sym c.first_own.ensures.is ∙ c.in_default-first_own.is)
