use Rattle.refusals.specs.Table.{table}
use Rattle.std.proofs.Common.{rules}
use Rattle.refusals.proofs.Lookups.{none_of}
use Rattle.refusals.proofs.names.number_of.Goals as goal

pub returns-in_default-clause-is : goal.returns-in_default-clause-is
returns-in_default-clause-is c = none_of table c.args.name.now (search rules)
