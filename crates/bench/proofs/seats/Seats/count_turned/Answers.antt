use Rattle.std.proofs.Common.{rules}
use Rattle.bench.proofs.Wanting.{counted}
use Rattle.bench.proofs.seats.Seats.count_turned.Goals as goal

pub returns : goal.returns
returns c = search (rules, counted)
