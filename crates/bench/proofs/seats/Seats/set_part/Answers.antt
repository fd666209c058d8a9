use Rattle.std.proofs.Common.{rules}
use Rattle.std.proofs.Math.Seq.{map-set, map-set_same}
use Rattle.bench.proofs.seats.Seats.set_part.Goals as goal

pub returns : goal.returns
returns c = search (rules, map-set, map-set_same)
