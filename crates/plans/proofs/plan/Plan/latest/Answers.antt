use Rattle.std.proofs.Common.{arith, take}
use Rattle.plans.proofs.Bounds.{latest_folded}
use Rattle.plans.proofs.plan.Plan.latest.Goals as goal

pub returns : goal.returns
returns c = search (arith, latest_folded 0 (take c.args.self.now.count c.args.self.now.items))
