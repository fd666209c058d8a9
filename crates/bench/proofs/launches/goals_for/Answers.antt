use Rattle.std.proofs.Common.{rules, [], ◌∷◌, refl}
use borrow.Author.Tests.{tests}
use Rattle.plans.specs.Setups.{setup_of}
use Rattle.bench.specs.Flights.{goes_to}
use Rattle.bench.proofs.Mapping.{mapped}
use Rattle.bench.proofs.launches.goals_for.Goals as goal

pub returns : goal.returns
returns c = mapped _ _ (goes_to (setup_of c.args.plan.now) c.args.owed.now) (λ x y q k. search (rules, tests)) 8 (1 ∷ 2 ∷ 3 ∷ 4 ∷ 5 ∷ 6 ∷ 7 ∷ 8 ∷ []) c.map.result refl c.map.ensures.items
