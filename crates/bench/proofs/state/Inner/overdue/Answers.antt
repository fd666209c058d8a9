use Rattle.std.proofs.Common.{◌≡◌, ◌∙◌, rules}
use borrow.Author.Tests.{tests}
use Rattle.std.proofs.lemmas.Iterator.{YieldsList-from_slice}
use Rattle.std.proofs.lemmas.Iterator.Search.{position_from_yields_List}
use Rattle.std.specs.List.{position}
use Rattle.plans.specs.Setups.{setup_of}
use Rattle.refusals.proofs.Firsts.{first_position}
use Rattle.bench.specs.Calls.{is_late, no_flight}
use Rattle.bench.proofs.state.Inner.overdue.Goals as goal

pub returns-clause-is : goal.returns-clause-is
returns-clause-is c =
    let flights = c.args.self.now.flights in
    let late = is_late (setup_of c.args.plan.now) c.args.self.now.seats.turned c.args.t in
    let chain : c.position.result ≡ position late flights = position_from_yields_List late _ _ _ c.position.ensures.ran (YieldsList-from_slice flights (cc)) (λ x b q k. search (rules, tests)) in
    chain ∙ first_position late flights no_flight
