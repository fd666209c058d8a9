use Rattle.std.proofs.Common.{◌≡◌, ◌∙◌, ◌&&◌, not, ap, rules}
use borrow.Author.Tests.{tests}
use Rattle.std.specs.List.{position, zip}
use Rattle.std.proofs.lemmas.Iterator.{YieldsList-from_slice, YieldsList-from_zip}
use Rattle.std.proofs.lemmas.Iterator.Search.{position_from_yields_List}
use Rattle.bench.specs.Calls.{goal_of}
use Rattle.bench.proofs.Wanting.{first_wanted}
use Rattle.bench.proofs.seats.Seats.first_goal.Goals as goal

pub returns-clause-is : goal.returns-clause-is
returns-clause-is c =
    let goals = c.args.flight.now.goals in
    let seats = c.self.inside.seats in
    let chain : c.position.result ≡ position (λ x. x.0 && not x.1.turned) (zip goals seats) = position_from_yields_List (λ x. x.0 && not x.1.turned) c.position.new.self _ _ c.position.ensures.ran (YieldsList-from_zip (YieldsList-from_slice goals (cc)) (YieldsList-from_slice seats (cc))) (λ x b q k. search (rules, tests)) in
    chain ∙ first_wanted seats c.args.flight.now (search rules) c.self.invariant ∙ ap (λ v. goal_of v.turned c.args.flight.now) c.self.view_is
