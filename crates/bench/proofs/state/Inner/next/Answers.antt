use Rattle.std.proofs.Common.{◌≡◌, ◌<◌, length, get_or, is_some, sym, ap, ◌∙◌, arith}
use Rattle.refusals.specs.Places.{first}
use Rattle.refusals.proofs.Firsts.{first_none, first_more, first_stop}
use Rattle.bench.specs.Model.{core_of}
use Rattle.bench.specs.Calls.{goal_of, no_flight}
use Rattle.bench.specs.Settling.{with_goal, goal_at, has_goal, next}
use Rattle.bench.proofs.state.Inner.next.Goals as goal

pub loop-i-init : goal.loop-i-init
loop-i-init c = first_none _

pub returns-in-Some-clause-is : goal.returns-in-Some-clause-is
unfolding next
returns-in-Some-clause-is c =
    let x = c.args.self.now in
    let i = c.loop-i.i in
    let lt : i < length x.flights = rw c.as_slice-flight-items.ensures.flights at c.loop-i-test.true in
    let e = ap (λ fs. goal_of x.seats.turned (get_or fs c.loop-i.i no_flight)) (sym c.as_slice-flight-items.ensures.flights) ∙ sym c.goal_of.ensures ∙ c.in-Some.is in
    let f = first_stop (has_goal (core_of x)) i (length x.flights) lt c.loop-i.invariant (ap is_some e) in
    sym (ap (goal_at (core_of x)) f ∙ ap (with_goal i) e)

pub loop-i-preserved : goal.loop-i-preserved
loop-i-preserved c =
    let x = c.args.self.now in
    let e = ap (λ fs. goal_of x.seats.turned (get_or fs c.loop-i.i no_flight)) (sym c.as_slice-flight-items.ensures.flights) ∙ sym c.goal_of.ensures ∙ c.in_default.is in
    first_more (has_goal (core_of x)) c.loop-i.i c.loop-i.invariant (ap is_some e)

pub returns-clause-is : goal.returns-clause-is
unfolding next
returns-clause-is c =
    let x = c.args.self.now in
    let e : length x.flights ≡ c.loop-i.i = ap length (sym c.as_slice-flight-items.ensures.flights) ∙ omega (arith, c.loop-i-test.false) in
    sym (ap (goal_at (core_of x)) (ap (first (has_goal (core_of x))) e ∙ c.loop-i.invariant))
