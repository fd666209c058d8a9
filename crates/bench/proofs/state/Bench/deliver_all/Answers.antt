use Rattle.std.proofs.Common.{◌+◌, ◌≤◌, sym, subst, arith}
use Rattle.plans.specs.Setups.{setup_of}
use Rattle.bench.specs.Model.{Model, model_of, core_of}
use Rattle.bench.specs.Settling.{Delivered}
use Rattle.bench.proofs.Weights.{weight, weight_few, falls}
use Rattle.bench.proofs.state.Bench.deliver_all.Given as given
use Rattle.bench.proofs.state.Bench.deliver_all.Goals as goal

pub loop-way-init : goal.loop-way-init
loop-way-init g c = (Delivered.none, omega arith)

pub overflow_add-done : goal.overflow_add-done
overflow_add-done g c = omega (arith, weight_few c.args.self.now.inner.flights c.args.self.now.few, c.loop-way.invariant.1)

-- one delivery leaves less
less : (g : given.Over) (c : goal.After-bring g) → weight (core_of c.bring.new.self.inner).flights + 1 ≤ weight (core_of c.loop-way.self.inner).flights
less g c =
    let m = model_of g.S.Scheme.meaning c.loop-way.self in
    let d = c.bring.ensures in
    let P : Model → Type 0 = λ k. weight k.core.flights + 1 ≤ weight m.core.flights in
    subst P (sym d.1) (falls g.K.Kind.admitted g.K.Kind.same (setup_of c.args.plan.now) d.0 c.in-Some.way.0 c.in-Some.way.1 m (sym c.in-Some.ensures.is))

pub loop-way-smaller : goal.loop-way-smaller
loop-way-smaller g c = let k = less g c in omega arith

pub loop-way-preserved : goal.loop-way-preserved
loop-way-preserved g c =
    let k = less g c in
    let d = c.bring.ensures in
    let m = model_of g.S.Scheme.meaning c.args.self.now in
    let P : Model → Type 0 = λ x. Delivered g.K.Kind.admitted g.K.Kind.same (setup_of c.args.plan.now) m (c.loop-way.done + 1) x in
    (subst P (sym d.1) (Delivered.more d.0 c.in-Some.way.0 c.in-Some.way.1 c.loop-way.invariant.0 (sym c.in-Some.ensures.is)), omega (arith, c.loop-way.invariant.1))
