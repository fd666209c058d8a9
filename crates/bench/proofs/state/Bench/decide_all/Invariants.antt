use Rattle.std.proofs.Common.{◌≡◌, ◌+◌, ◌-◌, ◌≤◌}
use Rattle.bench.specs.Model.{model_of}
use Rattle.bench.specs.Flights.{on_core}
use Rattle.bench.specs.Settling.{decides_all}
use Rattle.bench.proofs.state.Bench.decide_all.Given as goal

abbrev pub invariant-loop-p : goal.invariant-loop-p
invariant-loop-p g l =
    let m = model_of g.S.Scheme.meaning l.initial.self in
    (model_of g.S.Scheme.meaning l.self ≡ on_core m (decides_all (l.p - 1) l.items m.core)) × (l.p ≤ l.plan.n + 1)
