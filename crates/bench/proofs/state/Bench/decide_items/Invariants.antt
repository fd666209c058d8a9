use Rattle.std.proofs.Common.{◌≡◌, ◌+◌, ◌-◌, ◌≤◌}
use Rattle.bench.specs.Model.{model_of}
use Rattle.bench.specs.Flights.{on_core}
use Rattle.bench.specs.Settling.{decides_items}
use Rattle.bench.proofs.state.Bench.decide_items.Given as goal

abbrev pub invariant-loop-item : goal.invariant-loop-item
invariant-loop-item g l =
    let m = model_of g.S.Scheme.meaning l.initial.self in
    (model_of g.S.Scheme.meaning l.self ≡ on_core m (decides_items l.p (l.item - 1) m.core)) × (l.item ≤ l.items + 1)
