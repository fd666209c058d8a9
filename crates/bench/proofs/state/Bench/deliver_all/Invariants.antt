use Rattle.std.proofs.Common.{◌+◌, ◌≤◌}
use Rattle.plans.specs.Setups.{setup_of}
use Rattle.bench.specs.Model.{core_of, model_of}
use Rattle.bench.specs.Settling.{Delivered}
use Rattle.bench.proofs.Weights.{weight}
use Rattle.bench.proofs.state.Bench.deliver_all.Given as goal

abbrev pub invariant-loop-way : goal.invariant-loop-way
invariant-loop-way g l =
    Delivered g.K.Kind.admitted g.K.Kind.same (setup_of l.plan) (model_of g.S.Scheme.meaning l.initial.self) l.done (model_of g.S.Scheme.meaning l.self)
    × (l.done + weight (core_of l.self.inner).flights ≤ weight (core_of l.initial.self.inner).flights)

abbrev pub decreases-loop-way : goal.decreases-loop-way
decreases-loop-way g l = weight (core_of l.self.inner).flights
