use Rattle.std.proofs.Common.{◌≡◌, None}
use Rattle.refusals.specs.Places.{first}
use Rattle.bench.specs.Model.{core_of}
use Rattle.bench.specs.Settling.{has_goal}
use Rattle.bench.proofs.state.Inner.next.Given as goal

abbrev pub invariant-loop-i : goal.invariant-loop-i
invariant-loop-i l = first (has_goal (core_of l.self)) l.i ≡ None
