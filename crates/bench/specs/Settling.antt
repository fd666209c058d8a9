-- What settle does: every delivery that is left, then time, then every decision.
use Rattle.std.specs.Prelude.{◌≡◌, ℕ, zero, suc, ◌+◌, max, Bool, length, is_some, Some, None, Ok, Err, Option, Result, slice_index_or}
use Rattle.refusals.specs.Places.{first}
use Rattle.refusals.specs.declared.refusal.Refusal.{Refusal}
pub use Rattle.plans.specs.Readings.{latest}
use Rattle.plans.specs.Setups.{Setup}
use Rattle.processor.specs.Windows.{delta_of}
use Rattle.bench.specs.Model.{Core, Model}
use Rattle.bench.specs.Calls.{no_flight, goal_of, with_time}
use Rattle.bench.specs.Flights.{on_core, bytes_of, marks, receives}
use Rattle.bench.specs.Sending.{decides}

abbrev pub with_goal : ℕ → Option ℕ → Option (ℕ × ℕ)
with_goal i None = None
with_goal i (Some q) = Some (i, q)

abbrev pub goal_at : Core → Option ℕ → Option (ℕ × ℕ)
goal_at c None = None
goal_at c (Some i) = with_goal i (goal_of c.turned (slice_index_or c.flights i no_flight))

abbrev pub has_goal : Core → ℕ → Bool
has_goal c i = is_some (goal_of c.turned (slice_index_or c.flights i no_flight))

-- the lowest flight with a correct goal, and its lowest such goal, both by place
unfoldable pub next : Core → Option (ℕ × ℕ)
next c = goal_at c (first (has_goal c) (length c.flights))

-- the way of the flight at place i to place q ends, whatever is answered
abbrev pub ended : ℕ → ℕ → Result ℕ Refusal × Model → Model
ended i q x = on_core x.1 (marks x.1.core i q)

-- the flight at place i comes to place q, and its way there ends
abbrev pub comes : (ℕ → Bool) → (ℕ → ℕ → Bool) → Setup → ℕ → ℕ → ℕ → Model → Model
comes admitted same s z i q m = ended i q (receives admitted same s z q (bytes_of (slice_index_or m.core.flights i no_flight)) m)

-- n deliveries lead from m, each of the next flight to its next goal; z is the number of a new seal
pub data Delivered (admitted : ℕ → Bool) (same : ℕ → ℕ → Bool) (s : Setup) (m : Model) : ℕ → Model → Type 0 where
  none : Delivered admitted same s m 0 m
  more : {n : ℕ} {k : Model} (z i q : ℕ) → Delivered admitted same s m n k → next k.core ≡ Some (i, q) → Delivered admitted same s m (n + 1) (comes admitted same s z i q k)

-- now rises to the largest T + Δ, unless it is past it
abbrev pub risen : Setup → Core → Core
risen s c = with_time c (max c.time (latest s.agenda + delta_of s))

-- processor p decides the items 1 to k, one after the other; where it has turned, it is refused and nothing changes
unfoldable pub decides_items : ℕ → ℕ → Core → Core
decides_items p zero c = c
decides_items p (suc k) c = (decides p (suc k) (decides_items p k c)).1

-- the processors 1 to p decide the items 1 to k
unfoldable pub decides_all : ℕ → ℕ → Core → Core
decides_all zero k c = c
decides_all (suc p) k c = decides_items (suc p) k (decides_all p k c)

abbrev pub concludes : Setup → Core → Core
concludes s c = decides_all s.n (length s.agenda) (risen s c)

-- settle: the refusal of the making; or n deliveries until none is left, then time, then decisions
abbrev pub Settles : (ℕ → Bool) → (ℕ → ℕ → Bool) → Model → Result ℕ Refusal → Model → Type 0
Settles admitted same m (Err r) l = (m.core.plan ≡ Err r) × (l ≡ m)
Settles admitted same m (Ok n) l =
    (s : Setup) × (k : Model) × (m.core.plan ≡ Ok s) × Delivered admitted same s m n k × (next k.core ≡ None) × (l ≡ on_core k (concludes s k.core))
