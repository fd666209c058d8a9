-- What the calls on clocks, faults and time answer and leave.
use Rattle.std.specs.Prelude.{ℕ, ◌+◌, ◌-◌, Bool, true, false, cond, not, ◌&&◌, List, [], ◌∷◌, length, is_some, Some, None, Ok, Err, Option, Result, nat_le, nat_lt, slice_index_or, slice_set}
use Rattle.refusals.specs.Places.{first}
use Rattle.refusals.specs.declared.refusal.Refusal.{Refusal}
use Rattle.refusals.specs.declared.refusal.Refusal.TheVariants.{Processor, Faulty, Spare, Offset, End, Due}
use Rattle.plans.specs.Setups.{Setup}
use Rattle.processor.specs.Controllers.{is_processor}
use Rattle.bench.specs.declared.flight.Flight.{Flight}
use Rattle.bench.specs.Model.{Core, Model}

-- a refusal ends the call and leaves m as it was; otherwise the call goes on
abbrev pub after : {X R M : Type 0} → Result X Refusal → M → (X → Result R Refusal × M) → Result R Refusal × M
after (Ok x) m next = next x
after (Err r) m next = (Err r, m)

-- a call that leaves the scheme as it was
abbrev pub lifted : {R : Type 0} → (Core → Result R Refusal × Core) → Model → Result R Refusal × Model
lifted call m = ((call m.core).0, record { core = (call m.core).1; scheme = m.scheme })

-- how many have turned
abbrev pub count_true : List Bool → ℕ
count_true [] = 0
count_true (x ∷ xs) = cond x 1 0 + count_true xs

abbrev pub has_turned : Core → ℕ → Bool
has_turned c p = slice_index_or c.turned (p - 1) false

-- the place of p, which is a processor (row 10) and has not turned (row 12)
abbrev pub seat : Setup → Core → ℕ → Result ℕ Refusal
seat s c p = cond (is_processor s p) (cond (has_turned c p) (Err Faulty) (Ok (p - 1))) (Err Processor)

abbrev pub with_turned : Core → List Bool → Core
with_turned c turned = record { plan = c.plan; time = c.time; offsets = c.offsets; turned = turned; parts = c.parts; flights = c.flights }

abbrev pub with_offsets : Core → List ℕ → Core
with_offsets c offsets = record { plan = c.plan; time = c.time; offsets = offsets; turned = c.turned; parts = c.parts; flights = c.flights }

abbrev pub with_time : Core → ℕ → Core
with_time c time = record { plan = c.plan; time = time; offsets = c.offsets; turned = c.turned; parts = c.parts; flights = c.flights }

-- turn: p turns faulty, while fewer than f have (row 14)
abbrev pub turns : ℕ → Core → Result Unit Refusal × Core
turns p c =
    after c.plan c (λ s.
    after (seat s c p) c (λ q.
    cond (nat_le s.f (count_true c.turned)) (Err Spare, c) (Ok tt, with_turned c (slice_set c.turned q true))))

-- set: p's clock is set to an offset of at most e (row 20)
abbrev pub sets : ℕ → ℕ → Core → Result Unit Refusal × Core
sets p offset c =
    after c.plan c (λ s.
    after (seat s c p) c (λ q.
    cond (nat_lt s.e offset) (Err Offset, c) (Ok tt, with_offsets c (slice_set c.offsets q offset))))

abbrev pub no_flight : Flight
no_flight = record { item = 0; author = 0; time = 0; frame = []; length = 0; goals = [] }

-- the flight is on its way to the processor at place q, which has not turned
abbrev pub wants : List Bool → Flight → ℕ → Bool
wants turned fl q = slice_index_or fl.goals q false && not (slice_index_or turned q false)

-- the place of the lowest goal that has not turned
abbrev pub goal_of : List Bool → Flight → Option ℕ
goal_of turned fl = first (wants turned fl) 8

-- the author p has not turned
abbrev pub is_correct : List Bool → ℕ → Bool
is_correct turned p = (nat_le 1 p && nat_le p 8) && not (slice_index_or turned (p - 1) false)

-- at time t the flight would be past its time + d - 1, with its author and a goal correct
abbrev pub is_late : Setup → List Bool → ℕ → Flight → Bool
is_late s turned t fl = is_correct turned fl.author && (is_some (goal_of turned fl) && nat_le (fl.time + s.d) t)

-- the place of the lowest flight that would be late
abbrev pub overdue : Setup → Core → ℕ → Option ℕ
overdue s c t = first (λ i. is_late s c.turned t (slice_index_or c.flights i no_flight)) (length c.flights)

-- row 22 tells the flight's number
abbrev pub unless_due : Option ℕ → Core → ℕ → Result ℕ Refusal × Core
unless_due (Some i) c t = (Err (Due (i + 1)), c)
unless_due None c t = (Ok t, with_time c t)

-- advance: real time goes on by k, up to 2,000,000 (row 21), while nothing falls due
abbrev pub advances : ℕ → Core → Result ℕ Refusal × Core
advances k c =
    after c.plan c (λ s.
    cond (nat_lt 2000000 (c.time + k)) (Err End, c) (unless_due (overdue s c (c.time + k)) c (c.time + k)))
