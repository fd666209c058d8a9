-- Broadcasts under way: how one begins, and how it comes to a processor.
use Rattle.std.specs.Prelude.{ℕ, ◌+◌, min, Bool, true, false, cond, not, ◌&&◌, List, [], ◌∷◌, ◌++◌, length, take, replicate, Some, None, Ok, Err, Option, Result, nat_le, nat_lt, slice_index, slice_index_or, slice_set}
use Rattle.refusals.specs.Rows.{is_drop}
use Rattle.refusals.specs.declared.refusal.Refusal.{Refusal}
use Rattle.refusals.specs.declared.refusal.Refusal.TheVariants.{Room}
use Rattle.seals.specs.Meanings.{Meaning}
use Rattle.plans.specs.Setups.{Setup}
use Rattle.processor.specs.declared.owed.Owed.{Owed}
use Rattle.processor.specs.declared.part.Part.{Part}
use Rattle.processor.specs.declared.relaying.Unsent.{Unsent}
use Rattle.processor.specs.Naming.{is_named}
use Rattle.processor.specs.Receiving.{received}
use Rattle.processor.specs.Relaying.{relayed}
use Rattle.bench.specs.declared.flight.Flight.{Flight}
use Rattle.bench.specs.Model.{Core, Model}
use Rattle.bench.specs.Calls.{no_flight}
use Rattle.bench.specs.Reports.{no_part}

abbrev pub with_flights : Core → List Flight → Core
with_flights c flights = record { plan = c.plan; time = c.time; offsets = c.offsets; turned = c.turned; parts = c.parts; flights = flights }

abbrev pub with_parts : Core → List Part → Core
with_parts c parts = record { plan = c.plan; time = c.time; offsets = c.offsets; turned = c.turned; parts = parts; flights = c.flights }

-- the core changes, and the scheme stays
abbrev pub on_core : Model → Core → Model
on_core m c = record { core = c; scheme = m.scheme }

-- the processor at place q has another part
abbrev pub with_part : Core → ℕ → Part → Core
with_part c q p = with_parts c (slice_set c.parts q p)

abbrev pub part_at : Core → ℕ → Part
part_at c q = slice_index_or c.parts q no_part

-- what the clock of the processor at place q reads
abbrev pub reading_at : Core → ℕ → ℕ
reading_at c q = c.time + slice_index c.offsets q

-- a broadcast goes to every processor that it does not name
abbrev pub goes_to : Setup → Owed → ℕ → Bool
goes_to s o p = nat_le p s.n && not (is_named o p)

abbrev pub goals_for : Setup → Owed → List Bool
goals_for s o = goes_to s o 1 ∷ goes_to s o 2 ∷ goes_to s o 3 ∷ goes_to s o 4 ∷ goes_to s o 5 ∷ goes_to s o 6 ∷ goes_to s o 7 ∷ goes_to s o 8 ∷ []

-- the flight of a broadcast that was written as a frame of n bytes at time t
abbrev pub flight_for : Setup → ℕ → Owed → ℕ → List ℕ → Flight
flight_for s t o n frame = record { item = o.item; author = o.own; time = t; frame = frame; length = n; goals = goals_for s o }

abbrev pub flies : Core → Flight → Core
flies c fl = with_flights c (c.flights ++ (fl ∷ []))

-- after relaying: the broadcast is the next flight, and its number is answered; or the scheme's refusal is
abbrev pub becomes : Setup → Owed → Model → Result ℕ Unsent × Meaning × List ℕ → Result ℕ Refusal × Model
becomes s o m (Ok n, scheme, frame) =
    (Ok (length m.core.flights + 1), record { core = flies m.core (flight_for s m.core.time o n frame); scheme = scheme })
becomes s o m (Err u, scheme, frame) = (Err u.refusal, record { core = m.core; scheme = scheme })

-- what is owed is sealed, with z for the number of a new seal, and flies; there are places for 120
abbrev pub launches : Setup → ℕ → Owed → Model → Result ℕ Refusal × Model
launches s z o m = cond (nat_lt (length m.core.flights) 120) (becomes s o m (relayed z o m.scheme (replicate 45 0))) (Err Room, m)

-- the part of the processor at place q is kept once its broadcast flies
abbrev pub keeps : ℕ → Part → Result ℕ Refusal × Model → Result ℕ Refusal × Model
keeps q p (Ok n, m) = (Ok n, on_core m (with_part m.core q p))
keeps q p (Err r, m) = (Err r, m)

-- an accepted frame answers its new flight, or 0; a dropped one changes nothing
abbrev pub accepts : Setup → ℕ → ℕ → Model → Result (Option Owed) Refusal × Part → Result ℕ Refusal × Model
accepts s z q m (Ok (Some o), p) = keeps q p (launches s z o m)
accepts s z q m (Ok None, p) = (Ok 0, on_core m (with_part m.core q p))
accepts s z q m (Err r, p) = (Err r, m)

-- the processor at place q receives bytes, by its own clock
unfoldable pub receives : (ℕ → Bool) → (ℕ → ℕ → Bool) → Setup → ℕ → ℕ → List ℕ → Model → Result ℕ Refusal × Model
receives admitted same s z q bytes m =
    accepts s z q m (received admitted same s m.scheme.triples (reading_at m.core q) bytes (part_at m.core q))

-- the bytes of a flight's frame
abbrev pub bytes_of : Flight → List ℕ
bytes_of fl = take (min fl.length 45) fl.frame

-- the flight is no longer on its way to place q
abbrev pub marked : Flight → ℕ → Flight
marked fl q = record { item = fl.item; author = fl.author; time = fl.time; frame = fl.frame; length = fl.length; goals = slice_set fl.goals q false }

abbrev pub marks : Core → ℕ → ℕ → Core
marks c i q = with_flights c (slice_set c.flights i (marked (slice_index_or c.flights i no_flight) q))

-- a flight's way ends where its frame is accepted or dropped, and not where the scheme refuses to seal
abbrev pub ends_way : Result ℕ Refusal → Bool
ends_way (Ok n) = true
ends_way (Err r) = is_drop r

-- the way of the flight at place i to place q ends
abbrev pub lands : ℕ → ℕ → Result ℕ Refusal × Model → Result ℕ Refusal × Model
lands i q x = (x.0, cond (ends_way x.0) (on_core x.1 (marks x.1.core i q)) x.1)

-- the flight at place i comes to place q
abbrev pub arrives : (ℕ → Bool) → (ℕ → ℕ → Bool) → Setup → ℕ → ℕ → ℕ → Model → Result ℕ Refusal × Model
arrives admitted same s z i q m = lands i q (receives admitted same s z q (bytes_of (slice_index_or m.core.flights i no_flight)) m)
