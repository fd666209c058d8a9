-- What open, inject, deliver and decide answer and leave.
use Rattle.std.specs.Prelude.{ℕ, ◌-◌, Bool, false, cond, ◌&&◌, List, length, get_or, Ok, Err, Result, nat_le, slice_index_or}
use Rattle.refusals.specs.declared.refusal.Refusal.{Refusal}
use Rattle.refusals.specs.declared.refusal.Refusal.TheVariants.{Processor, Item, Faulty, Sound, Flight}
use Rattle.plans.specs.Setups.{Setup}
use Rattle.processor.specs.declared.owed.Owed.{Owed}
use Rattle.processor.specs.declared.part.Decision.{Decision}
use Rattle.processor.specs.declared.part.Part.{Part}
use Rattle.processor.specs.Agendas.{is_item}
use Rattle.processor.specs.Controllers.{is_processor}
use Rattle.processor.specs.Opening.{opened}
use Rattle.processor.specs.Deciding.{decided}
use Rattle.bench.specs.Model.{Core, Model}
use Rattle.bench.specs.Calls.{after, has_turned, seat, no_flight}
use Rattle.bench.specs.Flights.{part_at, reading_at, with_part, launches, keeps, receives, arrives}

-- the place of p, which is a processor (row 10), where the item is in the agenda (row 11) and p has not turned (row 12)
abbrev pub actor : Setup → Core → ℕ → ℕ → Result ℕ Refusal
actor s c p item = cond (is_processor s p) (cond (is_item s item) (cond (has_turned c p) (Err Faulty) (Ok (p - 1))) (Err Item)) (Err Processor)

-- a granted opening flies
abbrev pub speaks : Setup → ℕ → ℕ → Model → Result Owed Refusal × Part → Result ℕ Refusal × Model
speaks s z q m (Ok o, p) = keeps q p (launches s z o m)
speaks s z q m (Err r, p) = (Err r, m)

-- open: p opens the item by its own clock
abbrev pub opens : (ℕ → Bool) → ℕ → ℕ → ℕ → ℕ → Model → Result ℕ Refusal × Model
opens admitted z p item v m =
    after m.core.plan m (λ s. after (actor s m.core p item) m (λ q. speaks s z q m (opened admitted s (reading_at m.core q) item v (part_at m.core q))))

-- the place of the receiver: both are processors (row 10), the receiver has not turned (row 12) and the other has (row 13)
abbrev pub route : Setup → Core → ℕ → ℕ → Result ℕ Refusal
route s c from to =
    cond (is_processor s from && is_processor s to) (cond (has_turned c to) (Err Faulty) (cond (has_turned c from) (Ok (to - 1)) (Err Sound))) (Err Processor)

-- inject: a faulty processor sends any bytes to another
abbrev pub injects : (ℕ → Bool) → (ℕ → ℕ → Bool) → ℕ → ℕ → ℕ → List ℕ → Model → Result ℕ Refusal × Model
injects admitted same z from to bytes m =
    after m.core.plan m (λ s. after (route s m.core from to) m (λ q. receives admitted same s z q bytes m))

-- flight k is on its way to place q
abbrev pub is_on_way : Core → ℕ → ℕ → Bool
is_on_way c k q = (nat_le 1 k && nat_le k (length c.flights)) && slice_index_or (get_or c.flights (k - 1) no_flight).goals q false

-- the place of flight k, which is on its way to place q (row 23)
abbrev pub flight_at : Core → ℕ → ℕ → Result ℕ Refusal
flight_at c k q = cond (is_on_way c k q) (Ok (k - 1)) (Err Flight)

-- deliver: flight k comes to p
abbrev pub delivers : (ℕ → Bool) → (ℕ → ℕ → Bool) → ℕ → ℕ → ℕ → Model → Result ℕ Refusal × Model
delivers admitted same z k p m =
    after m.core.plan m (λ s. after (seat s m.core p) m (λ q. after (flight_at m.core k q) m (λ i. arrives admitted same s z i q m)))

-- a granted decision is recorded
abbrev pub records : ℕ → Core → Result Decision Refusal × Part → Result Decision Refusal × Core
records q c (Ok d, p) = (Ok d, with_part c q p)
records q c (Err r, p) = (Err r, c)

-- decide: p decides the item by its own clock
abbrev pub decides : ℕ → ℕ → Core → Result Decision Refusal × Core
decides p item c =
    after c.plan c (λ s. after (actor s c p item) c (λ q. records q c (decided s (reading_at c q) item (part_at c q))))
