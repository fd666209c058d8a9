-- What deciding an item answers and leaves.
use Rattle.std.specs.Prelude.{ℕ, ◌+◌, Some, None, Ok, Option, Result, nat_le}
use Rattle.refusals.specs.declared.refusal.Refusal.{Refusal}
use Rattle.refusals.specs.declared.refusal.Refusal.TheVariants.{Item, Wait}
use Rattle.plans.specs.declared.plan.Appointment.{Appointment}
use Rattle.plans.specs.Setups.{Setup}
use Rattle.processor.specs.declared.part.Bag.TheVariants.{Closed}
use Rattle.processor.specs.declared.part.Decision.{Decision}
use Rattle.processor.specs.declared.part.Part.{Part}
use Rattle.processor.specs.Parts.{bag_of, record_of}
use Rattle.processor.specs.Steps.{passes, after_on}
use Rattle.processor.specs.Agendas.{appointed}
use Rattle.processor.specs.Windows.{delta_of}
use Rattle.processor.specs.Bags.{decision_of, with_bag}

-- the bag decides and is closed with the decision
abbrev pub closed : ℕ → Part → Result Decision Refusal × Part
closed item p = (Ok (decision_of (bag_of p item)), with_bag p item (Closed (decision_of (bag_of p item))))

-- a recorded decision stands; without one, the reading is at least T + Δ (row 16)
abbrev pub concluded : Setup → Appointment → ℕ → ℕ → Part → Option Decision → Result Decision Refusal × Part
concluded s a reading item p (Some d) = (Ok d, p)
concluded s a reading item p None = after_on p (passes (nat_le (a.reading + delta_of s) reading) Wait) (λ _. closed item p)

-- decide: the decision on an item of the agenda (row 11)
abbrev pub decided : Setup → ℕ → ℕ → Part → Result Decision Refusal × Part
decided s reading item p = after_on p (appointed s item Item) (λ a. concluded s a reading item p (record_of p item))
