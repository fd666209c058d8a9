-- What a controller's processor is, and how it passes calls on to its part.
use Rattle.std.specs.Prelude.{ℕ, Bool, ◌&&◌, List, Ok, Err, Option, Result, nat_le}
use Rattle.refusals.specs.declared.refusal.Refusal.{Refusal}
use Rattle.refusals.specs.declared.refusal.Refusal.TheVariants.{Processor as NoProcessor}
use Rattle.seals.specs.Meanings.{Meaning}
use Rattle.plans.specs.declared.plan.Appointment.{Appointment}
use Rattle.plans.specs.Setups.{Setup, setup_of}
use Rattle.plans.specs.Schemes.{prepared}
use Rattle.processor.specs.declared.controller.Processor.{Processor}
use Rattle.processor.specs.declared.controller.Seat.{Seat}
use Rattle.processor.specs.declared.part.Decision.{Decision}
use Rattle.processor.specs.declared.part.Part.{Part}
use Rattle.processor.specs.Parts.{fresh_part, record_of}
use Rattle.processor.specs.Steps.{passes, after, after_on}

-- the setup or the refusal of the making, and the part
pub record Controller : Type 0 where
  pub plan : Result Setup Refusal
  pub part : Part

abbrev pub controller : Result Setup Refusal → Part → Controller
controller s p = record { plan = s; part = p }

-- the seat; where the making was refused, its refusal, and nobody's part
abbrev pub controller_in : Result Seat Refusal → Controller
controller_in (Ok s) = controller (Ok (setup_of s.plan)) s.part
controller_in (Err r) = controller (Err r) (fresh_part 0)

abbrev pub controller_of : {K : Type 0} → Processor K → Controller
controller_of c = controller_in c.seat

-- row 10: a processor is numbered 1 to n
abbrev pub is_processor : Setup → ℕ → Bool
is_processor s p = nat_le 1 p && nat_le p s.n

-- the setup of a run that `own` takes part in, or the first of rows 1 to 4 and 10 that applies
abbrev pub seated : ℕ → ℕ → ℕ → ℕ → List Appointment → ℕ → Meaning → Result Setup Refusal
seated n f d e agenda own m = after (prepared n f d e agenda m) (λ s. after (passes (is_processor s own) NoProcessor) (λ _. Ok s))

-- a part that has accepted nothing; where the making is refused, nobody's
abbrev pub started_by : ℕ → Result Setup Refusal → Controller
started_by own (Ok s) = controller (Ok s) (fresh_part own)
started_by own (Err r) = controller (Err r) (fresh_part 0)

-- new: a fresh processor, or one that keeps the refusal and answers every call with it
abbrev pub started : ℕ → ℕ → ℕ → ℕ → List Appointment → ℕ → Meaning → Controller
started n f d e agenda own m = started_by own (seated n f d e agenda own m)

-- a call on the part, with the setup
abbrev pub passed : {R : Type 0} → (Setup → Part → Result R Refusal × Part) → Controller → Result R Refusal × Controller
passed call c = after_on c c.plan (λ s. ((call s c.part).0, controller c.plan (call s c.part).1))

-- decision: what is recorded for the item, if anything is
abbrev pub recorded : ℕ → Controller → Result (Option Decision) Refusal
recorded item c = after c.plan (λ s. Ok (record_of c.part item))
