-- What making a bench gives.
use Rattle.std.specs.Prelude.{ℕ, false, List, [], ◌∷◌, replicate, Some, None, Ok, Err, Option, Result}
use Rattle.refusals.specs.declared.refusal.Refusal.{Refusal}
use Rattle.seals.specs.Meanings.{Meaning}
use Rattle.plans.specs.declared.plan.Appointment.{Appointment}
use Rattle.plans.specs.Setups.{Setup}
use Rattle.plans.specs.Schemes.{prepared}
use Rattle.processor.specs.Parts.{fresh_part}
use Rattle.bench.specs.Seating.{Seating}
use Rattle.bench.specs.Model.{Core, Model}

-- every clock without an offset, nobody turned, nothing accepted
abbrev pub fresh_seating : Seating
fresh_seating = record {
  offsets = replicate 8 0;
  turned = replicate 8 false;
  parts = fresh_part 1 ∷ fresh_part 2 ∷ fresh_part 3 ∷ fresh_part 4 ∷ fresh_part 5 ∷ fresh_part 6 ∷ fresh_part 7 ∷ fresh_part 8 ∷ [];
}

-- time 0, fresh seats, nothing sent
abbrev pub fresh : Result Setup Refusal → Core
fresh plan = record {
  plan = plan;
  time = 0;
  offsets = fresh_seating.offsets;
  turned = fresh_seating.turned;
  parts = fresh_seating.parts;
  flights = [];
}

-- a fresh bench, or one that keeps the first of rows 1 to 4 that applies and answers every call with it
abbrev pub made : ℕ → ℕ → ℕ → ℕ → List Appointment → Meaning → Model
made n f d e agenda scheme = record { core = fresh (prepared n f d e agenda scheme); scheme = scheme }

-- the refusal of the making
abbrev pub refusal_in : Result Setup Refusal → Option Refusal
refusal_in (Ok s) = None
refusal_in (Err r) = Some r
