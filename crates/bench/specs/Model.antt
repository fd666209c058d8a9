-- What a bench is, without the room that its arrays keep.
use Rattle.std.specs.Prelude.{ℕ, Bool, List, Result}
use Rattle.refusals.specs.declared.refusal.Refusal.{Refusal}
use Rattle.plans.specs.Setups.{Setup, setup_in}
use Rattle.processor.specs.declared.part.Part.{Part}
use Rattle.seals.specs.Meanings.{Meaning}
use Rattle.bench.specs.declared.state.Bench.{Bench}
use Rattle.bench.specs.declared.flight.Flight.{Flight}
use Rattle.bench.specs.declared.state.Inner.{Inner}

-- all but the scheme: the setup or the refusal of the making, real time, and for each processor the offset of its clock,
-- whether it has turned faulty, and its part; and the broadcasts in order
pub record Core : Type 0 where
  pub plan : Result Setup Refusal
  pub time : ℕ
  pub offsets : List ℕ
  pub turned : List Bool
  pub parts : List Part
  pub flights : List Flight

abbrev pub core_of : Inner → Core
core_of i = record {
  plan = setup_in i.plan;
  time = i.time;
  offsets = i.seats.offsets;
  turned = i.seats.turned;
  parts = i.seats.parts;
  flights = i.flights;
}

-- a bench, with its scheme by its meaning
pub record Model : Type 0 where
  pub core : Core
  pub scheme : Meaning

abbrev pub model_of : {S K : Type 0} → (S → Meaning) → Bench S K → Model
model_of meaning b = record { core = core_of b.inner; scheme = meaning b.scheme }
