-- The items of the agenda, numbered from 1.
use Rattle.std.specs.Prelude.{ℕ, ◌-◌, Bool, cond, ◌&&◌, length, Ok, Err, Result, nat_le, slice_index_or}
use Rattle.refusals.specs.declared.refusal.Refusal.{Refusal}
use Rattle.plans.specs.declared.plan.Appointment.{Appointment}
use Rattle.plans.specs.Setups.{Setup}

abbrev pub is_item : Setup → ℕ → Bool
is_item s item = nat_le 1 item && nat_le item (length s.agenda)

abbrev pub no_appointment : Appointment
no_appointment = record { sender = 0; reading = 0 }

-- who speaks on the item, and at which reading; the row for what is no item
abbrev pub appointed : Setup → ℕ → Refusal → Result Appointment Refusal
appointed s item row = cond (is_item s item) (Ok (slice_index_or s.agenda (item - 1) no_appointment)) (Err row)
