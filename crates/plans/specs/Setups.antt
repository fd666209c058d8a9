-- What is agreed before a run, and when it is refused.
use Rattle.std.specs.Prelude.{ℕ, ◌+◌, Bool, cond, ◌&&◌, List, length, take, Ok, Err, Result, nat_le}
use Rattle.std.specs.List.{list_all}
use Rattle.refusals.specs.declared.refusal.Refusal.{Refusal}
use Rattle.refusals.specs.declared.refusal.Refusal.TheVariants.{Size, Agenda}
use Rattle.plans.specs.declared.plan.Appointment.{Appointment}
use Rattle.plans.specs.declared.plan.Plan.{Plan}

-- the sizes n, f, d and e, and the agenda, whose items are numbered from 1
pub record Setup : Type 0 where
  pub n : ℕ
  pub f : ℕ
  pub d : ℕ
  pub e : ℕ
  pub agenda : List Appointment

abbrev pub setup : ℕ → ℕ → ℕ → ℕ → List Appointment → Setup
setup n f d e a = record { n = n; f = f; d = d; e = e; agenda = a }

abbrev pub setup_of : Plan → Setup
setup_of p = setup p.n p.f p.d p.e (take p.count p.items)

abbrev pub setup_in : Result Plan Refusal → Result Setup Refusal
setup_in (Ok p) = Ok (setup_of p)
setup_in (Err r) = Err r

-- n is 3 to 8, f is 0 to n - 2, d is 1 to 1,000 and e is 0 to 1,000
abbrev pub sizes_fit : ℕ → ℕ → ℕ → ℕ → Bool
sizes_fit n f d e = nat_le 3 n && (nat_le n 8 && (nat_le (f + 2) n && (nat_le 1 d && (nat_le d 1000 && nat_le e 1000))))

-- the sender is a processor, and the reading is at most 1,000,000
abbrev pub item_fits : ℕ → Appointment → Bool
item_fits n a = nat_le 1 a.sender && (nat_le a.sender n && nat_le a.reading 1000000)

abbrev pub items_fit : ℕ → List Appointment → Bool
items_fit n agenda = list_all (item_fits n) agenda

-- there are 1 to 8 items, and each fits
abbrev pub agenda_fits : ℕ → List Appointment → Bool
agenda_fits n agenda = nat_le 1 (length agenda) && (nat_le (length agenda) 8 && items_fit n agenda)

-- the setup, or row 1 or 2
abbrev pub planned : ℕ → ℕ → ℕ → ℕ → List Appointment → Result Setup Refusal
planned n f d e agenda = cond (sizes_fit n f d e) (cond (agenda_fits n agenda) (Ok (setup n f d e agenda)) (Err Agenda)) (Err Size)
