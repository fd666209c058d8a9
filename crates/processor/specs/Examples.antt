-- Examples of the rules.
use Rattle.std.specs.Prelude.{◌≡◌, ℕ, ◌+◌, ◌^◌, true, false, [], ◌∷◌, Ok, Err, Result}
use Rattle.refusals.specs.declared.refusal.Refusal.{Refusal}
use Rattle.refusals.specs.declared.refusal.Refusal.TheVariants.{Item, Early, Late}
use Rattle.kinds.specs.Codes.{is_setpoint, same_step}
use Rattle.plans.specs.declared.plan.Appointment.{Appointment}
use Rattle.plans.specs.Setups.{Setup, setup}
use Rattle.processor.specs.declared.part.Bag.TheVariants.{Empty, One, Two}
use Rattle.processor.specs.declared.part.Decision.TheVariants.{Default, Value}
use Rattle.processor.specs.Agendas.{appointed}
use Rattle.processor.specs.Windows.{window_of, in_window}
use Rattle.processor.specs.Bags.{decision_of}

abbrev pub item_one : Appointment
item_one = record { sender = 1; reading = 100 }

-- n is 4, f is 1, d is 5 and e is 2, and item 1 is processor 1's at 100
abbrev pub four : Setup
four = setup 4 1 5 2 (item_one ∷ [])

-- rows 38 and 39 for a frame of item 1 with so many links
abbrev pub timed : ℕ → ℕ → Result Unit Refusal
timed links reading = in_window (window_of four item_one.reading links) reading

pub record Examples : Type 0 where
  pub item : appointed four 1 Item ≡ Ok item_one
  pub one_at_97 : timed 1 97 ≡ Err Early
  pub one_at_98 : timed 1 98 ≡ Ok tt
  pub one_at_106 : timed 1 106 ≡ Ok tt
  pub one_at_107 : timed 1 107 ≡ Err Late
  pub two_at_95 : timed 2 95 ≡ Err Early
  pub two_at_96 : timed 2 96 ≡ Ok tt
  pub two_at_113 : timed 2 113 ≡ Ok tt
  pub two_at_114 : timed 2 114 ≡ Err Late
  pub none : decision_of Empty ≡ Default
  pub seven : decision_of (One 7) ≡ Value 7
  pub seven_and_nine : decision_of (Two 7 9) ≡ Default
  -- two's complement of -1,000,000 in four bytes
  pub lowest : 0x00000000FFF0BDC0 + 1000000 ≡ 2 ^ 32
  pub lowest_admitted : is_setpoint 0x00000000FFF0BDC0 ≡ true
  pub too_high : is_setpoint 0x00000000000F4241 ≡ false
  -- two operators of one recipe and quantity
  pub steps : same_step 0x000C000001F40003 0x000C000001F40004 ≡ true
