-- The readings of a plan's agenda.
use Rattle.std.specs.List.{fold}
use Rattle.std.proofs.Common.{max, ◌∙◌, ◌≡◌, ℕ, ◌≤◌, true, leb, List, [], ◌∷◌, arith}
use Rattle.std.proofs.lemmas.Bool.{and_parts, leb-true}
use Rattle.plans.specs.declared.plan.Appointment.{Appointment}
use Rattle.plans.specs.Readings.{latest}
use Rattle.plans.specs.Setups.{item_fits, items_fit, agenda_fits}

items_timely : (n : ℕ) (agenda : List Appointment) → items_fit n agenda ≡ true → latest agenda ≤ 1000000
items_timely n [] h = omega arith
items_timely n (a ∷ rest) h =
    let p = and_parts (item_fits n a) (items_fit n rest) h in
    let here = leb-true a.reading 1000000 (and_parts (leb a.sender n) _ (and_parts (leb 1 a.sender) _ p.0).1).1 in
    let later = items_timely n rest p.1 in
    omega arith

pub agenda_timely : (n : ℕ) (agenda : List Appointment) → agenda_fits n agenda ≡ true → latest agenda ≤ 1000000
agenda_timely n agenda h = items_timely n agenda (and_parts _ _ (and_parts _ _ h).1).1

-- the largest reading, gathered from the first item on
pub latest_folded : (m : ℕ) (agenda : List Appointment) → fold (λ m a. max m a.reading) m agenda ≡ max m (latest agenda)
latest_folded m [] = omega arith
latest_folded m (a ∷ rest) = latest_folded (max m a.reading) rest ∙ omega arith
