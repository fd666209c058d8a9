-- The readings of an agenda.
use Rattle.std.specs.Prelude.{ℕ, max, List, [], ◌∷◌}
use Rattle.plans.specs.declared.plan.Appointment.{Appointment}

-- the largest
abbrev pub latest : List Appointment → ℕ
latest [] = 0
latest (a ∷ rest) = max a.reading (latest rest)
