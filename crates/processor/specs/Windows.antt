-- When a frame is in time, and when an item is over.
use Rattle.std.specs.Prelude.{ℕ, ◌+◌, ◌-◌, ◌*◌, cond, Ok, Err, Result, nat_le, nat_lt}
use Rattle.refusals.specs.declared.refusal.Refusal.{Refusal}
use Rattle.refusals.specs.declared.refusal.Refusal.TheVariants.{Early, Late}
use Rattle.plans.specs.Setups.{Setup}

-- the window of a frame with k links for an item at reading t: the first reading in time, and the first that is late
abbrev pub window_of : Setup → ℕ → ℕ → ℕ × ℕ
window_of s t k = (t - k * s.e, t + k * (s.d + s.e))

-- the time that an item takes: f + 1 broadcasts, one after the other
abbrev pub delta_of : Setup → ℕ
delta_of s = (s.f + 1) * (s.d + s.e)

-- rows 38 and 39: the reading is in the window
abbrev pub in_window : ℕ × ℕ → ℕ → Result Unit Refusal
in_window w reading = cond (nat_lt reading w.0) (Err Early) (cond (nat_le w.1 reading) (Err Late) (Ok tt))
