-- Whether a scheme serves a run.
use Rattle.std.specs.Prelude.{ℕ, ◌+◌, Bool, cond, not, ◌&&◌, List, is_some, Ok, Err, Result, nat_le, nat_lt}
use Rattle.refusals.specs.Places.{first}
use Rattle.refusals.specs.declared.refusal.Refusal.{Refusal}
use Rattle.refusals.specs.declared.refusal.Refusal.TheVariants.{Scheme, Used}
use Rattle.seals.specs.Meanings.{Meaning, left_of, count_for}
use Rattle.plans.specs.declared.plan.Appointment.{Appointment}
use Rattle.plans.specs.Setups.{Setup, planned}

-- no signer up to n has under 16 left
abbrev pub has_room : ℕ → Meaning → Bool
has_room n m = not (is_some (first (λ k. nat_lt (left_of m (k + 1)) 16) n))

-- no signer up to n has a triple
abbrev pub is_unused : ℕ → Meaning → Bool
is_unused n m = not (is_some (first (λ k. nat_lt 0 (count_for (k + 1) m.triples)) n))

-- texts of 18 bytes are sealed and there is room (row 3), and nothing is sealed yet (row 4)
abbrev pub served : Meaning → Result Setup Refusal → Result Setup Refusal
served m (Ok s) = cond (nat_le 18 m.longest && has_room s.n m) (cond (is_unused s.n m) (Ok s) (Err Used)) (Err Scheme)
served m (Err r) = Err r

-- the setup of a run with the scheme, or the first of rows 1 to 4 that applies
abbrev pub prepared : ℕ → ℕ → ℕ → ℕ → List Appointment → Meaning → Result Setup Refusal
prepared n f d e agenda m = served m (planned n f d e agenda)
