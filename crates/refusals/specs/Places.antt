-- The smallest place that fails a test, which a refusal tells.
use Rattle.std.specs.Prelude.{ℕ, zero, suc, Bool, cond, Some, None, Option}

abbrev pub or_here : Option ℕ → Bool → ℕ → Option ℕ
or_here (Some k) b m = Some k
or_here None b m = cond b (Some m) None

-- the smallest place below m at which P says yes
unfoldable pub first : (ℕ → Bool) → ℕ → Option ℕ
first P zero = None
first P (suc m) = or_here (first P m) (P m) m
