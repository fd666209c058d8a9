-- A call in steps, which ends at the first refusal.
use Rattle.std.specs.Prelude.{Bool, cond, Ok, Err, Result}
use Rattle.refusals.specs.declared.refusal.Refusal.{Refusal}

-- a test, and the row where it fails
abbrev pub passes : Bool → Refusal → Result Unit Refusal
passes ok row = cond ok (Ok tt) (Err row)

-- the next step, unless this one refuses
abbrev pub after : {X Y : Type 0} → Result X Refusal → (X → Result Y Refusal) → Result Y Refusal
after (Ok x) next = next x
after (Err r) next = Err r

-- the same on something that a refusal leaves as it was
abbrev pub after_on : {X R M : Type 0} → M → Result X Refusal → (X → Result R Refusal × M) → Result R Refusal × M
after_on m (Ok x) next = next x
after_on m (Err r) next = (Err r, m)
