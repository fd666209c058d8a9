-- What follows from the answer of a call of the bench.
use Rattle.std.proofs.Common.{◌≡◌, Bool, true, false, cond, Some, None, Ok, Err, Option, Result, sym, refl, ap}
use Rattle.refusals.specs.declared.refusal.Refusal.{Refusal}
use Rattle.plans.specs.Setups.{Setup}
use Rattle.bench.specs.Model.{Core, Model}
use Rattle.bench.specs.Calls.{after, lifted}
use Rattle.bench.specs.Flights.{on_core}
use Rattle.bench.specs.Runs.{Leaves}
use Rattle.processor.proofs.Outcomes.{no_ok, Only, only_err}
use Rattle.bench.proofs.Worlds.{World}
use Rattle.bench.proofs.View.{Sound}

-- the making was granted, so a call goes on
pub planned : (W : World) (m : Model) → Sound W m → {R M : Type 0} (k : M) (next : Setup → Result R Refusal × M) → after m.core.plan k next ≡ next W.setup
planned W m S k next = ap (λ a. after a k next) S.plan

-- what was granted was refused nowhere
module _ {R M : Type 0} (y : R) (l : M) where
  pub granted_after : {X : Type 0} (a : Result X Refusal) (m : M) (next : X → Result R Refusal × M) → after a m next ≡ (Ok y, l) → (x : X) × (a ≡ Ok x) × (next x ≡ (Ok y, l))
  granted_after (Ok x) m next e = (x, refl, e)
  granted_after (Err r) m next e = no_ok r y (ap (λ z. z.0) e)

  pub granted_unless : (b : Bool) (r : Refusal) (m : M) (x : Result R Refusal × M) → cond b (Err r, m) x ≡ (Ok y, l) → (b ≡ false) × (x ≡ (Ok y, l))
  granted_unless true r m x e = no_ok r y (ap (λ z. z.0) e)
  granted_unless false r m x e = (refl, e)

  pub granted_if : (b : Bool) (x : Result R Refusal × M) (r : Refusal) (m : M) → cond b x (Err r, m) ≡ (Ok y, l) → (b ≡ true) × (x ≡ (Ok y, l))
  granted_if true x r m e = (refl, e)
  granted_if false x r m e = no_ok r y (ap (λ z. z.0) e)

pub granted_lifted : {R : Type 0} (call : Core → Result R Refusal × Core) (m : Model) (y : R) (l : Model) → lifted call m ≡ (Ok y, l) → (c : Core) × (call m.core ≡ (Ok y, c)) × (on_core m c ≡ l)
granted_lifted call m y l e = (l.core, ap (λ z. (z.0, z.1.core)) e, ap (λ z. record { core = l.core; scheme = z.1.scheme }) e)

-- what a granted call of a run answered
pub granted_is : {R : Type 0} (x : Result R Refusal × Model) (l : Model) → Leaves x None l → (y : R) × (x ≡ (Ok y, l))
granted_is (Ok y, k) l h = (y, ap (λ (z : Model). (Ok y, z)) (sym h.1))
granted_is (Err r, k) l h = let e = h.0 in absurd (cc)

-- a refused one
pub refused_is : {R : Type 0} (x : Result R Refusal × Model) (r : Refusal) (l : Model) → Leaves x (Some r) l → x.0 ≡ Err r
refused_is (Ok y, k) r l h = let e = h.0 in absurd (cc)
refused_is (Err t, k) r l h = let e = h.0 in let q : t ≡ r = cc in ap Err q

-- and either
pub left_is : {R : Type 0} (x : Result R Refusal × Model) (r : Option Refusal) (l : Model) → Leaves x r l → x ≡ (x.0, l)
left_is x r l h = ap (λ (z : Model). (x.0, z)) (sym h.1)

-- every refusal of the next step, or of either side, fulfils Q
module _ (Q : Refusal → Type 0) {R M : Type 0} where
  pub only_next : {X : Type 0} (a : Result X Refusal) (m : M) (next : X → Result R Refusal × M) → Only Q a → ((x : X) → Only Q (next x).0) → Only Q (after a m next).0
  only_next (Ok x) m next h k = k x
  only_next (Err e) m next h k = only_err Q e (h e refl)

  pub only_if : (b : Bool) (x y : Result R Refusal × M) → Only Q x.0 → Only Q y.0 → Only Q (cond b x y).0
  only_if true x y h k = h
  only_if false x y h k = k
