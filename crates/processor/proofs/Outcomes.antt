-- What follows from the answer of a step.
use Rattle.std.proofs.Common.{◌≡◌, ℕ, Bool, true, false, cond, Ok, Err, Result, refl, ap, subst}
use Rattle.refusals.specs.declared.refusal.Refusal.{Refusal}
use Rattle.plans.specs.Setups.{Setup}
use Rattle.processor.specs.Agendas.{is_item, appointed}
use Rattle.processor.specs.Steps.{passes, after, after_on}

-- a refusal is no answer
pub no_ok : {X Z : Type 0} (e : Refusal) (y : X) → ◌≡◌ {A = Result X Refusal} (Err e) (Ok y) → Z
no_ok e y h = absurd (cc)

pub no_err : {X Z : Type 0} (y : X) (e : Refusal) → ◌≡◌ {A = Result X Refusal} (Ok y) (Err e) → Z
no_err y e h = absurd (cc)

-- what is answered, or refused, is one thing
pub ok_same : {X : Type 0} (x y : X) → ◌≡◌ {A = Result X Refusal} (Ok x) (Ok y) → x ≡ y
ok_same x y h = cc

pub err_same : {X : Type 0} (d e : Refusal) → ◌≡◌ {A = Result X Refusal} (Err d) (Err e) → d ≡ e
err_same d e h = cc

-- a test that did not refuse has passed
pub cond_ok : {X : Type 0} (b : Bool) (r : Result X Refusal) (y : X) (e : Refusal) → cond b r (Err e) ≡ Ok y → (b ≡ true) × (r ≡ Ok y)
cond_ok true r y e h = (refl, h)
cond_ok false r y e h = no_ok e y h

pub cond_err : {X : Type 0} (b : Bool) (e : Refusal) (r : Result X Refusal) (y : X) → cond b (Err e) r ≡ Ok y → (b ≡ false) × (r ≡ Ok y)
cond_err true e r y h = no_ok e y h
cond_err false e r y h = (refl, h)

-- where the last step answers, so did the one before
pub after_ok : {X Y : Type 0} (r : Result X Refusal) (next : X → Result Y Refusal) (y : Y) → after r next ≡ Ok y → (x : X) × (r ≡ Ok x) × (next x ≡ Ok y)
after_ok (Ok x) next y h = (x, refl, h)
after_ok (Err e) next y h = no_ok e y h

pub after_on_ok : {X R M : Type 0} (m m' : M) (r : Result X Refusal) (next : X → Result R Refusal × M) (y : R) → after_on m r next ≡ (Ok y, m') → (x : X) × (r ≡ Ok x) × (next x ≡ (Ok y, m'))
after_on_ok m m' (Ok x) next y h = (x, refl, h)
after_on_ok m m' (Err e) next y h = no_ok e y (ap (λ z. z.0) h)

-- every refusal that this may be fulfils Q
abbrev pub Only : {X : Type 0} → (Refusal → Type 0) → Result X Refusal → Type 0
Only Q r = (e : Refusal) → r ≡ Err e → Q e

module _ (Q : Refusal → Type 0) where
  pub only_ok : {X : Type 0} (x : X) → Only {X = X} Q (Ok x)
  only_ok x e h = no_err x e h

  pub only_err : {X : Type 0} (row : Refusal) → Q row → Only {X = X} Q (Err row)
  only_err row d e h = subst Q (err_same row e h) d

  pub only_cond : {X : Type 0} (b : Bool) (r s : Result X Refusal) → Only Q r → Only Q s → Only Q (cond b r s)
  only_cond true r s h k = h
  only_cond false r s h k = k

  pub only_passes : (b : Bool) (row : Refusal) → Q row → Only Q (passes b row)
  only_passes b row d = only_cond b (Ok tt) (Err row) (only_ok tt) (only_err row d)

  pub only_after : {X Y : Type 0} (r : Result X Refusal) (next : X → Result Y Refusal) → Only Q r → ((x : X) → Only Q (next x)) → Only Q (after r next)
  only_after (Ok x) next h k = k x
  only_after (Err e) next h k = only_err e (h e refl)

  pub only_after_on : {X R M : Type 0} (m : M) (r : Result X Refusal) (next : X → Result R Refusal × M) → Only Q r → ((x : X) → Only Q (next x).0) → Only Q (after_on m r next).0
  only_after_on m (Ok x) next h k = k x
  only_after_on m (Err e) next h k = only_err e (h e refl)

  pub only_appointed : (s : Setup) (i : ℕ) (row : Refusal) → Q row → Only Q (appointed s i row)
  only_appointed s i row d = only_cond (is_item s i) _ (Err row) (only_ok _) (only_err row d)
