-- One item, and one processor, more.
use Rattle.std.proofs.Common.{◌≡◌, ℕ, zero, suc, ◌-◌, ◌≤◌, Result, refl, ap, ◌∙◌, arith}
use Rattle.refusals.specs.declared.refusal.Refusal.{Refusal}
use Rattle.processor.specs.declared.part.Decision.{Decision}
use Rattle.bench.specs.Model.{Core, Model}
use Rattle.bench.specs.Calls.{lifted}
use Rattle.bench.specs.Flights.{on_core}
use Rattle.bench.specs.Sending.{decides}
use Rattle.bench.specs.Settling.{decides_items, decides_all}

-- after k steps one more
next : (G : ℕ → Core) (step : ℕ → Core → Core) → ((k : ℕ) → step (suc k) (G k) ≡ G (suc k))
    → (k : ℕ) (m x y : Model) → 1 ≤ k → y ≡ on_core x (step k x.core) → x ≡ on_core m (G (k - 1)) → y ≡ on_core m (G k)
next G step more zero m x y h e before = absurd (omega arith)
next G step more (suc k) m x y h e before =
    let less : suc k - 1 ≡ k = omega arith in
    e ∙ ap (λ z. on_core z (step (suc k) z.core)) (rw less at before) ∙ ap (on_core m) (more k)

-- one decision more
pub items_next : (p item : ℕ) (m x y : Model) (r : Result Decision Refusal) → 1 ≤ item → (r, y) ≡ lifted (decides p item) x → x ≡ on_core m (decides_items p (item - 1) m.core) → y ≡ on_core m (decides_items p item m.core)
unfolding decides_items
items_next p item m x y r h e before = next (λ k. decides_items p k m.core) (λ k c. (decides p k c).1) (λ k. refl) item m x y h (ap (λ z. z.1) e) before

-- one processor more
pub all_next : (p k : ℕ) (m x y : Model) → 1 ≤ p → y ≡ on_core x (decides_items p k x.core) → x ≡ on_core m (decides_all (p - 1) k m.core) → y ≡ on_core m (decides_all p k m.core)
unfolding decides_all
all_next p k m x y h e before = next (λ q. decides_all q k m.core) (λ q c. decides_items q k c) (λ q. refl) p m x y h e before
