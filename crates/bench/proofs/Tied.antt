-- What a step of a run is in the protocol.
use Rattle.std.proofs.Common.{◌≡◌, ℕ, None, Option, sym, subst}
use Rattle.refusals.specs.declared.refusal.Refusal.{Refusal}
use Rattle.bench.specs.Model.{Model}
use Rattle.protocol.specs.Moves.{Opens, Turns}
use Rattle.protocol.specs.Calls.{Inside, rest}
use Rattle.bench.specs.Runs.{Call, open_call, turn_call}
use Rattle.bench.proofs.Worlds.{World, plan_of}
use Rattle.bench.proofs.View.{view}

-- a granted opening, a granted turning, or neither, and then quiet moves
pub data Tied (W : World) (c : Call) (r : Option Refusal) (k l : Model) : Type 0 where
  opening : (p i v : ℕ) → c ≡ open_call p i v → r ≡ None → Opens (plan_of W) p i v (view k) (view l) → Tied W c r k l
  turning : (p : ℕ) → c ≡ turn_call p → r ≡ None → Turns (plan_of W) p (view k) (view l) → Tied W c r k l
  quiet : ((p i v : ℕ) → c ≡ open_call p i v → r ≡ None → ⊥) → ((p : ℕ) → c ≡ turn_call p → r ≡ None → ⊥) → Inside (plan_of W) (view k) (view l) → Tied W c r k l

-- no move at all
pub unmoved : (W : World) (k l : Model) → l ≡ k → Inside (plan_of W) (view k) (view l)
unmoved W k l e = subst (λ (x : Model). Inside (plan_of W) (view k) (view x)) (sym e) rest
