-- Calls of a bench, each some moves. A refused call is no move at all.
use Rattle.std.specs.Prelude.{ℕ}
use Rattle.protocol.specs.Model.{Plan, State}
use Rattle.protocol.specs.Moves.{Turns, Opens, Move, ticks, sets, turns, forges, opens, relays, keeps, drops, decides}

-- nobody turns, and nobody opens
abbrev pub Quiet : {P : Plan} {x y : State} → Move P x y → Type 0
Quiet (ticks k s) = Unit {0}
Quiet (sets p o s) = Unit {0}
Quiet (turns p s) = ⊥
Quiet (forges p s) = Unit {0}
Quiet (opens p i v s) = ⊥
Quiet (relays p i v l s) = Unit {0}
Quiet (keeps p i v l s) = Unit {0}
Quiet (drops m p s) = Unit {0}
Quiet (decides p i s) = Unit {0}

-- z comes from x by quiet moves
pub data Inside (P : Plan) (x : State) : State → Type 0 where
  rest : Inside P x x
  further : {y z : State} → Inside P x y → (m : Move P y z) → Quiet m → Inside P x z

-- a call is an opening, a turning, or any number of other moves: a delivery is an acceptance and the end of the way, settling is many deliveries, time that passes and decisions
pub data Call (P : Plan) (x y : State) : Type 0 where
  opening : (p i v : ℕ) → Opens P p i v x y → Call P x y
  turning : (p : ℕ) → Turns P p x y → Call P x y
  inside : Inside P x y → Call P x y

-- z comes from x by calls
pub data Calls (P : Plan) (x : State) : State → Type 0 where
  begin : Calls P x x
  next : {y z : State} → Calls P x y → Call P y z → Calls P x z
