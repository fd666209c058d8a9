-- Runs of a bench: any list of the nine calls, each granted or refused, from a model on.
use Rattle.std.specs.Prelude.{◌≡◌, ℕ, ◌^◌, ◌<◌, Bool, ◌⊎◌, List, [], ◌∷◌, Some, None, Ok, Err, Option, Result}
use Rattle.std.specs.Int.Digits.{AllBelowBase}
use Rattle.refusals.specs.declared.refusal.Refusal.{Refusal}
use Rattle.seals.specs.Meanings.{Tidy}
use Rattle.bench.specs.Model.{Model}
use Rattle.bench.specs.Calls.{lifted, turns, sets, advances}
use Rattle.bench.specs.Seals.{seals}
use Rattle.bench.specs.Sending.{opens, injects, delivers, decides}
use Rattle.bench.specs.Settling.{Settles}

-- a call, with its arguments
pub data Call : Type 0 where
  open_call : ℕ → ℕ → ℕ → Call
  set_call : ℕ → ℕ → Call
  turn_call : ℕ → Call
  advance_call : ℕ → Call
  seal_call : ℕ → List ℕ → Call
  inject_call : ℕ → ℕ → List ℕ → Call
  deliver_call : ℕ → ℕ → Call
  decide_call : ℕ → ℕ → Call
  settle_call : Call

-- values have eight bytes, and frames are made of bytes; all other arguments may be any numbers
abbrev pub Typed : Call → Type 0
Typed (open_call p item v) = v < 2 ^ 64
Typed (set_call p offset) = Unit {0}
Typed (turn_call p) = Unit {0}
Typed (advance_call k) = Unit {0}
Typed (seal_call p text) = Unit {0}
Typed (inject_call from to bytes) = AllBelowBase 256 bytes
Typed (deliver_call flight p) = Unit {0}
Typed (decide_call p item) = Unit {0}
Typed settle_call = Unit {0}

-- the refusal in an answer, if it is one
abbrev pub refusal_of_answer : {R : Type 0} → Result R Refusal → Option Refusal
refusal_of_answer (Ok x) = None
refusal_of_answer (Err r) = Some r

-- an answer and what the call left. Of the answer only its refusal is kept, if it is one; a dropped frame is a refusal by its row.
abbrev pub Leaves : {R : Type 0} → Result R Refusal × Model → Option Refusal → Model → Type 0
Leaves x r l = (r ≡ refusal_of_answer x.0) × (l ≡ x.1)

-- what the contracts of the nine calls say: called at k, it is granted or refused, and leaves l; z is the number of a new seal
abbrev pub Does : (ℕ → Bool) → (ℕ → ℕ → Bool) → Call → Model → Option Refusal → Model → Type 0
Does admitted same (open_call p item v) k r l = (z : ℕ) × Leaves (opens admitted z p item v k) r l
Does admitted same (set_call p offset) k r l = Leaves (lifted (sets p offset) k) r l
Does admitted same (turn_call p) k r l = Leaves (lifted (turns p) k) r l
Does admitted same (advance_call t) k r l = Leaves (lifted (advances t) k) r l
Does admitted same (seal_call p text) k r l = (z : ℕ) × Leaves (seals z p text k) r l
Does admitted same (inject_call from to bytes) k r l = (z : ℕ) × Leaves (injects admitted same z from to bytes k) r l
Does admitted same (deliver_call flight p) k r l = (z : ℕ) × Leaves (delivers admitted same z flight p k) r l
Does admitted same (decide_call p item) k r l = Leaves (lifted (decides p item) k) r l
Does admitted same settle_call k r l = (a : Result ℕ Refusal) × Settles admitted same k a l × (r ≡ refusal_of_answer a)

-- one call: its arguments are of their types, its contract holds, and the scheme is still a scheme
pub record Step (admitted : ℕ → Bool) (same : ℕ → ℕ → Bool) (c : Call) (k : Model) (r : Option Refusal) (l : Model) : Type 0 where
  pub typed : Typed c
  pub does : Does admitted same c k r l
  pub tidy : Tidy l.scheme

-- a call that was made, and its refusal, if it was refused
abbrev pub Event : Type 0
Event = Call × Option Refusal

-- a run from m, with its history, the latest call first
pub data Run (admitted : ℕ → Bool) (same : ℕ → ℕ → Bool) (m : Model) : List Event → Model → Type 0 where
  start : Run admitted same m [] m
  then : {history : List Event} {k : Model} (c : Call) (r : Option Refusal) (l : Model) → Run admitted same m history k → Step admitted same c k r l → Run admitted same m ((c, r) ∷ history) l

-- the event is in the history
abbrev pub Happened : Event → List Event → Type 0
Happened e [] = ⊥
Happened e (x ∷ xs) = (x ≡ e) ⊎ Happened e xs
