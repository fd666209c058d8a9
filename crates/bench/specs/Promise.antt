-- What is promised of every run of a bench.
use Rattle.std.specs.Prelude.{◌≡◌, ℕ, zero, suc, ◌-◌, ◌*◌, ◌<◌, ◌≤◌, Bool, true, cond, List, get_or, Some, None, Ok, Option, slice_index_or}
use Rattle.refusals.specs.Rows.{row_of, is_drop}
use Rattle.refusals.specs.declared.refusal.Refusal.{Refusal}
use Rattle.seals.specs.Meanings.{Tidy}
use Rattle.plans.specs.Setups.{Setup}
use Rattle.processor.specs.Agendas.{is_item, no_appointment}
use Rattle.processor.specs.Controllers.{is_processor}
use Rattle.processor.specs.declared.part.Decision.{Decision}
use Rattle.processor.specs.declared.part.Decision.TheVariants.{Default, Value}
use Rattle.bench.specs.Model.{Model}
use Rattle.bench.specs.Calls.{no_flight}
use Rattle.bench.specs.Flights.{on_core, marks, receives, bytes_of, ends_way}
use Rattle.bench.specs.Reports.{broadcasts, recorded}
use Rattle.bench.specs.Settling.{next, Delivered}
use Rattle.bench.specs.Runs.{Call, open_call, set_call, turn_call, advance_call, seal_call, inject_call, deliver_call, decide_call, settle_call, Step, Event, Run, Happened}

-- processor p has recorded decision d of the item
abbrev pub Decided : Model → ℕ → ℕ → Decision → Type 0
Decided k zero item d = ⊥
Decided k (suc q) item d = recorded k.core item q ≡ Some d

-- two decisions that do not differ: both the default, or values that are the same by the kind
abbrev pub Alike : (ℕ → ℕ → Bool) → Decision → Decision → Type 0
Alike same Default Default = Unit {0}
Alike same Default (Value w) = ⊥
Alike same (Value v) Default = ⊥
Alike same (Value v) (Value w) = same v w ≡ true

-- an open of the item with value v was granted
abbrev pub Opened : List Event → ℕ → ℕ → Type 0
Opened history item v = (p : ℕ) × Happened (open_call p item v, None) history

-- a turn of p was granted
abbrev pub Turned : List Event → ℕ → Type 0
Turned history p = Happened (turn_call p, None) history

-- settle was called
abbrev pub Settled : List Event → Type 0
Settled history = (r : Option Refusal) × Happened (settle_call, r) history

-- who speaks on the item
abbrev pub sender_of : Setup → ℕ → ℕ
sender_of s item = (get_or s.agenda (item - 1) no_appointment).sender

module _ (admitted : ℕ → Bool) (same : ℕ → ℕ → Bool) (s : Setup) (m : Model) where
  -- no two recorded decisions of an item differ, also those of processors that have turned since
  abbrev pub Agreement : Type 0
  Agreement = (history : List Event) (k : Model) → Run admitted same m history k → (item p q : ℕ) (d e : Decision) → Decided k p item d → Decided k q item e → Alike same d e

  -- Take the call, from x to y, in which an item is first decided. If its sender had not turned before it, then after it and
  -- ever after each decision is the value that the sender opened, code for code, or the default where it had opened nothing.
  abbrev pub Validity : Type 0
  Validity = (before after : List Event) (x y z : Model) (c : Call) (r : Option Refusal) → Run admitted same m before x → Step admitted same c x r y → Run admitted same y after z
      → (item : ℕ) → is_item s item ≡ true → ((p : ℕ) (d : Decision) → ¬ (Decided x p item d)) → (p : ℕ) (d : Decision) → Decided y p item d → ¬ (Turned before (sender_of s item))
      → (q : ℕ) (e : Decision) → Decided z q item e → ((v : ℕ) → Opened before item v → e ≡ Value v) × (((v : ℕ) → ¬ (Opened before item v)) → e ≡ Default)

  -- a recorded decision never changes
  abbrev pub Standing : Type 0
  Standing = (before after : List Event) (x z : Model) → Run admitted same m before x → Run admitted same x after z → (item p : ℕ) (d : Decision) → Decided x p item d → Decided z p item d

  -- an item has at most 2n - 1 broadcasts
  abbrev pub FewBroadcasts : Type 0
  FewBroadcasts = (history : List Event) (k : Model) → Run admitted same m history k → (item : ℕ) → broadcasts k.core item ≤ 2 * s.n - 1

  -- every settle is granted
  abbrev pub Granted : Type 0
  Granted = (history : List Event) (k l : Model) (r : Option Refusal) → Run admitted same m history k → Step admitted same settle_call k r l → r ≡ None

  -- from the first settle on, every processor that has not turned has decided every item
  abbrev pub Finished : Type 0
  Finished = (history : List Event) (k : Model) → Run admitted same m history k → Settled history → (p item : ℕ) → is_processor s p ≡ true → is_item s item ≡ true → ¬ (Turned history p) → (d : Decision) × Decided k p item d

  -- Rows 50 to 52 refuse nothing but a call of seal: there is always a place for a flight, and a correct processor is never
  -- refused a seal.
  abbrev pub NeverShort : Type 0
  NeverShort = (history : List Event) (k l : Model) (c : Call) (r : Refusal) → Run admitted same m history k → Step admitted same c k (Some r) l → ((p : ℕ) (text : List ℕ) → ¬ (c ≡ seal_call p text)) → row_of r < 50

  -- The same of the deliveries that a settle makes: each is accepted, or dropped.
  abbrev pub EachArrives : Type 0
  EachArrives = (history : List Event) (k l : Model) (n z i q : ℕ) → Run admitted same m history k → Delivered admitted same s k n l → Tidy l.scheme → next l.core ≡ Some (i, q)
      → ends_way (receives admitted same s z q (bytes_of (slice_index_or l.core.flights i no_flight)) l).0 ≡ true

-- what a refused call leaves: everything as it was; but a dropped delivery has ended its way
abbrev pub left_by : Call → Refusal → Model → Model
left_by (open_call p item v) r k = k
left_by (set_call p offset) r k = k
left_by (turn_call p) r k = k
left_by (advance_call t) r k = k
left_by (seal_call p text) r k = k
left_by (inject_call from to bytes) r k = k
left_by (deliver_call flight p) r k = cond (is_drop r) (on_core k (marks k.core (flight - 1) (p - 1))) k
left_by (decide_call p item) r k = k
left_by settle_call r k = k

abbrev pub Unaltered : (ℕ → Bool) → (ℕ → ℕ → Bool) → Type 0
Unaltered admitted same = (s : Setup) (k l : Model) (c : Call) (r : Refusal) → k.core.plan ≡ Ok s → Step admitted same c k (Some r) l → l ≡ left_by c r k

pub record Promise (admitted : ℕ → Bool) (same : ℕ → ℕ → Bool) (s : Setup) (m : Model) : Type 0 where
  pub agreement : Agreement admitted same s m
  pub validity : Validity admitted same s m
  pub standing : Standing admitted same s m
  pub few_broadcasts : FewBroadcasts admitted same s m
  pub granted : Granted admitted same s m
  pub finished : Finished admitted same s m
  pub never_short : NeverShort admitted same s m
  pub each_arrives : EachArrives admitted same s m
  pub unaltered : Unaltered admitted same

-- the promise of a bench whose making was granted
abbrev pub Promised : (ℕ → Bool) → (ℕ → ℕ → Bool) → Model → Type 0
Promised admitted same m = (s : Setup) → m.core.plan ≡ Ok s → Promise admitted same s m
