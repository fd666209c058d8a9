-- What receiving a frame answers and leaves.
use Rattle.std.specs.Prelude.{ℕ, ◌+◌, Bool, false, cond, List, length, Some, None, Ok, Option, Result, ◌==◌, nat_le}
use Rattle.refusals.specs.declared.refusal.Refusal.{Refusal}
use Rattle.refusals.specs.declared.refusal.Refusal.TheVariants.{Row, Code, Long, First}
use Rattle.seals.specs.Meanings.{Triple}
use Rattle.frames.specs.declared.link.Link.{Link}
use Rattle.frames.specs.Bytes.{Fields, decode}
use Rattle.frames.specs.Texts.{link_at}
use Rattle.plans.specs.declared.plan.Appointment.{Appointment}
use Rattle.plans.specs.Setups.{Setup}
use Rattle.processor.specs.declared.owed.Owed.{Owed}
use Rattle.processor.specs.declared.part.Part.{Part}
use Rattle.processor.specs.Parts.{bag_of}
use Rattle.processor.specs.Broadcasts.{owed_for}
use Rattle.processor.specs.Steps.{passes, after, after_on}
use Rattle.processor.specs.Agendas.{appointed}
use Rattle.processor.specs.Windows.{window_of, in_window}
use Rattle.processor.specs.Bags.{joined, with_bag}
use Rattle.processor.specs.Chains.{chained}

-- row 31: the item is one of the agenda's
abbrev pub known : Setup → Fields → Result Appointment Refusal
known s f = appointed s f.item Row

-- row 32: the value is admitted
abbrev pub coded : (ℕ → Bool) → Fields → Result Unit Refusal
coded admitted f = passes (admitted f.value) Code

-- row 33: there are at most f + 1 links
abbrev pub brief : Setup → Fields → Result Unit Refusal
brief s f = passes (nat_le (length f.links) (s.f + 1)) Long

abbrev pub is_of : ℕ → Option Link → Bool
is_of p (Some l) = l.processor == p
is_of p None = false

-- row 34: link 1 is the sender's
abbrev pub begun : Appointment → Fields → Result Unit Refusal
begun a f = passes (is_of a.sender (link_at f 1)) First

-- rows 31 to 34
abbrev pub headed : (ℕ → Bool) → Setup → Fields → Result Appointment Refusal
headed admitted s f = after (known s f) (λ a. after (coded admitted f) (λ _. after (brief s f) (λ _. after (begun a f) (λ _. Ok a))))

-- rows 38 and 39
abbrev pub timely : Setup → Appointment → ℕ → Fields → Result Unit Refusal
timely s a reading f = in_window (window_of s a.reading (length f.links)) reading

-- rows 31 to 39, at processor `own`
abbrev pub tested : (ℕ → Bool) → Setup → List Triple → ℕ → ℕ → Fields → Result Unit Refusal
tested admitted s ts own reading f = after (headed admitted s f) (λ a. after (chained s.n ts own f) (λ _. timely s a reading f))

-- what `own` owes after a frame of at most f links: the broadcast with its own link behind them
abbrev pub owes : Setup → ℕ → Fields → Option Owed
owes s own f = cond (nat_le (length f.links) s.f) (Some (owed_for f.item f.value own f.links)) None

-- rows 40 to 42: the value joins the bag of the item, and x is answered
abbrev pub entered : {X : Type 0} → (ℕ → ℕ → Bool) → X → ℕ → ℕ → Part → Result X Refusal × Part
entered same x item v p = after_on p (joined same (bag_of p item) v) (λ b. (Ok x, with_bag p item b))

-- rows 31 to 42
abbrev pub arrived : (ℕ → Bool) → (ℕ → ℕ → Bool) → Setup → List Triple → ℕ → Fields → Part → Result (Option Owed) Refusal × Part
arrived admitted same s ts reading f p =
    after_on p (tested admitted s ts p.own reading f) (λ _. entered same (owes s p.own f) f.item f.value p)

-- receive: the frame is accepted, or refused by the first of rows 30 to 42 that applies
abbrev pub received : (ℕ → Bool) → (ℕ → ℕ → Bool) → Setup → List Triple → ℕ → List ℕ → Part → Result (Option Owed) Refusal × Part
received admitted same s ts reading bytes p = after_on p (decode bytes) (λ f. arrived admitted same s ts reading f p)
