-- The promise of every run, from what each step is in the protocol.
use Rattle.std.proofs.Common.{◌≡◌, ℕ, zero, suc, ◌+◌, ◌<◌, ◌≤◌, Bool, true, false, cond, ◌&&◌, eqb, leb, ◌⊎◌, List, ◌∷◌, length, get_or, take, Some, None, count_by, Option, sym, refl, ap, ◌∙◌, subst, inl, inr, ⊎_elim, arith}
use native.Mathlib.Decide.{ℕ_discrete}
use Rattle.std.proofs.lemmas.List.{take_all}
use Rattle.std.proofs.lemmas.List.Sums.{sum_by_more}
use Rattle.std.proofs.lemmas.Bool.{cases_Bool, cond-true, both_ways}
use Rattle.refusals.specs.Rows.{row_of}
use Rattle.refusals.specs.declared.refusal.Refusal.{Refusal}
use Rattle.seals.specs.Meanings.{Tidy}
use Rattle.plans.specs.declared.plan.Appointment.{Appointment}
use Rattle.processor.specs.Agendas.{is_item}
use Rattle.processor.specs.Parts.{record_in, bag_of}
use Rattle.processor.specs.declared.part.Bag as Kept
use Rattle.processor.specs.declared.part.Bag.TheVariants.{Empty, One, Two, Closed}
use Rattle.processor.specs.declared.part.Decision.{Decision}
use Rattle.processor.specs.declared.part.Decision.TheVariants.{Default, Value}
use Rattle.bench.specs.declared.flight.Flight as Sent
use Rattle.bench.specs.Model.{Model}
use Rattle.bench.specs.Calls.{no_flight}
use Rattle.bench.specs.Flights.{receives, bytes_of, ends_way}
use Rattle.bench.specs.Reports.{broadcasts, recorded, no_part}
use Rattle.protocol.specs.Model.{Verdict, default, chosen, closed, Agree}
use Rattle.protocol.specs.Moves.{Start}
use Rattle.protocol.specs.Calls as Protocol
use Rattle.protocol.specs.Agreement as Theorem
use Rattle.protocol.specs.Agreement.{Made, tally}
use Rattle.protocol.proofs.Called.{made_next, agreed, valid, sparing, closing, standing as Stands-on}
use Rattle.protocol.proofs.Traces.{inside_turned, inside_opened, turns_opened, opens_turned, opens_here, opens_on, opens_only}
use Rattle.bench.specs.Settling.{next, Delivered}
use Rattle.bench.specs.Runs.{Call, open_call, turn_call, seal_call, settle_call, Step, Event, Run, start, then, Happened}
use Rattle.bench.specs.Promise.{Decided, Alike, Opened, Turned, sender_of, Agreement, Validity, Standing, FewBroadcasts, Granted, Finished, Unaltered, Promise}
use Rattle.bench.proofs.Worlds.{World, appointment_of, plan_of, verdict_of, bag_shown, bag_at}
use Rattle.bench.proofs.View.{view, Sound}
use Rattle.bench.proofs.Rebagging.{bag_at_bag_of}
use Rattle.bench.proofs.Seating.{between, within, appointment_at}
use Rattle.bench.proofs.Tied.{Tied, opening, turning, quiet}

-- decisions

record_closed : (b : Kept.Bag) (d : Decision) → record_in b ≡ Some d → bag_shown b ≡ closed (verdict_of d)
record_closed Empty d h = absurd (cc)
record_closed (One v) d h = absurd (cc)
record_closed (Two v w) d h = absurd (cc)
record_closed (Closed e) d h = let k : e ≡ d = cc in ap (λ (x : Decision). closed (verdict_of x)) k

closed_record : (b : Kept.Bag) (r : Verdict) → bag_shown b ≡ closed r → (d : Decision) × (record_in b ≡ Some d)
closed_record Empty r h = absurd (cc)
closed_record (One v) r h = absurd (cc)
closed_record (Two v w) r h = absurd (cc)
closed_record (Closed d) r h = (d, refl)

-- only items from 1 to 8 have records
recorded_item : (k : Model) (q item : ℕ) (d : Decision) → recorded k.core item q ≡ Some d → (leb 1 item && leb item 8) ≡ true
recorded_item k q item d h = go (leb 1 item && leb item 8) h
  where
    go : (b : Bool) → cond b (record_in (bag_of (get_or k.core.parts q no_part) item)) None ≡ Some d → b ≡ true
    go true e = refl
    go false e = absurd (cc)

pub decided_shown : (k : Model) (p item : ℕ) (d : Decision) → Decided k p item d → Theorem.Decided (view k) p item (verdict_of d)
decided_shown k zero item d h = absurd h
decided_shown k (suc q) zero d h = absurd (cc)
decided_shown k (suc q) (suc j) d h =
    let part = get_or k.core.parts q no_part in
    record_closed (bag_at part (suc j)) d (ap record_in (bag_at_bag_of part (suc j) (omega arith)) ∙ sym (cond-true _ _ None (recorded_item k q (suc j) d h)) ∙ h)

shown_decided : (k : Model) (p item : ℕ) (r : Verdict) → 1 ≤ item → item ≤ 8 → Theorem.Decided (view k) p item r → (d : Decision) × Decided k p item d
shown_decided k zero zero r a b h = absurd (omega arith)
shown_decided k zero (suc j) r a b h = absurd (cc)
shown_decided k (suc q) zero r a b h = absurd (omega arith)
shown_decided k (suc q) (suc j) r a b h =
    let part = get_or k.core.parts q no_part in
    let c = closed_record (bag_at part (suc j)) r h in
    (c.0, cond-true _ (record_in (bag_of part (suc j))) None (within 8 (suc j) a b) ∙ ap record_in (sym (bag_at_bag_of part (suc j) a)) ∙ c.1)

verdict_same : (d e : Decision) → verdict_of d ≡ verdict_of e → d ≡ e
verdict_same Default Default h = refl
verdict_same Default (Value w) h = absurd (cc)
verdict_same (Value v) Default h = absurd (cc)
verdict_same (Value v) (Value w) h = let e : v ≡ w = cc in ap Value e

agree_alike : (W : World) (d e : Decision) → Agree (plan_of W) (verdict_of d) (verdict_of e) → Alike W.same d e
agree_alike W Default Default h = h
agree_alike W Default (Value w) h = h
agree_alike W (Value v) Default h = h
agree_alike W (Value v) (Value w) h = h

is_value : (d : Decision) (v : ℕ) → verdict_of d ≡ chosen v → d ≡ Value v
is_value Default v h = absurd (cc)
is_value (Value w) v h = let k : w ≡ v = cc in ap Value k

is_default : (d : Decision) → verdict_of d ≡ default → d ≡ Default
is_default Default h = refl
is_default (Value w) h = absurd (cc)

-- broadcasts

-- a list's entries counted by place
count_tally : {X : Type 0} (pass : X → Bool) (none : X) (xs : List X) → count_by pass xs ≡ tally (λ k. pass (get_or xs k none)) (length xs)
count_tally {X} pass none xs = sym (ap (count_by pass) (take_all (length xs) xs (omega arith))) ∙ sym (up_to (length xs) (omega arith))
  where
    up_to : (c : ℕ) → c ≤ length xs → tally (λ k. pass (get_or xs k none)) c ≡ count_by pass (take c xs)
    up_to zero h = refl
    up_to (suc c) h =
        let ih = up_to c (omega arith) in
        let one = sum_by_more (λ x. cond (pass x) 1 0) xs c none (omega arith) in
        let e : c + 1 ≡ suc c = omega arith in
        omega arith ∙ sym one ∙ ap (λ (n : ℕ). count_by pass (take n xs)) e

broadcasts_shown : (k : Model) (item : ℕ) → broadcasts k.core item ≡ Theorem.broadcasts (view k) item
broadcasts_shown k item = count_tally (λ (fl : Sent.Flight). eqb fl.item item) no_flight k.core.flights

-- the sender of an item, whatever stands for what is no item
sender_same : (W : World) (item : ℕ) → is_item W.setup item ≡ true → (appointment_of W item).sender ≡ sender_of W.setup item
sender_same W item h =
    ap (λ (x : Appointment). x.sender) (sym (appointment_at W item (between (length W.setup.agenda) item h)))

-- steps and runs with the kind of the world
abbrev pub StepIn : World → Call → Model → Option Refusal → Model → Type 0
StepIn W = Step W.admitted W.same

abbrev pub RunIn : World → Model → List Event → Model → Type 0
RunIn W = Run W.admitted W.same

-- every step is some moves of the protocol
abbrev pub StepTied : World → Type 0
StepTied W = (k l : Model) (c : Call) (r : Option Refusal) → Sound W k → Made (plan_of W) (view k) → StepIn W c k r l → Sound W l × Tied W c r k l

-- every settling is granted, and finishes
abbrev pub SettleGranted : World → Type 0
SettleGranted W = (k l : Model) (r : Option Refusal) → Sound W k → Made (plan_of W) (view k) → StepIn W settle_call k r l → (r ≡ None) × Theorem.Finished (plan_of W) (view l)

-- no call but seal is refused by rows 50 to 52
abbrev pub Short : World → Type 0
Short W = (k l : Model) (c : Call) (r : Refusal) → Sound W k → Made (plan_of W) (view k) → StepIn W c k (Some r) l → ((p : ℕ) (text : List ℕ) → ¬ (c ≡ seal_call p text)) → row_of r < 50

-- a delivery of a settling is accepted or dropped, whatever the number of a new seal
abbrev pub Arrives : World → Type 0
Arrives W = (k l : Model) (n z i q : ℕ) → Sound W k → Made (plan_of W) (view k) → Delivered W.admitted W.same W.setup k n l → Tidy l.scheme → next l.core ≡ Some (i, q)
    → ends_way (receives W.admitted W.same W.setup z q (bytes_of (get_or l.core.flights i no_flight)) l).0 ≡ true

call_of : (W : World) (c : Call) (r : Option Refusal) (k l : Model) → Tied W c r k l → Protocol.Call (plan_of W) (view k) (view l)
call_of W c r k l (opening p i v ec er s) = Protocol.opening p i v s
call_of W c r k l (turning p ec er s) = Protocol.turning p s
call_of W c r k l (quiet o t s) = Protocol.inside s

-- a model that a run leads to
record Reached (W : World) (m k : Model) : Type 0 where
  sound : Sound W k
  made : Made (plan_of W) (view k)
  calls : Protocol.Calls (plan_of W) (view m) (view k)

module _ (W : World) (step_tied : StepTied W) where
  one_step : (m k l : Model) (c : Call) (r : Option Refusal) → Reached W m k → StepIn W c k r l → Reached W m l
  one_step m k l c r h s =
      let t = step_tied k l c r h.sound h.made s in
      let a = call_of W c r k l t.1 in
      record { sound = t.0; made = made_next (plan_of W) (view k) (view l) h.made a; calls = Protocol.next h.calls a }

  reached : (m : Model) → Sound W m → Made (plan_of W) (view m) → (history : List Event) (k : Model) → RunIn W m history k → Reached W m k
  reached m S M history k start = record { sound = S; made = M; calls = Protocol.begin }
  reached m S M history k (then {history = h} {k = j} c r l run s) = one_step m j l c r (reached m S M h j run) s

-- who has turned, and what was opened, as the history tells it

module _ (W : World) (step_tied : StepTied W) (m : Model) (S : Sound W m) (B : Start (plan_of W) (view m)) where
  begun : Made (plan_of W) (view m)
  begun = (view m, B, Protocol.begin)

  leads : (history : List Event) (k : Model) → RunIn W m history k → Reached W m k
  leads = reached W step_tied m S begun

  tied : (history : List Event) (k l : Model) (c : Call) (r : Option Refusal) → RunIn W m history k → StepIn W c k r l → Tied W c r k l
  tied history k l c r run s = let h = leads history k run in (step_tied k l c r h.sound h.made s).1

  turned_told : (history : List Event) (k : Model) → RunIn W m history k → (p : ℕ) → (view k).turned p ≡ true → Turned history p
  turned_told history k start p h = absurd (both_ways _ (B.turns p) h)
  turned_told history k (then {history = past} {k = j} c r l run s) p h = go (tied past j l c r run s) (turned_told past j run p)
    where
      go : Tied W c r j l → ((view j).turned p ≡ true → Turned past p) → Turned ((c, r) ∷ past) p
      go (opening q i v ec er o) ih = inr (ih (sym (opens_turned (plan_of W) q i v (view j) (view l) o p) ∙ h))
      go (quiet no-open no-turn o) ih = inr (ih (sym (inside_turned (plan_of W) (view j) (view l) o p) ∙ h))
      go (turning q ec er o) ih = by (ℕ_discrete p q)
        where
          by : Dec (p ≡ q) → Turned ((c, r) ∷ past) p
          by (yes e) = inl (λ t. ((ec ∙ ap turn_call (sym e)) t, er t))
          by (no n) = inr (ih (sym (o.there p n) ∙ h))

  correct_told : (history : List Event) (k : Model) → RunIn W m history k → (p : ℕ) → ¬ (Turned history p) → (view k).turned p ≡ false
  correct_told history k run p n = go (cases_Bool ((view k).turned p))
    where
      go : ((view k).turned p ≡ true) ⊎ ((view k).turned p ≡ false) → (view k).turned p ≡ false
      go (inl h) = absurd (n (turned_told history k run p h))
      go (inr h) = h

  opened_told : (history : List Event) (k : Model) → RunIn W m history k → (i v : ℕ) → Theorem.Opened (plan_of W) (view k) i v → Opened history i v
  opened_told history k start i v o = let a = o.2 in let b = B.number in absurd (omega arith)
  opened_told history k (then {history = past} {k = j} c r l run s) i v o = go (tied past j l c r run s) (opened_told past j run i v)
    where
      later : Opened past i v → Opened ((c, r) ∷ past) i v
      later h = (h.0, inr h.1)

      go : Tied W c r j l → (Theorem.Opened (plan_of W) (view j) i v → Opened past i v) → Opened ((c, r) ∷ past) i v
      go (opening p a w ec er x) ih = ⊎_elim (λ h. later (ih h)) (λ h. (p, inl (λ t. (is h.0 h.1 t, er t)))) (opens_only (plan_of W) p a w (view j) (view l) x i v o)
        where
          is : i ≡ a → v ≡ w → c ≡ open_call p i v
          is e f = cc
      go (turning p ec er x) ih = later (ih ((turns_opened (plan_of W) p (view j) (view l) x).back i v o))
      go (quiet no-open no-turn x) ih = later (ih ((inside_opened (plan_of W) (view j) (view l) x).back i v o))

  opened_shown : (history : List Event) (k : Model) → RunIn W m history k → (i v p : ℕ) → Happened (open_call p i v, None) history → Theorem.Opened (plan_of W) (view k) i v
  opened_shown history k start i v p h = absurd h
  opened_shown history k (then {history = past} {k = j} c r l run s) i v p h = go (tied past j l c r run s) h (opened_shown past j run i v p)
    where
      go : Tied W c r j l → Happened (open_call p i v, None) ((c, r) ∷ past) → (Happened (open_call p i v, None) past → Theorem.Opened (plan_of W) (view j) i v) → Theorem.Opened (plan_of W) (view l) i v
      go (opening q a w ec er x) (inl e) ih =
          let f : open_call q a w ≡ open_call p i v = sym ec ∙ ap (λ (y : Event). y.0) e in
          let f₁ : a ≡ i = cc in
          let f₂ : w ≡ v = cc in
          subst (λ (y : ℕ). Theorem.Opened (plan_of W) (view l) y v) f₁ (subst (λ (y : ℕ). Theorem.Opened (plan_of W) (view l) a y) f₂ (opens_here (plan_of W) q a w (view j) (view l) x))
      go (opening q a w ec er x) (inr e) ih = opens_on (plan_of W) q a w (view j) (view l) x i v (ih e)
      go (turning q ec er x) (inl e) ih =
          let f : turn_call q ≡ open_call p i v = sym ec ∙ ap (λ (y : Event). y.0) e in
          absurd (cc)
      go (turning q ec er x) (inr e) ih = (turns_opened (plan_of W) q (view j) (view l) x).on i v (ih e)
      go (quiet no-open no-turn x) (inl e) ih = absurd (no-open p i v (ap (λ (y : Event). y.0) e) (ap (λ (y : Event). y.1) e))
      go (quiet no-open no-turn x) (inr e) ih = (inside_opened (plan_of W) (view j) (view l) x).on i v (ih e)

-- The promise, from what holds of each step.
module _ (W : World) (m : Model) (S : Sound W m) (B : Start (plan_of W) (view m))
    (step_tied : StepTied W)
    (settle_granted : SettleGranted W)
    (short : Short W)
    (arrives : Arrives W)
    (unaltered : Unaltered W.admitted W.same) where
  at : (history : List Event) (k : Model) → RunIn W m history k → Reached W m k
  at = leads W step_tied m S B

  agreement : Agreement W.admitted W.same W.setup m
  agreement history k run item p q d e hp hq =
      agree_alike W d e (agreed (plan_of W) (view k) (at history k run).made item p q (verdict_of d) (verdict_of e) (decided_shown k p item d hp) (decided_shown k q item e hq))

  validity : Validity W.admitted W.same W.setup m
  validity before after x y z c r run s rest item is none p d dy correct q e dz =
      let b = between (length W.setup.agenda) item is in
      let few = W.few in
      let X = at before x run in
      let Y = one_step W step_tied m x y c r X s in
      let Z = reached W step_tied y Y.sound Y.made after z rest in
      let call = call_of W c r x y (step_tied x y c r X.sound X.made s).1 in
      let sender : (view x).turned (appointment_of W item).sender ≡ false =
      ap (view x).turned (sender_same W item is) ∙ correct_told W step_tied m S B before x run (sender_of W.setup item) correct in
      let first : (h : ℕ) (u : Verdict) → ¬ (Theorem.Decided (view x) h item u) = λ h u g. (let k = shown_decided x h item u b.0 (omega arith) g in none h k.0 k.1) in
      let v = valid (plan_of W) (view x) (view y) (view z) X.made call Z.calls item p q (verdict_of d) (verdict_of e) first (decided_shown y p item d dy) sender (decided_shown z q item e dz) in (
        λ u o. is_value e u (v.0 u (opened_shown W step_tied m S B before x run item u o.0 o.1)),
        λ no-open. is_default e (v.1 (λ u o. no-open u (opened_told W step_tied m S B before x run item u o))),
      )

  standing : Standing W.admitted W.same W.setup m
  standing before after x z run rest item zero d h = absurd h
  standing before after x z run rest item (suc q) d h =
      let X = at before x run in
      let Z = reached W step_tied x X.sound X.made after z rest in
      let stands = Stands-on (plan_of W) (view x) (view z) X.made Z.calls (suc q) item (verdict_of d) (decided_shown x (suc q) item d h) in
      let b = between 8 item (recorded_item x q item d h) in
      let e = shown_decided z (suc q) item (verdict_of d) b.0 b.1 stands in
      let same : closed (verdict_of d) ≡ closed (verdict_of e.0) = sym stands ∙ decided_shown z (suc q) item e.0 e.1 in
      let verdict : verdict_of d ≡ verdict_of e.0 = cc in
      subst (Decided z (suc q) item) (sym (verdict_same d e.0 verdict)) e.1

  few_broadcasts : FewBroadcasts W.admitted W.same W.setup m
  few_broadcasts history k run item = let b = broadcasts_shown k item in let few = (sparing (plan_of W) (view k) (at history k run).made item).0 in omega arith

  granted : Granted W.admitted W.same W.setup m
  granted history k l r run s = let h = at history k run in (settle_granted k l r h.sound h.made s).0

  -- once settled, whoever has not turned has decided everything
  settled : (history : List Event) (k : Model) → RunIn W m history k → (r : Option Refusal) → Happened (settle_call, r) history → Theorem.Finished (plan_of W) (view k)
  settled history k start r h = absurd h
  settled history k (then {history = past} {k = j} c a l run s) r h = go h (settled past j run r)
    where
      go : Happened (settle_call, r) ((c, a) ∷ past) → (Happened (settle_call, r) past → Theorem.Finished (plan_of W) (view j)) → Theorem.Finished (plan_of W) (view l)
      go (inl e) ih = let h = at past j run in (settle_granted j l a h.sound h.made (subst (λ (x : Call). StepIn W x j a l) (ap (λ (y : Event). y.0) e) s)).1
      go (inr e) ih =
          let h = at past j run in
          let call = call_of W c a j l (step_tied j l c a h.sound h.made s).1 in
          closing (plan_of W) (view j) (view l) h.made (ih e) (Protocol.next Protocol.begin call)

  finished : Finished W.admitted W.same W.setup m
  finished history k run h p item is-p is-item correct =
      let seat = between W.setup.n p is-p in
      let listed = between (length W.setup.agenda) item is-item in
      let few = W.few in
      let f = settled history k run h.0 h.1 p item seat listed (correct_told W step_tied m S B history k run p correct) in
      shown_decided k p item f.0 listed.0 (omega arith) f.1

  pub promise : Promise W.admitted W.same W.setup m
  promise = record {
    agreement = agreement;
    validity = validity;
    standing = standing;
    few_broadcasts = few_broadcasts;
    granted = granted;
    finished = finished;
    never_short = λ history k l c r run s no-seal. (let h = at history k run in short k l c r h.sound h.made s no-seal);
    each_arrives = λ history k l n z i q run way tidy goal. (let h = at history k run in arrives k l n z i q h.sound h.made way tidy goal);
    unaltered = unaltered;
  }
