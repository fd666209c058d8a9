-- Every call of a bench is moves of the protocol.
use Rattle.std.proofs.lemmas.Option.{none-some}
use Rattle.std.proofs.Common.{◌≡◌, ℕ, ◌+◌, true, ltb, leb, ◌⊎◌, set, Some, None, Ok, Err, Option, Result, sym, refl, ◌∙◌, subst, inl, inr, arith}
use Rattle.refusals.specs.declared.refusal.Refusal.{Refusal}
use Rattle.refusals.specs.declared.refusal.Refusal.TheVariants.{Item, Spare, Offset, End, Due, Wait}
use Rattle.plans.specs.declared.plan.Appointment.{Appointment}
use Rattle.plans.specs.Setups.{Setup}
use Rattle.processor.specs.declared.part.Decision.{Decision}
use Rattle.processor.specs.declared.part.Part.{Part}
use Rattle.processor.specs.Agendas.{appointed}
use Rattle.processor.specs.Deciding.{closed, concluded, decided}
use Rattle.processor.specs.Parts.{record_of}
use Rattle.processor.specs.Steps.{passes}
use Rattle.processor.specs.Windows.{delta_of}
use Rattle.bench.specs.Model.{Core, Model}
use Rattle.bench.specs.Calls.{lifted, count_true, seat, with_turned, with_offsets, turns, sets, overdue, unless_due, advances}
use Rattle.bench.specs.Flights.{reading_at, part_at}
use Rattle.bench.specs.Sending.{actor, records, decides}
use Rattle.protocol.specs.Moves as Move
use Rattle.protocol.specs.Calls.{Inside, rest, further}
use Rattle.protocol.specs.Agreement.{Made}
use Rattle.bench.specs.Runs.{Call, open_call, set_call, turn_call, advance_call, seal_call, inject_call, deliver_call, decide_call, settle_call}
use Rattle.bench.specs.Promise.{left_by}
use Rattle.bench.proofs.Worlds.{World, plan_of}
use Rattle.bench.proofs.View.{view, Sound}
use Rattle.bench.proofs.Tied.{Tied, opening, turning, quiet, unmoved}
use Rattle.processor.proofs.Outcomes.{no_ok, Only, only_ok, only_err, only_passes, only_after_on, only_appointed}
use Rattle.bench.proofs.Steps.{granted_is, refused_is, left_is, only_next, only_if}
use Rattle.bench.proofs.Seating.{Low, seat_low, actor_low}
use Rattle.bench.proofs.Speaking.{open_tied}
use Rattle.bench.proofs.Hearing.{inject_tied, deliver_tied}
use Rattle.bench.proofs.Clocking.{set_tied, turn_tied, advance_tied, seal_tied, decide_tied}
use Rattle.bench.proofs.Refusing.{unaltered}
use Rattle.bench.proofs.Settled.{settle_tied, settle_granted}
use Rattle.bench.proofs.Promising.{StepIn, StepTied, Short}

-- the calls that neither open nor turn
abbrev Quiet : Call → Type 0
Quiet (open_call p i v) = ⊥
Quiet (set_call p o) = Unit {0}
Quiet (turn_call p) = ⊥
Quiet (advance_call n) = Unit {0}
Quiet (seal_call p text) = Unit {0}
Quiet (inject_call from to bytes) = Unit {0}
Quiet (deliver_call f p) = Unit {0}
Quiet (decide_call p i) = Unit {0}
Quiet settle_call = Unit {0}

-- a refused call leaves everything as it was, unless it is a delivery
left_same : (c : Call) (e : Refusal) (k : Model) → (left_by c e k ≡ k) ⊎ ((f : ℕ) × (p : ℕ) × (c ≡ deliver_call f p))
left_same (open_call p i v) e k = inl refl
left_same (set_call p o) e k = inl refl
left_same (turn_call p) e k = inl refl
left_same (advance_call n) e k = inl refl
left_same (seal_call p text) e k = inl refl
left_same (inject_call from to bytes) e k = inl refl
left_same (deliver_call f p) e k = inr (f, p, refl)
left_same (decide_call p i) e k = inl refl
left_same settle_call e k = inl refl

module _ (W : World) where
  refused_tied : (k l : Model) (c : Call) (e : Refusal) → Sound W k → Made (plan_of W) (view k) → StepIn W c k (Some e) l → Sound W l × Tied W c (Some e) k l
  refused_tied k l c e S M st = go (left_same c e k)
    where
      refused : Sound W l → Inside (plan_of W) (view k) (view l) → Sound W l × Tied W c (Some e) k l
      refused T I = (T, quiet (λ p i v x h. absurd (none-some e (sym h))) (λ p x h. absurd (none-some e (sym h))) I)

      go : (left_by c e k ≡ k) ⊎ ((f : ℕ) × (p : ℕ) × (c ≡ deliver_call f p)) → Sound W l × Tied W c (Some e) k l
      go (inl same) =
          let is : l ≡ k = unaltered W.admitted W.same W.setup k l c e S.plan st ∙ same in
          refused (subst (Sound W) (sym is) S) (unmoved W k l is)
      go (inr (f, p, is)) =
          let d = subst (λ (x : Call). StepIn W x k (Some e) l) is st in
          let D = deliver_tied W k S M d.does.0 f p _ l (left_is _ (Some e) l d.does.1) d.tidy.seals in
          refused D.0 D.1

  -- a granted call that is neither an opening nor a turning
  quietly : (k l : Model) (c : Call) → Quiet c → Sound W l → Inside (plan_of W) (view k) (view l) → Sound W l × Tied W c None k l
  quietly k l c q S I = (S, quiet (λ p i v x h. subst Quiet x q) (λ p x h. subst Quiet x q) I)

  granted_tied : (k l : Model) (c : Call) → Sound W k → Made (plan_of W) (view k) → StepIn W c k None l → Sound W l × Tied W c None k l
  granted_tied k l (open_call p i v) S M st =
      let a = granted_is _ l st.does.1 in
      let t = (open_tied W k S M st.does.0 p i v st.typed (Ok a.0) l a.1 st.tidy.seals).1 a.0 refl in
      (t.0, opening p i v refl refl t.1)
  granted_tied k l (set_call p o) S M st =
      let a = granted_is _ l st.does in
      let t = set_tied W k S p o a.0 l a.1 in
      quietly k l (set_call p o) tt t.0 (further rest (Move.sets p o t.1) tt)
  granted_tied k l (turn_call p) S M st =
      let a = granted_is _ l st.does in
      let t = turn_tied W k S p a.0 l a.1 in
      (t.0, turning p refl refl t.1)
  granted_tied k l (advance_call n) S M st =
      let a = granted_is _ l st.does in
      let t = advance_tied W k S M n a.0 l a.1 in
      quietly k l (advance_call n) tt t.0 (further rest (Move.ticks n t.1) tt)
  granted_tied k l (seal_call p text) S M st =
      let a = granted_is _ l st.does.1 in
      let t = seal_tied W k S st.does.0 p text a.0 l a.1 st.tidy.seals in
      quietly k l (seal_call p text) tt t.0 (further rest (Move.forges p t.1) tt)
  granted_tied k l (inject_call from to bytes) S M st =
      let t = inject_tied W k S M st.does.0 from to bytes st.typed _ l (left_is _ None l st.does.1) st.tidy.seals in
      quietly k l (inject_call from to bytes) tt t.0 t.1
  granted_tied k l (deliver_call f p) S M st =
      let t = deliver_tied W k S M st.does.0 f p _ l (left_is _ None l st.does.1) st.tidy.seals in
      quietly k l (deliver_call f p) tt t.0 t.1
  granted_tied k l (decide_call p i) S M st =
      let a = granted_is _ l st.does in
      let t = decide_tied W k S p i a.0 l a.1 in
      quietly k l (decide_call p i) tt t.0 (go t.1)
    where
      go : (l ≡ k) ⊎ Move.Decides (plan_of W) p i (view k) (view l) → Inside (plan_of W) (view k) (view l)
      go (inl same) = unmoved W k l same
      go (inr D) = further rest (Move.decides p i D) tt
  granted_tied k l settle_call S M st =
      let t = settle_tied W k l None S M st in
      quietly k l settle_call tt t.0 t.1

  pub step_tied : StepTied W
  step_tied k l c None S M st = granted_tied k l c S M st
  step_tied k l c (Some e) S M st = refused_tied k l c e S M st

-- No call but seal is refused by rows 50 to 52.

-- a setup is no refusal
plan_low : (W : World) (k : Model) → Sound W k → Only Low k.core.plan
plan_low W k S e h = no_ok e W.setup (sym h ∙ S.plan)

sets_low : (W : World) (k : Model) → Sound W k → (p o : ℕ) → Only Low (sets p o k.core).0
sets_low W k S p o =
    only_next Low k.core.plan k.core _ (plan_low W k S) (λ s.
    only_next Low (seat s k.core p) k.core _ (seat_low s k.core p) (λ q.
    only_if Low (ltb s.e o) (Err Offset, k.core) (Ok tt, with_offsets k.core (set k.core.offsets q o)) (only_err Low Offset (omega arith)) (only_ok Low tt)))

turns_low : (W : World) (k : Model) → Sound W k → (p : ℕ) → Only Low (turns p k.core).0
turns_low W k S p =
    only_next Low k.core.plan k.core _ (plan_low W k S) (λ s.
    only_next Low (seat s k.core p) k.core _ (seat_low s k.core p) (λ q.
    only_if Low (leb s.f (count_true k.core.turned)) (Err Spare, k.core) (Ok tt, with_turned k.core (set k.core.turned q true)) (only_err Low Spare (omega arith)) (only_ok Low tt)))

due_low : (o : Option ℕ) (c : Core) (t : ℕ) → Only Low (unless_due o c t).0
due_low (Some i) c t = only_err Low (Due (i + 1)) (omega arith)
due_low None c t = only_ok Low t

advances_low : (W : World) (k : Model) → Sound W k → (n : ℕ) → Only Low (advances n k.core).0
advances_low W k S n =
    only_next Low k.core.plan k.core _ (plan_low W k S) (λ s.
    only_if Low (ltb 2000000 (k.core.time + n)) (Err End, k.core) _ (only_err Low End (omega arith)) (due_low (overdue s k.core (k.core.time + n)) k.core (k.core.time + n)))

concluded_low : (s : Setup) (a : Appointment) (r i : ℕ) (p : Part) (o : Option Decision) → Only Low (concluded s a r i p o).0
concluded_low s a r i p (Some d) = only_ok Low d
concluded_low s a r i p None =
    only_after_on Low p (passes (leb (a.reading + delta_of s) r) Wait) (λ _. closed i p) (only_passes Low (leb (a.reading + delta_of s) r) Wait (omega arith)) (λ _. only_ok Low _)

decided_low : (s : Setup) (r i : ℕ) (p : Part) → Only Low (decided s r i p).0
decided_low s r i p =
    only_after_on Low p (appointed s i Item) (λ a. concluded s a r i p (record_of p i))
    (only_appointed Low s i Item (omega arith))
    (λ a. concluded_low s a r i p (record_of p i))

records_low : (q : ℕ) (c : Core) (x : Result Decision Refusal × Part) → Only Low x.0 → Only Low (records q c x).0
records_low q c (Ok d, p) h = only_ok Low d
records_low q c (Err r, p) h = h

decides_low : (W : World) (k : Model) → Sound W k → (p i : ℕ) → Only Low (decides p i k.core).0
decides_low W k S p i =
    only_next Low k.core.plan k.core _ (plan_low W k S) (λ s.
    only_next Low (actor s k.core p i) k.core _ (actor_low s k.core p i) (λ q.
    records_low q k.core (decided s (reading_at k.core q) i (part_at k.core q)) (decided_low s (reading_at k.core q) i (part_at k.core q))))

module _ (W : World) where
  pub short : Short W
  short k l (open_call p i v) r S M st no-seal =
      (open_tied W k S M st.does.0 p i v st.typed _ l (left_is _ (Some r) l st.does.1) st.tidy.seals).0 r (refused_is _ r l st.does.1)
  short k l (set_call p o) r S M st no-seal = sets_low W k S p o r (refused_is (lifted (sets p o) k) r l st.does)
  short k l (turn_call p) r S M st no-seal = turns_low W k S p r (refused_is (lifted (turns p) k) r l st.does)
  short k l (advance_call n) r S M st no-seal = advances_low W k S n r (refused_is (lifted (advances n) k) r l st.does)
  short k l (seal_call p text) r S M st no-seal = absurd (no-seal p text refl)
  short k l (inject_call from to bytes) r S M st no-seal =
      (inject_tied W k S M st.does.0 from to bytes st.typed _ l (left_is _ (Some r) l st.does.1) st.tidy.seals).2 r (refused_is _ r l st.does.1)
  short k l (deliver_call f p) r S M st no-seal =
      (deliver_tied W k S M st.does.0 f p _ l (left_is _ (Some r) l st.does.1) st.tidy.seals).2 r (refused_is _ r l st.does.1)
  short k l (decide_call p i) r S M st no-seal = decides_low W k S p i r (refused_is (lifted (decides p i) k) r l st.does)
  short k l settle_call r S M st no-seal = absurd (none-some r (sym (settle_granted W k l (Some r) S M st).0))
