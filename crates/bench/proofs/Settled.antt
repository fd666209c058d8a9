-- Settling is quiet moves of the protocol, and finishes.
use Rattle.std.proofs.Common.{◌≡◌, ℕ, zero, suc, ◌+◌, ◌-◌, ◌^◌, ◌<◌, ◌≤◌, Bool, true, false, cond, eqb, ltb, leb, ◌⊎◌, List, [], ◌∷◌, ◌++◌, length, get_or, replicate, is_some, Some, None, Ok, Err, Option, Result, sym, refl, ap, ◌∙◌, subst, inl, inr, arith}
use native.Mathlib.Decide.{ℕ_discrete}
use Rattle.std.specs.List.{AllByRecursion}
use Rattle.std.proofs.ByRecursion.{All-append, All-take, All-weaker}
use Rattle.std.proofs.lemmas.List.{append-nil, take_at}
use Rattle.std.proofs.lemmas.Bool.{and_parts, not-true, both_ways}
use Rattle.refusals.specs.Places.{first}
use Rattle.refusals.specs.declared.refusal.Refusal.{Refusal}
use Rattle.refusals.specs.declared.refusal.Refusal.TheVariants.{Signer, Text, Room, Frame}
use Rattle.seals.specs.Meanings.{Triple, Meaning, known, seal_of, left_of, granted, answered}
use Rattle.plans.specs.declared.plan.Appointment.{Appointment}
use Rattle.plans.specs.Setups.{Setup}
use Rattle.processor.specs.declared.part.Decision.{Decision}
use Rattle.processor.specs.declared.owed.Owed.{Owed}
use Rattle.processor.specs.declared.part.Part.{Part}
use Rattle.processor.specs.declared.relaying.Unsent.{Unsent}
use Rattle.processor.specs.Receiving.{received}
use Rattle.processor.specs.Windows.{delta_of}
use Rattle.processor.specs.Relaying.{own_text, sealed, sent, or_owed, relayed}
use Rattle.bench.specs.Model.{Core, Model}
use Rattle.bench.specs.Calls.{wants, goal_of}
use Rattle.bench.specs.Flights.{on_core, part_at, reading_at, bytes_of, becomes, launches, keeps, accepts, ends_way, receives}
use Rattle.bench.specs.Sending.{decides}
use Rattle.protocol.specs.Model.{Plan, State, Verdict, Seat, Listed}
use Rattle.protocol.specs.Moves
use Rattle.protocol.specs.Moves.{Ticks, Decides, ticks}
use Rattle.protocol.specs.Calls.{Inside, rest, further, inside}
use Rattle.protocol.specs.Calls as Protocol
use Rattle.protocol.specs.Agreement.{Made, Decided, Finished}
use Rattle.protocol.proofs.Called.{made_reached, made_next, standing}
use Rattle.protocol.proofs.Traces.{inside_turned}
use Rattle.protocol.proofs.Theorem.{good_reached}
use Rattle.bench.specs.Settling.{with_goal, goal_at, has_goal, next, comes, Delivered, none, more, latest, risen, decides_items, decides_all, concludes, Settles}
use Rattle.bench.specs.Runs.{refusal_of_answer}
use Rattle.bench.specs.Runs.{settle_call, Step}
use Rattle.bench.proofs.Worlds.{World, appointment_of, someone, plan_of, entry_of, verdict_of}
use Rattle.bench.proofs.View.{flight_of, view, Sound, SealsFit, FourBytes}
use Rattle.seals.proofs.Signing.{signed_grows}
use Rattle.refusals.proofs.Firsts.{none_at, first_found}
use Rattle.bench.proofs.Delivering.{comes_tied}
use Rattle.bench.proofs.Promising.{SettleGranted, Arrives, decided_shown}
use Rattle.bench.proofs.Clocking.{goal_found, time_sound, time_ticks, decide_tied, decides_granted}
use Rattle.bench.proofs.Refusing.{decides_stays}

-- y has the triples of x, and perhaps more with the seal z
record Grows (z : ℕ) (x y : Meaning) : Type 0 where
  new : List Triple
  longer : y.triples ≡ x.triples ++ new
  sealed : AllByRecursion (λ e. e.seal ≡ z) new

grows_none : (z : ℕ) (x : Meaning) → Grows z x x
grows_none z x = record { new = []; longer = sym (append-nil x.triples); sealed = tt }

-- what fits after fitted before, and back, where the new seal fits
fits_before : (z : ℕ) (x y : Meaning) → Grows z x y → SealsFit y → SealsFit x
fits_before z x y g h =
    subst (AllByRecursion FourBytes) (take_at x.triples g.new (length x.triples) refl) (All-take FourBytes (length x.triples) _ (subst (AllByRecursion FourBytes) g.longer h))

fits_after : (z : ℕ) (x y : Meaning) → Grows z x y → z < 2 ^ 32 → SealsFit x → SealsFit y
fits_after z x y g l h =
    subst (AllByRecursion FourBytes) (sym g.longer) (All-append FourBytes x.triples g.new h (All-weaker (λ e. e.seal ≡ z) FourBytes (λ e k. omega arith) g.new g.sealed))

-- what a receipt does to the triples, with z for the number of a new seal
module _ (z : ℕ) where
  relay_grows : (o : Owed) (x : Meaning) (out : List ℕ) → Grows z x (relayed z o x out).1
  relay_grows o x out = go (leb o.count 6) (answered x o.own (own_text o) z)
    where
      go : (b : Bool) (a : Result ℕ Refusal) → Grows z x (or_owed o (cond b (sealed o z x out a) (Err Frame, x, out))).1
      go true (Ok s) = let g = signed_grows x o.own (own_text o) z in record { new = g.0; longer = g.1; sealed = g.2 }
      go true (Err e) = grows_none z x
      go false a = grows_none z x

  becomes_scheme : (s : Setup) (o : Owed) (m : Model) (x : Result ℕ Unsent × Meaning × List ℕ) → (becomes s o m x).1.scheme ≡ x.1
  becomes_scheme s o m (Ok n, y, frame) = refl
  becomes_scheme s o m (Err u, y, frame) = refl

  launch_grows : (s : Setup) (o : Owed) (m : Model) → Grows z m.scheme (launches s z o m).1.scheme
  launch_grows s o m = go (ltb (length m.core.flights) 120)
    where
      go : (b : Bool) → Grows z m.scheme (cond b (becomes s o m (relayed z o m.scheme (replicate 45 0))) (Err Room, m)).1.scheme
      go true = subst (Grows z m.scheme) (sym (becomes_scheme s o m (relayed z o m.scheme (replicate 45 0)))) (relay_grows o m.scheme (replicate 45 0))
      go false = grows_none z m.scheme

  keeps_scheme : (q : ℕ) (part : Part) (x : Result ℕ Refusal × Model) → (keeps q part x).1.scheme ≡ x.1.scheme
  keeps_scheme q part (Ok n, m) = refl
  keeps_scheme q part (Err r, m) = refl

  accept_grows : (s : Setup) (q : ℕ) (m : Model) (x : Result (Option Owed) Refusal × Part) → Grows z m.scheme (accepts s z q m x).1.scheme
  accept_grows s q m (Ok (Some o), part) = subst (Grows z m.scheme) (sym (keeps_scheme q part (launches s z o m))) (launch_grows s o m)
  accept_grows s q m (Ok None, part) = grows_none z m.scheme
  accept_grows s q m (Err r, part) = grows_none z m.scheme

  comes_grows : (admitted : ℕ → Bool) (same : ℕ → ℕ → Bool) (s : Setup) (i q : ℕ) (m : Model) → Grows z m.scheme (comes admitted same s z i q m).scheme
  unfolding receives
  comes_grows admitted same s i q m = accept_grows s q m (received admitted same s m.scheme.triples (reading_at m.core q) (bytes_of (flight_of m.core i)) (part_at m.core q))

-- what is answered does not depend on the number of a new seal
module _ (z w : ℕ) where
  sent_same : (o : Owed) (x : Meaning) (out : List ℕ) → (sent z o x out).0 ≡ (sent w o x out).0
  sent_same o x out = go (leb o.count 6) (known o.own) (leb (length (own_text o)) x.longest) (seal_of x.triples o.own (own_text o)) (left_of x o.own)
    where
      last : (spent : Bool) → (sealed o z x out (cond spent (Err Room) (Ok z))).0 ≡ (sealed o w x out (cond spent (Err Room) (Ok w))).0
      last true = refl
      last false = refl

      made : ℕ → (b k l : Bool) → Option ℕ → ℕ → Result ℕ Refusal
      made new b k l old n = (cond b (sealed o new x out (cond k (cond l (granted old n new) (Err Text)) (Err Signer))) (Err Frame, x, out)).0

      go : (b k l : Bool) (old : Option ℕ) (n : ℕ) → made z b k l old n ≡ made w b k l old n
      go false k l old n = refl
      go true false l old n = refl
      go true true false old n = refl
      go true true true (Some s) n = refl
      go true true true None n = last (eqb n 0)

  -- the number of a new flight, or the refusal
  abbrev numbered : ℕ → Result ℕ Refusal → Result ℕ Refusal
  numbered c (Ok n) = Ok (c + 1)
  numbered c (Err e) = Err e

  becomes_answers : (s : Setup) (o : Owed) (m : Model) (x : Result ℕ Refusal × Meaning × List ℕ) → (becomes s o m (or_owed o x)).0 ≡ numbered (length m.core.flights) x.0
  becomes_answers s o m (Ok n, y, frame) = refl
  becomes_answers s o m (Err e, y, frame) = refl

  launch_same : (s : Setup) (o : Owed) (m : Model) → (launches s z o m).0 ≡ (launches s w o m).0
  launch_same s o m = go (ltb (length m.core.flights) 120)
    where
      out : List ℕ
      out = replicate 45 0

      go : (b : Bool) → (cond b (becomes s o m (relayed z o m.scheme out)) (Err Room, m)).0 ≡ (cond b (becomes s o m (relayed w o m.scheme out)) (Err Room, m)).0
      go true = becomes_answers s o m (sent z o m.scheme out) ∙ ap (numbered (length m.core.flights)) (sent_same o m.scheme out) ∙ sym (becomes_answers s o m (sent w o m.scheme out))
      go false = refl

  keeps_answers : (q : ℕ) (part : Part) (x : Result ℕ Refusal × Model) → (keeps q part x).0 ≡ x.0
  keeps_answers q part (Ok n, m) = refl
  keeps_answers q part (Err r, m) = refl

  accept_same : (s : Setup) (q : ℕ) (m : Model) (x : Result (Option Owed) Refusal × Part) → (accepts s z q m x).0 ≡ (accepts s w q m x).0
  accept_same s q m (Ok (Some o), part) = keeps_answers q part (launches s z o m) ∙ launch_same s o m ∙ sym (keeps_answers q part (launches s w o m))
  accept_same s q m (Ok None, part) = refl
  accept_same s q m (Err r, part) = refl

  receive_same : (admitted : ℕ → Bool) (same : ℕ → ℕ → Bool) (s : Setup) (q : ℕ) (bytes : List ℕ) (m : Model) → (receives admitted same s z q bytes m).0 ≡ (receives admitted same s w q bytes m).0
  unfolding receives
  receive_same admitted same s q bytes m = accept_same s q m (received admitted same s m.scheme.triples (reading_at m.core q) bytes (part_at m.core q))

-- the next delivery
module _ (W : World) (m : Model) (S : Sound W m) where
  abbrev c : Core
  c = m.core

  next_is : Made (plan_of W) (view m) → (i q : ℕ) → next c ≡ Some (i, q) → (i < length c.flights) × (q < W.setup.n) × ((view m).turned (suc q) ≡ false) × ((view m).way i (suc q) ≡ true)
  unfolding next
  next_is M i q e = flight (first (has_goal c) (length c.flights)) refl e
    where
      Next : ℕ → ℕ → Type 0
      Next j g = (j < length c.flights) × (g < W.setup.n) × ((view m).turned (suc g) ≡ false) × ((view m).way j (suc g) ≡ true)

      found : (j g : ℕ) → first (has_goal c) (length c.flights) ≡ Some j → goal_of c.turned (flight_of c j) ≡ Some g → Next j g
      found j g ej eg =
          let low = (first_found (has_goal c) (length c.flights) j ej).0 in
          let both = and_parts _ _ (first_found (wants c.turned (flight_of c j)) 8 g eg).1 in
          let seat = ((good_reached (plan_of W) (flight_of c j).item (view m) (made_reached (plan_of W) (view m) M)).inv.aimed j _ _ _ _ (suc g) (low, refl) both.0).0 in
          (low, seat.1, not-true _ both.1, both.0)

      goal : (j : ℕ) (o : Option ℕ) → first (has_goal c) (length c.flights) ≡ Some j → goal_of c.turned (flight_of c j) ≡ o → with_goal j o ≡ Some (i, q) → Next i q
      goal j None ej eg h = absurd (cc)
      goal j (Some g) ej eg h =
          let is : ◌≡◌ {A = ℕ × ℕ} (j, g) (i, q) = cc in
          subst (λ (x : ℕ × ℕ). Next x.0 x.1) is (found j g ej eg)

      flight : (o : Option ℕ) → first (has_goal c) (length c.flights) ≡ o → goal_at c o ≡ Some (i, q) → Next i q
      flight None ej h = absurd (cc)
      flight (Some j) ej h = goal j (goal_of c.turned (flight_of c j)) ej refl h

  next_none : next c ≡ None → (k p : ℕ) → k < length c.flights → (view m).way k p ≡ true → (view m).turned p ≡ false → ⊥
  unfolding next
  next_none e k p low w h =
      both_ways _ (none_at (has_goal c) (length c.flights) k (no_flight_at (first (has_goal c) (length c.flights)) refl e) low) (goal_found W m S (flight_of c k) p (S.flying k low).goals h w)
    where
      no_goal : (j : ℕ) (o : Option ℕ) → is_some o ≡ true → with_goal j o ≡ None → ⊥
      no_goal j None s h = both_ways false refl s
      no_goal j (Some g) s h = absurd (cc)

      no_flight_at : (o : Option ℕ) → first (has_goal c) (length c.flights) ≡ o → goal_at c o ≡ None → first (has_goal c) (length c.flights) ≡ None
      no_flight_at None ej h = ej
      no_flight_at (Some j) ej h = absurd (no_goal j (goal_of c.turned (flight_of c j)) (first_found (has_goal c) (length c.flights) j ej).1 h)

-- quiet moves, and then more
onward : (P : Plan) (x y z : State) → Inside P x y → Inside P y z → Inside P x z
onward P x y z r rest = r
onward P x y z r (further {y = w} s move quiet) = further (onward P x y w r s) move quiet

-- deliveries are quiet moves
module _ (W : World) (m : Model) (S : Sound W m) (M : Made (plan_of W) (view m)) where
  delivered_tied : (n : ℕ) (k : Model) → Delivered W.admitted W.same W.setup m n k → SealsFit k.scheme → Sound W k × Inside (plan_of W) (view m) (view k)
  delivered_tied n k none seals = (S, rest)
  delivered_tied n k (more {n = n₁} {k = k₁} z i q d e) seals =
      let was = delivered_tied n₁ k₁ d (fits_before z k₁.scheme _ (comes_grows z W.admitted W.same W.setup i q k₁) seals) in
      let made = made_next (plan_of W) (view m) (view k₁) M (inside was.1) in
      let at = next_is W k₁ was.0 made i q e in
      let t = comes_tied W k₁ was.0 made i q at.0 at.1 at.2 z seals in
      (t.0, onward (plan_of W) (view m) (view k₁) _ was.1 t.1)

pub arrives : (W : World) → Arrives W
arrives W k l n z i q S M d tidy e =
    let was = delivered_tied W k S M n l d tidy.seals in
    let made = made_next (plan_of W) (view k) (view l) M (inside was.1) in
    let at = next_is W l was.0 made i q e in
    let fit = fits_after 0 l.scheme _ (comes_grows 0 W.admitted W.same W.setup i q l) (omega arith) tidy.seals in
    ap ends_way (receive_same z 0 W.admitted W.same W.setup q (bytes_of (flight_of l.core i)) l)
    ∙ (comes_tied W l was.0 made i q at.0 at.1 at.2 0 fit).2

-- time rises, once nothing is on its way
module _ (W : World) (m : Model) (S : Sound W m) (done : next m.core ≡ None) where
  abbrev later : Model
  later = on_core m (risen W.setup m.core)

  risen_tied : Sound W later × Ticks (plan_of W) (later.core.time - m.core.time) (view m) (view later)
  risen_tied = (
    time_sound W m S later.core.time,
    time_ticks W m S (later.core.time - m.core.time) later.core.time (omega arith) (λ k q i v l a t low shown ca cq way. absurd (next_none W m S done k q low way cq)),
  )

-- p, if it has not turned, has decided the item
abbrev Over : State → ℕ → ℕ → Type 0
Over x p i = x.turned p ≡ false → (r : Verdict) × Decided x p i r

over_on : (P : Plan) (x y : State) → Made P x → Inside P x y → (p i : ℕ) → Over x p i → Over y p i
over_on P x y M s p i h correct =
    let d = h (sym (inside_turned P x y s p) ∙ correct) in
    (d.0, standing P x y M (Protocol.next Protocol.begin (inside s)) p i d.0 d.1)

-- every item's time is over
abbrev Ripe : World → Model → Type 0
Ripe W m = (i : ℕ) → Listed (plan_of W) i → (appointment_of W i).reading + delta_of W.setup ≤ m.core.time

-- where decisions lead
record Leads (W : World) (m l : Model) : Type 0 where
  sound : Sound W l
  path : Inside (plan_of W) (view m) (view l)
  clock : l.core.time ≡ m.core.time

leads_none : (W : World) (m : Model) → Sound W m → Leads W m m
leads_none W m S = record { sound = S; path = rest; clock = refl }

leads_on : (W : World) (m k l : Model) → Leads W m k → Leads W k l → Leads W m l
leads_on W m k l a b = record { sound = b.sound; path = onward (plan_of W) (view m) (view k) (view l) a.path b.path; clock = b.clock ∙ a.clock }

leads_made : (W : World) (m l : Model) → Made (plan_of W) (view m) → Leads W m l → Made (plan_of W) (view l)
leads_made W m l M a = made_next (plan_of W) (view m) (view l) M (inside a.path)

leads_ripe : (W : World) (m l : Model) → Ripe W m → Leads W m l → Ripe W l
leads_ripe W m l ripe a i h = let was = ripe i h in let same = a.clock in omega arith

-- no item's reading is later
latest_most : (agenda : List Appointment) (k : ℕ) (nobody : Appointment) → k < length agenda → (get_or agenda k nobody).reading ≤ latest agenda
latest_most [] k nobody h = absurd (omega arith)
latest_most (a ∷ agenda) zero nobody h = omega arith
latest_most (a ∷ agenda) (suc k) nobody h = let later = latest_most agenda k nobody (omega arith) in omega arith

risen_ripe : (W : World) (m : Model) → Ripe W (on_core m (risen W.setup m.core))
risen_ripe W m i h =
    let low = h.0 in
    let high = h.1 in
    let most = latest_most W.setup.agenda (i - 1) someone (omega arith) in
    omega arith

module _ (W : World) where
  decide_leads : (m : Model) → Sound W m → Ripe W m → (p i : ℕ) → Seat (plan_of W) p → Listed (plan_of W) i
      → Leads W m (on_core m (decides p i m.core).1) × Over (view (on_core m (decides p i m.core).1)) p i
  decide_leads m S ripe p i seat item = go (decides p i m.core).0 (decides p i m.core).1 refl
    where
      go : (a : Result Decision Refusal) (c : Core) → decides p i m.core ≡ (a, c) → Leads W m (on_core m c) × Over (view (on_core m c)) p i
      go (Ok d) c e =
          let t = decide_tied W m S p i d (on_core m c) (ap (λ x. (x.0, on_core m x.1)) e) in
          (by t.0 t.1, λ _. (verdict_of d, decided_shown (on_core m c) p i d t.2))
        where
          by : Sound W (on_core m c) → (on_core m c ≡ m) ⊎ Decides (plan_of W) p i (view m) (view (on_core m c)) → Leads W m (on_core m c)
          by sound (inl is) = subst (Leads W m) (sym is) (leads_none W m S)
          by sound (inr s) = record { sound = sound; path = further rest (Moves.decides p i s) tt; clock = s.calm.clock }
      go (Err r) c e =
          let is : c ≡ m.core = sym (ap (λ x. x.1) e) ∙ (decides_stays p i m.core).leaves r (ap (λ x. x.0) e) in (
            subst (λ (x : Core). Leads W m (on_core m x)) (sym is) (leads_none W m S),
            λ correct.
                let g = decides_granted W m S p i seat item (sym (ap (λ (x : Core). entry_of false x.turned p) is) ∙ correct) (ripe i item) in
                let clash : Err r ≡ Ok g.0 = sym (ap (λ x. x.0) e) ∙ g.1 in
                absurd (cc),
          )

  items_lead : (m : Model) → Sound W m → Made (plan_of W) (view m) → Ripe W m → (p k : ℕ) → Seat (plan_of W) p → k ≤ length W.setup.agenda
      → Leads W m (on_core m (decides_items p k m.core)) × ((i : ℕ) → 1 ≤ i → i ≤ k → Over (view (on_core m (decides_items p k m.core))) p i)
  unfolding decides_items
  items_lead m S M ripe p zero seat h = (leads_none W m S, λ i low high. absurd (omega arith))
  items_lead m S M ripe p (suc k) seat h =
      let was = items_lead m S M ripe p k seat (omega arith) in
      let l = on_core m (decides_items p k m.core) in
      let one = decide_leads l was.0.sound (leads_ripe W m l ripe was.0) p (suc k) seat (omega arith, h) in
      let l₁ = on_core l (decides p (suc k) l.core).1 in (
        leads_on W m l l₁ was.0 one.0,
        λ i low high. elim (ℕ_discrete i (suc k)) [
          | yes e ↦ subst (Over (view l₁) p) (sym e) one.1
          | no n ↦ over_on (plan_of W) (view l) (view l₁) (leads_made W m l M was.0) one.0.path p i (was.1 i low (omega arith))
        ],
      )

  all_lead : (m : Model) → Sound W m → Made (plan_of W) (view m) → Ripe W m → (p k : ℕ) → p ≤ W.setup.n → k ≤ length W.setup.agenda
      → Leads W m (on_core m (decides_all p k m.core)) × ((a i : ℕ) → 1 ≤ a → a ≤ p → 1 ≤ i → i ≤ k → Over (view (on_core m (decides_all p k m.core))) a i)
  unfolding decides_all
  all_lead m S M ripe zero k g h = (leads_none W m S, λ a i low high. absurd (omega arith))
  all_lead m S M ripe (suc p) k g h =
      let was = all_lead m S M ripe p k (omega arith) h in
      let l = on_core m (decides_all p k m.core) in
      let made = leads_made W m l M was.0 in
      let one = items_lead l was.0.sound made (leads_ripe W m l ripe was.0) (suc p) k (omega arith, g) h in
      let l₁ = on_core l (decides_items (suc p) k l.core) in (
        leads_on W m l l₁ was.0 one.0,
        λ a i low high low₁ high₁. elim (ℕ_discrete a (suc p)) [
          | yes e ↦ subst (λ (x : ℕ). Over (view l₁) x i) (sym e) (one.1 i low₁ high₁)
          | no n ↦ over_on (plan_of W) (view l) (view l₁) made one.0.path a i (was.1 a i low (omega arith) low₁ high₁)
        ],
      )

  -- once nothing is on its way, time and decisions finish
  concludes_tied : (m : Model) → Sound W m → Made (plan_of W) (view m) → next m.core ≡ None
      → let l = on_core m (concludes W.setup m.core) in Sound W l × Inside (plan_of W) (view m) (view l) × Finished (plan_of W) (view l)
  concludes_tied m S M done =
      let k = on_core m (risen W.setup m.core) in
      let t = risen_tied W m S done in
      let path : Inside (plan_of W) (view m) (view k) = further rest (ticks _ t.1) tt in
      let made = made_next (plan_of W) (view m) (view k) M (inside path) in
      let end = all_lead k t.0 made (risen_ripe W m) W.setup.n (length W.setup.agenda) (omega arith) (omega arith) in
      (end.0.sound, onward (plan_of W) (view m) (view k) _ path end.0.path, λ p i seat item. end.1 p i seat.0 seat.1 item.0 item.1)

  -- what a settling answers and leaves
  settles_tied : (k l : Model) (r : Option Refusal) → Sound W k → Made (plan_of W) (view k) → Step W.admitted W.same settle_call k r l
      → Sound W l × Inside (plan_of W) (view k) (view l) × (r ≡ None) × Finished (plan_of W) (view l)
  settles_tied k l r S M s = go s.does.0 s.does.1 s.does.2
    where
      go : (a : Result ℕ Refusal) → Settles W.admitted W.same k a l → r ≡ refusal_of_answer a → Sound W l × Inside (plan_of W) (view k) (view l) × (r ≡ None) × Finished (plan_of W) (view l)
      go (Err x) h e =
          let clash : Err x ≡ Ok W.setup = sym h.0 ∙ S.plan in
          absurd (cc)
      go (Ok n) h e =
          let j = h.1 in
          let ok : Ok h.0 ≡ Ok W.setup = sym h.2 ∙ S.plan in
          let plan : h.0 ≡ W.setup = cc in
          let is : l ≡ on_core j (concludes W.setup j.core) = h.5 ∙ ap (λ (x : Setup). on_core j (concludes x j.core)) plan in
          let seals = subst (λ (x : Model). SealsFit x.scheme) is s.tidy.seals in
          let came = delivered_tied W k S M n j (subst (λ (x : Setup). Delivered W.admitted W.same x k n j) plan h.3) seals in
          let end = concludes_tied j came.0 (made_next (plan_of W) (view k) (view j) M (inside came.1)) h.4 in
          let path = onward (plan_of W) (view k) (view j) _ came.1 end.1 in
          subst (λ (x : Model). Sound W x × Inside (plan_of W) (view k) (view x) × (r ≡ None) × Finished (plan_of W) (view x)) (sym is) (end.0, path, e, end.2)

  pub settle_tied : (k l : Model) (r : Option Refusal) → Sound W k → Made (plan_of W) (view k) → Step W.admitted W.same settle_call k r l → Sound W l × Inside (plan_of W) (view k) (view l)
  settle_tied k l r S M s = let t = settles_tied k l r S M s in (t.0, t.1)

  pub settle_granted : SettleGranted W
  settle_granted k l r S M s = let t = settles_tied k l r S M s in (t.2, t.3)
