-- Flights that come to a processor, and frames that a faulty one sends.
use Rattle.std.proofs.Common.{◌≡◌, ℕ, suc, ◌<◌, Bool, true, false, eqb, ◌⊎◌, List, ◌∷◌, length, Ok, Result, sym, refl, ap, ◌∙◌, subst, inl, inr, arith}
use mathlib.Core.Path.{subst₃}
use native.Mathlib.Decide.{ℕ_discrete}
use Rattle.std.proofs.lemmas.List.{get_or-set_same, get_or-set_other, length-set}
use Rattle.refusals.specs.declared.refusal.Refusal.{Refusal}
use Rattle.frames.specs.Bytes.{Fields, decode}
use Rattle.bench.specs.declared.flight.Flight as Sent
use Rattle.bench.specs.Model.{Core, Model}
use Rattle.bench.specs.Calls.{no_flight}
use Rattle.bench.specs.Flights.{on_core, bytes_of, marked, marks, ends_way, receives}
use Rattle.bench.specs.Settling.{ended}
use Rattle.protocol.specs.Model.{Flight, fly, author_of, Acceptable}
use Rattle.protocol.specs.Moves.{Takes, Drops, drops, keeps, relays}
use Rattle.protocol.specs.Calls.{Inside, rest, further}
use Rattle.protocol.specs.Agreement.{Made, tally, flights_of}
use Rattle.protocol.proofs.Counts.{tally_same}
use Rattle.protocol.proofs.Traces.{stale}
use Rattle.bench.proofs.Worlds.{World, plan_of, entry_of, newest_first}
use Rattle.bench.proofs.View.{older, fields_in, flight_shown, flight_of, view, Flying, Sound, SealsFit}
use Rattle.frames.proofs.Fitting.{Read, decode_is}
use Rattle.bench.proofs.Rebagging.{entry_other}
use Rattle.bench.proofs.Receiving as Came
use Rattle.bench.proofs.Receiving.{Receipt, receive_tied}

-- a flight's way ends
module _ (W : World) (m : Model) (S : Sound W m) (i q : ℕ) (here : i < length m.core.flights) (seat : q < 8) where
  abbrev landed : Model
  landed = on_core m (marks m.core i q)

  abbrev fl : Sent.Flight
  fl = flight_of m.core i

  landed_at : flight_of landed.core i ≡ marked fl q
  landed_at = get_or-set_same m.core.flights i (marked fl q) no_flight here

  landed_other : (k : ℕ) → ¬ (k ≡ i) → flight_of landed.core k ≡ flight_of m.core k
  landed_other k n = get_or-set_other m.core.flights i k (marked fl q) no_flight n

  -- only the marks of the flight may differ
  shown_same : (k : ℕ) → flight_shown (flight_of landed.core k) ≡ flight_shown (flight_of m.core k)
  shown_same k = go (ℕ_discrete k i)
    where
      go : Dec (k ≡ i) → flight_shown (flight_of landed.core k) ≡ flight_shown (flight_of m.core k)
      go (no n) = ap flight_shown (landed_other k n)
      go (yes e) = ap (λ (j : ℕ). flight_shown (flight_of landed.core j)) e ∙ ap flight_shown landed_at ∙ ap (λ (j : ℕ). flight_shown (flight_of m.core j)) (sym e)

  landed_sound : Sound W landed
  landed_sound = record {
    plan = S.plan;
    offsets = S.offsets;
    turned = S.turned;
    parts = S.parts;
    own = S.own;
    bags = S.bags;
    flying = λ k h. go k (let e = length-set m.core.flights i (marked fl q) in omega arith) (ℕ_discrete k i);
    left = λ p low high correct. let a = S.left p low high correct in let b = same p in omega (arith, a, b);
    longest = S.longest;
    room = S.room;
    seals = S.seals;
  }
    where
      go : (k : ℕ) → k < length m.core.flights → Dec (k ≡ i) → Flying m.scheme.triples (flight_of landed.core k)
      go k h (no n) = subst (Flying m.scheme.triples) (sym (landed_other k n)) (S.flying k h)
      go k h (yes e) =
          let F = S.flying i here in
          subst (Flying m.scheme.triples) (sym (ap (flight_of landed.core) e ∙ landed_at)) (record {
            goals = length-set fl.goals q false ∙ F.goals;
            whole = F.whole;
            item = F.item;
            read = F.read;
            author = F.author;
            genuine = F.genuine;
          })

      same : (a : ℕ) → flights_of (view landed) a ≡ flights_of (view m) a
      same a =
          let by : Core → ℕ → Bool = λ d k. eqb (author_of (flight_shown (flight_of d k))) a in
          ap (tally (by landed.core)) (length-set m.core.flights i (marked fl q))
          ∙ tally_same (by landed.core) (by m.core) (length m.core.flights) (λ k h. ap (λ (x : Flight). eqb (author_of x) a) (shown_same k))

  landed_drops : (view m).turned (suc q) ≡ false
      → ((j v : ℕ) (l : List ℕ) (a t : ℕ) → (view m).flight i ≡ fly j v l a t → ¬ (Acceptable (plan_of W) (view m) (suc q) j v (a ∷ l))) → Drops (plan_of W) i (suc q) (view m) (view landed)
  landed_drops correct fails = record {
    correct = correct;
    known = here;
    fails = fails;
    here = ap (λ (x : Sent.Flight). entry_of false x.goals (suc q)) landed_at ∙ get_or-set_same fl.goals q false false (let e = (S.flying i here).goals in omega arith);
    there = λ h p e. away h p e (ℕ_discrete h i);
    calm = record { clock = refl; offsets = λ p. refl; turns = λ p. refl; faults = refl };
    bags = λ p k. refl;
    seals = λ a k v l. refl;
    number = length-set m.core.flights i (marked fl q);
    flights = λ k h. shown_same k;
  }
    where
      away : (h p : ℕ) → (¬ (h ≡ i)) ⊎ (¬ (p ≡ suc q)) → Dec (h ≡ i) → (view landed).way h p ≡ (view m).way h p
      away h p e (no n) = ap (λ (x : Sent.Flight). entry_of false x.goals p) (landed_other h n)
      away h p (inl e) (yes n) = absurd (e n)
      away h p (inr e) (yes n) =
          ap (λ (j : ℕ). entry_of false (flight_of landed.core j).goals p) n
          ∙ ap (λ (x : Sent.Flight). entry_of false x.goals p) landed_at
          ∙ entry_other false fl.goals q false p e
          ∙ ap (λ (j : ℕ). entry_of false (flight_of m.core j).goals p) (sym n)

-- the flight at place i comes to the processor at place q
module _ (W : World) (m : Model) (S : Sound W m) (M : Made (plan_of W) (view m)) (i q : ℕ) (here : i < length m.core.flights) (seat : q < W.setup.n)
    (correct : (view m).turned (suc q) ≡ false) (z : ℕ) where
  abbrev sent : Sent.Flight
  sent = flight_of m.core i

  abbrev came : Result ℕ Refusal × Model
  came = receives W.admitted W.same W.setup z q (bytes_of sent) m

  q_small : q < 8
  q_small = let h = W.n_high in omega arith

  says : (f : Fields) → decode (bytes_of sent) ≡ Ok f → fields_in sent ≡ f
  says f d = decode_is (bytes_of sent) f d

  -- what the flight shows is what its frame says
  same_frame : (f : Fields) → decode (bytes_of sent) ≡ Ok f → (j v : ℕ) (l : List ℕ) (a t : ℕ) → flight_shown sent ≡ fly j v l a t → (j ≡ f.item) × (v ≡ f.value) × (a ∷ l ≡ newest_first f)
  same_frame f d j v l a t e =
      let F = S.flying i here in
      let j₁ : j ≡ sent.item = cc in
      let v₁ : v ≡ (fields_in sent).value = cc in
      let a₁ : a ≡ sent.author = cc in
      let l₁ : l ≡ older (newest_first (fields_in sent)) = cc in
      (j₁ ∙ sym F.item ∙ ap (λ (g : Fields). g.item) (says f d), v₁ ∙ ap (λ (g : Fields). g.value) (says f d), (λ k. a₁ k ∷ l₁ k) ∙ sym F.author ∙ ap newest_first (says f d))

  -- once the bag has taken the value, the frame does not pass any more
  over : (f : Fields) → decode (bytes_of sent) ≡ Ok f → (l₁ : Model) → Takes (suc q) f.item f.value (view m) (view l₁)
      → Acceptable (plan_of W) (view m) (suc q) f.item f.value (newest_first f) → (view l₁).flight i ≡ flight_shown sent
      → (j v : ℕ) (l : List ℕ) (a t : ℕ) → (view l₁).flight i ≡ fly j v l a t → ¬ (Acceptable (plan_of W) (view l₁) (suc q) j v (a ∷ l))
  over f d l₁ T A old j v l a t e B =
      let s = same_frame f d j v l a t (sym old ∙ e) in
      let e₀ = s.0 in
      let e₁ = s.1 in
      let e₂ = s.2 in
      let C : Acceptable (plan_of W) (view l₁) (suc q) f.item f.value (newest_first f) = subst₃ (λ (x y : ℕ) (w : List ℕ). Acceptable (plan_of W) (view l₁) (suc q) x y w) e₀ e₁ e₂ B in
      stale (plan_of W) (suc q) f.item f.value (newest_first f) (newest_first f) (view m) (view l₁) T A C

  ends : (l₁ : Model) → Sound W l₁ → Inside (plan_of W) (view m) (view l₁) → i < length l₁.core.flights → (view l₁).turned (suc q) ≡ false
      → ((j v : ℕ) (l : List ℕ) (a t : ℕ) → (view l₁).flight i ≡ fly j v l a t → ¬ (Acceptable (plan_of W) (view l₁) (suc q) j v (a ∷ l)))
      → Sound W (on_core l₁ (marks l₁.core i q)) × Inside (plan_of W) (view m) (view (on_core l₁ (marks l₁.core i q)))
  ends l₁ S₁ path known c fails = (landed_sound W l₁ S₁ i q known q_small, further path (drops i (suc q) (landed_drops W l₁ S₁ i q known q_small c fails)) tt)

  pub comes_tied : SealsFit came.1.scheme → Sound W (ended i q came) × Inside (plan_of W) (view m) (view (ended i q came)) × (ends_way came.0 ≡ true)
  comes_tied seals = go came.0 came.1 (receive_tied W m S M q seat correct (bytes_of sent) (λ f d. subst Read (says f d) (S.flying i here).read) z came.0 came.1 refl seals)
    where
      go : (a : Result ℕ Refusal) (l₁ : Model) → Sound W l₁ × Receipt W m q (bytes_of sent) a l₁
          → Sound W (ended i q (a, l₁)) × Inside (plan_of W) (view m) (view (ended i q (a, l₁))) × (ends_way a ≡ true)
      go a l₁ (S₁, Came.drops r e d same miss) =
          let F = S.flying i here in
          let out : (j v : ℕ) (l : List ℕ) (a₁ t : ℕ) → (view m).flight i ≡ fly j v l a₁ t → ¬ (Acceptable (plan_of W) (view m) (suc q) j v (a₁ ∷ l)) = (λ j v l a₁ t e₁ B.
          let s = same_frame (fields_in sent) F.whole j v l a₁ t e₁ in
          miss (fields_in sent) F.whole F.genuine (subst₃ (λ (x y : ℕ) (w : List ℕ). Acceptable (plan_of W) (view m) (suc q) x y w) s.0 s.1 s.2 B)) in
          let r₁ = ends m S rest here correct out in
          let back = subst (λ (k : Model). Sound W (on_core k (marks k.core i q)) × Inside (plan_of W) (view m) (view (on_core k (marks k.core i q)))) (sym same) r₁ in
          (back.0, back.1, ap ends_way e ∙ d)
      go a l₁ (S₁, Came.takes f n d e K) =
          let path = further rest (keeps (suc q) f.item f.value (newest_first f) K) tt in
          let more = K.number in
          let r₁ = ends l₁ S₁ path (omega (arith, more)) (K.calm.turns (suc q) ∙ correct) (over f d l₁ K.takes K.passes (K.flights i here)) in
          (r₁.0, r₁.1, ap ends_way e)
      go a l₁ (S₁, Came.passes f n d e R) =
          let path = further rest (relays (suc q) f.item f.value (newest_first f) R) tt in
          let more = R.sends.number in
          let r₁ = ends l₁ S₁ path (omega (arith, more)) (R.calm.turns (suc q) ∙ correct) (over f d l₁ R.takes R.passes (R.sends.flights i here)) in
          (r₁.0, r₁.1, ap ends_way e)
