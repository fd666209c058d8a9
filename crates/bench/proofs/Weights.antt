-- Each delivery leaves less to deliver.
use Rattle.std.proofs.Common.{◌≡◌, ℕ, ◌+◌, ◌-◌, ◌*◌, ◌<◌, ◌≤◌, Bool, true, false, ltb, List, [], ◌∷◌, ◌++◌, length, get_or, take, set, replicate, Some, None, Ok, Err, Option, Result, sym, refl, ap, ◌∙◌, subst, arith, length-append, length-set, length-take, get_or-take}
use Rattle.std.specs.List.{sum_by}
use Rattle.std.proofs.lemmas.List.Sums.{sum_by-le, sum_by-set, sum_by_push}
use lib.ListN.{get_or-append}
use lib.Seq.{take-set-lt}
use Rattle.std.proofs.lemmas.Bool.{and_parts, cond_both, ltb-true}
use Rattle.refusals.specs.Places.{first}
use Rattle.refusals.specs.declared.refusal.Refusal.{Refusal}
use Rattle.refusals.proofs.Firsts.{first_found}
use Rattle.seals.specs.Meanings.{Meaning}
use Rattle.plans.specs.Setups.{Setup}
use Rattle.processor.specs.declared.owed.Owed.{Owed}
use Rattle.processor.specs.declared.part.Part.{Part}
use Rattle.processor.specs.declared.relaying.Unsent.{Unsent}
use Rattle.processor.specs.Receiving.{received}
use Rattle.processor.specs.Relaying.{relayed}
use Rattle.bench.specs.declared.flight.Flight.{Flight}
use Rattle.bench.specs.Model.{Core, Model}
use Rattle.bench.specs.Calls.{count_true, no_flight, wants, goal_of}
use Rattle.bench.specs.Flights.{marked, part_at, reading_at, bytes_of, flight_for, becomes, launches, keeps, accepts, receives}
use Rattle.bench.specs.Settling.{with_goal, goal_at, has_goal, next, comes}
use Rattle.bench.proofs.Lists.{count_le, count_cleared}

-- the ways of a flight that have not ended
abbrev ways : Flight → ℕ
ways fl = count_true (take 8 fl.goals)

-- the open ways of all flights, and eight for each flight that may still begin
abbrev pub weight : List Flight → ℕ
weight fs = sum_by ways fs + 8 * (120 - length fs)

ways_few : (fl : Flight) → ways fl ≤ 8
ways_few fl = omega (arith, count_le (take 8 fl.goals), length-take 8 fl.goals)

pub weight_few : (fs : List Flight) → length fs ≤ 120 → weight fs ≤ 960
weight_few fs few = omega (arith, sum_by-le ways 8 fs (λ k d h. ways_few (get_or fs k d)))

-- the flight at place i is on its way to place q
abbrev OnWay : List Flight → ℕ → ℕ → Type 0
OnWay fs i q = (i < length fs) × (q < 8) × (get_or (get_or fs i no_flight).goals q false ≡ true)

-- the next flight is on its way to its next goal
next_on_way : (c : Core) (i q : ℕ) → next c ≡ Some (i, q) → OnWay c.flights i q
unfolding next
next_on_way c i q e = by (first (has_goal c) (length c.flights)) refl e
  where
    goal : (j : ℕ) (o : Option ℕ) → with_goal j o ≡ Some (i, q) → (j ≡ i) × (o ≡ Some q)
    goal j None g = absurd (cc)
    goal j (Some k) g = let p : ◌≡◌ {A = ℕ × ℕ} (j, k) (i, q) = cc in (ap (λ x. x.0) p, ap (λ x. Some x.1) p)

    by : (o : Option ℕ) → first (has_goal c) (length c.flights) ≡ o → goal_at c o ≡ Some (i, q) → OnWay c.flights i q
    by None f g = absurd (cc)
    by (Some j) f g =
        let w = goal j (goal_of c.turned (get_or c.flights j no_flight)) g in
        let lt = first_found (has_goal c) (length c.flights) j f in
        let at : goal_of c.turned (get_or c.flights i no_flight) ≡ Some q = rw w.0 at w.1 in
        let y = first_found (wants c.turned (get_or c.flights i no_flight)) 8 q at in
        (omega (arith, w.0), y.0, (and_parts _ _ y.1).0)

-- a way is ended
ended_less : (fs : List Flight) (i q : ℕ) → OnWay fs i q → weight (set fs i (marked (get_or fs i no_flight) q)) + 1 ≡ weight fs
ended_less fs i q on =
    let fl = get_or fs i no_flight in
    let a = sum_by-set ways fs i (marked fl q) no_flight on.0 in
    let b = count_cleared (take 8 fl.goals) q (get_or-take 8 fl.goals q false on.1 ∙ on.2) in
    let e = ap count_true (take-set-lt 8 fl.goals q false on.1) in
    simp length-set (omega arith)

-- at most one flight begins, where there is room
data Begins (fs : List Flight) : List Flight → Type 0 where
  none : Begins fs fs
  one : (fl : Flight) → length fs < 120 → Begins fs (fs ++ (fl ∷ []))

becomes_begins : (s : Setup) (o : Owed) (m : Model) (x : Result ℕ Unsent × Meaning × List ℕ) → length m.core.flights < 120 → Begins m.core.flights (becomes s o m x).1.core.flights
becomes_begins s o m (Ok n, scheme, frame) few = one (flight_for s m.core.time o n frame) few
becomes_begins s o m (Err u, scheme, frame) few = none

launches_begins : (s : Setup) (z : ℕ) (o : Owed) (m : Model) → Begins m.core.flights (launches s z o m).1.core.flights
launches_begins s z o m =
    let P : Result ℕ Refusal × Model → Type 0 = λ x. Begins m.core.flights x.1.core.flights in
    cond_both (ltb (length m.core.flights) 120) _ _ P (λ e. becomes_begins s o m (relayed z o m.scheme (replicate 45 0)) (ltb-true _ _ e)) (λ e. none)

keeps_flights : (q : ℕ) (p : Part) (x : Result ℕ Refusal × Model) → (keeps q p x).1.core.flights ≡ x.1.core.flights
keeps_flights q p (Ok n, m) = refl
keeps_flights q p (Err r, m) = refl

accepts_begins : (s : Setup) (z q : ℕ) (m : Model) (x : Result (Option Owed) Refusal × Part) → Begins m.core.flights (accepts s z q m x).1.core.flights
accepts_begins s z q m (Ok (Some o), p) = subst (Begins m.core.flights) (sym (keeps_flights q p (launches s z o m))) (launches_begins s z o m)
accepts_begins s z q m (Ok None, p) = none
accepts_begins s z q m (Err r, p) = none

receives_begins : (admitted : ℕ → Bool) (same : ℕ → ℕ → Bool) (s : Setup) (z q : ℕ) (bytes : List ℕ) (m : Model) → Begins m.core.flights (receives admitted same s z q bytes m).1.core.flights
unfolding receives
receives_begins admitted same s z q bytes m = accepts_begins s z q m (received admitted same s m.scheme.triples (reading_at m.core q) bytes (part_at m.core q))

-- a flight that begins weighs no more than its room did, and changes no other flight
begun : (fs gs : List Flight) (i q : ℕ) → Begins fs gs → OnWay fs i q → (weight gs ≤ weight fs) × OnWay gs i q
begun fs gs i q none on = (omega arith, on)
begun fs gs i q (one fl few) on =
    let w = sum_by_push ways fs fl in
    let k = ways_few fl in
    let same = get_or-append fs (fl ∷ []) no_flight i on.0 in
    (simp length-append (omega arith), (simp length-append (omega arith), on.1, ap (λ x. get_or x.goals q false) same ∙ on.2))

-- a delivery ends one way
pub falls : (admitted : ℕ → Bool) (same : ℕ → ℕ → Bool) (s : Setup) (z i q : ℕ) (m : Model) → next m.core ≡ Some (i, q) → weight (comes admitted same s z i q m).core.flights + 1 ≤ weight m.core.flights
falls admitted same s z i q m e =
    let bytes = bytes_of (get_or m.core.flights i no_flight) in
    let gs = (receives admitted same s z q bytes m).1.core.flights in
    let b = begun m.core.flights gs i q (receives_begins admitted same s z q bytes m) (next_on_way m.core i q e) in
    let l = ended_less gs i q b.1 in
    omega arith
