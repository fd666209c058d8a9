-- Clocks, faults, time, seals of the faulty and decisions: each of these calls is a move of the protocol.
use Rattle.std.proofs.lemmas.Bool.Decides.{same_from_decides}
use Rattle.std.proofs.Common.{◌≡◌, ℕ, zero, suc, ◌+◌, ◌-◌, ◌*◌, ◌^◌, ◌<◌, ◌≤◌, Bool, true, false, cond, ◌&&◌, ltb, leb, ◌⊎◌, List, [], ◌∷◌, reverse, length, get_or, set, is_some, Some, None, Ok, Option, sym, refl, ap, ◌∙◌, subst, inl, inr, arith}
use Rattle.std.proofs.lemmas.List.{get_or-set_same, get_or_past, length-set, set-get_or}
use Rattle.std.proofs.lemmas.Bool.{cases_Bool, cases_lt, and_parts, and_from, leb-true, leb-false, le-leb, ltb-false, cond-true, cond-false, not_from_false, both_ways}
use Rattle.refusals.specs.declared.refusal.Refusal.{Refusal}
use Rattle.seals.specs.Meanings.{Triple, signed}
use Rattle.frames.specs.Texts.{text_for}
use Rattle.processor.specs.declared.part.Bag as Kept
use Rattle.processor.specs.declared.part.Bag.TheVariants.{Empty, One, Two, Closed}
use Rattle.processor.specs.declared.part.Decision.{Decision}
use Rattle.processor.specs.declared.part.Part.{Part}
use Rattle.processor.specs.Bags.{with_bag, decision_of}
use Rattle.processor.specs.Controllers.{is_processor}
use Rattle.processor.specs.Deciding.{closed as closing, concluded, decided}
use Rattle.processor.specs.Steps.{passes, after_on}
use Rattle.processor.specs.Parts.{bag_of, record_in, record_of}
use Rattle.processor.specs.Windows.{delta_of}
use Rattle.bench.specs.declared.flight.Flight as Sent
use Rattle.bench.specs.Model.{Core, Model}
use Rattle.bench.specs.Calls.{after, lifted, has_turned, seat, count_true, with_turned, with_offsets, with_time, turns, sets, wants, goal_of, is_correct, is_late, overdue, unless_due, advances}
use Rattle.bench.specs.Flights.{on_core, with_parts, part_at, reading_at}
use Rattle.bench.specs.Reports.{no_part, recorded}
use Rattle.bench.specs.Seals.{seals}
use Rattle.bench.specs.Sending.{actor, records, decides}
use Rattle.protocol.specs.Model.{fly, closed, Seat, Listed, verdict, is_closed}
use Rattle.protocol.specs.Moves.{Ticks, Sets, Turns, Forges, Decides}
use Rattle.protocol.specs.Agreement.{Made}
use Rattle.protocol.proofs.Called.{made_reached}
use Rattle.protocol.proofs.Theorem.{good_reached}
use Rattle.bench.specs.Promise.{Decided}
use Rattle.bench.proofs.Worlds.{World, plan_of, appointment_of, entry_of, verdict_of, bag_shown}
use Rattle.bench.proofs.View.{flight_shown, flight_of, view, Sound, flying_more, SealsFit}
use Rattle.seals.proofs.Signing.{has, has_more, signed_grows, signed_only, signed_left, signed_room}
use Rattle.refusals.proofs.Firsts.{none_at}
use Rattle.processor.proofs.Outcomes.{no_ok, ok_same}
use Rattle.bench.proofs.Steps.{planned, granted_after, granted_unless, granted_if, granted_lifted}
use Rattle.bench.proofs.Seating.{between, within, Seated, place_fits, place_correct, seat_is, actor_is, appointed_from}
use Rattle.bench.proofs.Rebagging.{bag_at_bag_of, entry_here, entry_other, entry_at, rebagged, part_here, bag_sound, bag_here, bag_others}

-- what a bag decides is its verdict, and without a record it is open
verdict_shown : (b : Kept.Bag) → verdict_of (decision_of b) ≡ verdict (bag_shown b)
verdict_shown Empty = refl
verdict_shown (One v) = refl
verdict_shown (Two v w) = refl
verdict_shown (Closed d) = refl

unrecorded : (b : Kept.Bag) → record_in b ≡ None → is_closed (bag_shown b) ≡ false
unrecorded Empty e = refl
unrecorded (One v) e = refl
unrecorded (Two v w) e = refl
unrecorded (Closed d) e = absurd (cc)

-- one more has turned
count_more : (xs : List Bool) (q : ℕ) → q < length xs → get_or xs q false ≡ false → count_true (set xs q true) ≡ suc (count_true xs)
count_more [] q h e = absurd (omega arith)
count_more (x ∷ xs) zero h e = let k = ap (λ (b : Bool). cond b 1 0 + count_true xs) e in omega arith
count_more (x ∷ xs) (suc q) h e = let k = count_more xs q (omega arith) e in omega arith

module _ (W : World) (m : Model) (S : Sound W m) where
  abbrev c : Core
  c = m.core

  -- a clock is set
  module _ (p o q : ℕ) (s : Seated W.setup c p q) where
    abbrev reset : Model
    reset = on_core m (with_offsets c (set c.offsets q o))

    reset_sound : Sound W reset
    reset_sound = record {
      plan = S.plan;
      offsets = length-set c.offsets q o ∙ S.offsets;
      turned = S.turned;
      parts = S.parts;
      own = S.own;
      bags = S.bags;
      flying = S.flying;
      left = S.left;
      longest = S.longest;
      room = S.room;
      seals = S.seals;
    }

    reset_sets : o ≤ W.setup.e → Sets (plan_of W) p o (view m) (view reset)
    reset_sets within = record {
      correct = s.correct;
      within = within;
      here = ap (entry_of 0 (set c.offsets q o)) s.place ∙ entry_here 0 c.offsets q o (let a = place_fits W m p q s in let b = W.n_high in let e = S.offsets in omega arith);
      there = λ k n. entry_other 0 c.offsets q o k (λ e. n (e ∙ sym s.place));
      clock = refl;
      turns = λ k. refl;
      faults = refl;
      bags = λ k i. refl;
      seals = λ a i v h. refl;
      number = refl;
      flights = λ k h. refl;
      ways = λ k g h. refl;
    }

  pub set_tied : (p o : ℕ) (u : Unit) (l : Model) → lifted (sets p o) m ≡ (Ok u, l) → Sound W l × Sets (plan_of W) p o (view m) (view l)
  set_tied p o u l e =
      let h = granted_lifted (sets p o) m u l e in
      let g = granted_after u h.0 (seat W.setup c p) c _ (sym (planned W m S c _) ∙ h.1) in
      let t = granted_unless u h.0 (ltb W.setup.e o) Refusal.Offset c _ g.2 in
      let s = seat_is W.setup c p g.0 g.1 in
      subst (λ (x : Model). Sound W x × Sets (plan_of W) p o (view m) (view x)) (ap (λ z. on_core m z.1) t.1 ∙ h.2) (reset_sound p o g.0 s, reset_sets p o g.0 s (ltb-false _ _ t.0))

  -- a processor turns
  module _ (p q : ℕ) (s : Seated W.setup c p q) where
    abbrev worse : Model
    worse = on_core m (with_turned c (set c.turned q true))

    in_turned : q < length c.turned
    in_turned = let a = place_fits W m p q s in let b = W.n_high in let e = S.turned in omega arith

    worse_here : (view worse).turned p ≡ true
    worse_here = ap (entry_of false (set c.turned q true)) s.place ∙ entry_here false c.turned q true in_turned

    worse_there : (k : ℕ) → ¬ (k ≡ p) → (view worse).turned k ≡ (view m).turned k
    worse_there k n = entry_other false c.turned q true k (λ e. n (e ∙ sym s.place))

    worse_sound : Sound W worse
    worse_sound = record {
      plan = S.plan;
      offsets = S.offsets;
      turned = length-set c.turned q true ∙ S.turned;
      parts = S.parts;
      own = S.own;
      bags = S.bags;
      flying = S.flying;
      left = λ k low high h. S.left k low high (sym (worse_there k (λ e. both_ways _ (ap (view worse).turned (sym e) ∙ h) worse_here)) ∙ h);
      longest = S.longest;
      room = S.room;
      seals = S.seals;
    }

    worse_turns : count_true c.turned < W.setup.f → Turns (plan_of W) p (view m) (view worse)
    worse_turns spare = record {
      correct = s.correct;
      spare = spare;
      here = worse_here;
      there = worse_there;
      faults = count_more c.turned q in_turned (place_correct W m p q s);
      clock = refl;
      offsets = λ k. refl;
      bags = λ k i. refl;
      seals = λ a i v h. refl;
      number = refl;
      flights = λ k h. refl;
      ways = λ k g h. refl;
    }

  pub turn_tied : (p : ℕ) (u : Unit) (l : Model) → lifted (turns p) m ≡ (Ok u, l) → Sound W l × Turns (plan_of W) p (view m) (view l)
  turn_tied p u l e =
      let h = granted_lifted (turns p) m u l e in
      let g = granted_after u h.0 (seat W.setup c p) c _ (sym (planned W m S c _) ∙ h.1) in
      let t = granted_unless u h.0 (leb W.setup.f (count_true c.turned)) Refusal.Spare c _ g.2 in
      let s = seat_is W.setup c p g.0 g.1 in
      subst (λ (x : Model). Sound W x × Turns (plan_of W) p (view m) (view x)) (ap (λ z. on_core m z.1) t.1 ∙ h.2) (worse_sound p g.0 s, worse_turns p g.0 s (leb-false _ _ t.0))

  -- time is t
  pub time_sound : (t : ℕ) → Sound W (on_core m (with_time m.core t))
  time_sound t = record {
    plan = S.plan;
    offsets = S.offsets;
    turned = S.turned;
    parts = S.parts;
    own = S.own;
    bags = S.bags;
    flying = S.flying;
    left = S.left;
    longest = S.longest;
    room = S.room;
    seals = S.seals;
  }

  -- k ticks on, no flight from a correct author to a correct goal is due
  abbrev pub InTime : ℕ → Type 0
  InTime k = (n q i v : ℕ) (l : List ℕ) (a t : ℕ) → n < length c.flights → flight_shown (flight_of c n) ≡ fly i v l a t
      → entry_of false c.turned a ≡ false → entry_of false c.turned q ≡ false → entry_of false (flight_of c n).goals q ≡ true → c.time + k < t + W.setup.d

  pub time_ticks : (k t : ℕ) → t ≡ m.core.time + k → InTime k → Ticks (plan_of W) k (view m) (view (on_core m (with_time m.core t)))
  time_ticks k t e h = record {
    clock = e;
    in_time = h;
    offsets = λ p. refl;
    turns = λ p. refl;
    faults = refl;
    bags = λ p i. refl;
    seals = λ a i v l. refl;
    number = refl;
    flights = λ n b. refl;
    ways = λ n q b. refl;
  }

  -- a correct goal is found
  pub goal_found : (fl : Sent.Flight) (q : ℕ) → length fl.goals ≡ 8 → entry_of false m.core.turned q ≡ false → entry_of false fl.goals q ≡ true → is_some (goal_of m.core.turned fl) ≡ true
  goal_found fl zero eight h w = absurd (both_ways false refl w)
  goal_found fl (suc q) eight h w = go (goal_of c.turned fl) refl
    where
      low : (q < length fl.goals) ⊎ (length fl.goals ≤ q) → q < 8
      low (inl b) = omega arith
      low (inr b) = absurd (both_ways _ (get_or_past fl.goals q false b) w)

      go : (o : Option ℕ) → goal_of c.turned fl ≡ o → is_some o ≡ true
      go (Some j) e = refl
      go None e = absurd (both_ways _ (none_at (wants c.turned fl) 8 q e (low (cases_lt q (length fl.goals)))) (and_from _ _ w (not_from_false _ h)))

  on_time : Made (plan_of W) (view m) → (k : ℕ) → overdue W.setup c (c.time + k) ≡ None → InTime k
  on_time made k none n q i v l a t low shown ca cq way = go (cases_Bool (leb (fl.time + W.setup.d) (c.time + k)))
    where
      fl : Sent.Flight
      fl = flight_of c n

      author : fl.author ≡ a
      author = cc

      time : fl.time ≡ t
      time = cc

      seat_of : Seat (plan_of W) fl.author
      seat_of =
          let s = ((good_reached (plan_of W) i (view m) (made_reached (plan_of W) (view m) made)).inv.lawful n v l a t (low, shown)).seats.0 in
          subst (Seat (plan_of W)) (sym author) s

      correct : is_correct c.turned fl.author ≡ true
      correct =
          let x = seat_of.0 in
          let y = seat_of.1 in
          let z = W.n_high in
          and_from _ _ (within 8 fl.author x (omega arith)) (not_from_false _ (sym (entry_at false c.turned fl.author x) ∙ ap (entry_of false c.turned) author ∙ ca))

      go : (leb (fl.time + W.setup.d) (c.time + k) ≡ true) ⊎ (leb (fl.time + W.setup.d) (c.time + k) ≡ false) → c.time + k < t + W.setup.d
      go (inl late) =
          absurd (both_ways _ (none_at (λ j. is_late W.setup c.turned (c.time + k) (flight_of c j)) (length c.flights) n none low)
          (and_from _ _ correct (and_from _ _ (goal_found fl q (S.flying n low).goals cq way) late)))
      go (inr h) = let b = leb-false _ _ h in let e = time in omega arith

  pub advance_tied : Made (plan_of W) (view m) → (k t : ℕ) (l : Model) → lifted (advances k) m ≡ (Ok t, l) → Sound W l × Ticks (plan_of W) k (view m) (view l)
  advance_tied made k t l e =
      let h = granted_lifted (advances k) m t l e in
      let g = granted_unless t h.0 (ltb 2000000 (c.time + k)) Refusal.End c _ (sym (planned W m S c _) ∙ h.1) in
      let d = not_due (overdue W.setup c (c.time + k)) h.0 g.1 in
      subst (λ (x : Model). Sound W x × Ticks (plan_of W) k (view m) (view x)) (ap (on_core m) d.1 ∙ h.2) (time_sound (c.time + k), time_ticks k (c.time + k) refl (on_time made k d.0))
    where
      not_due : (o : Option ℕ) (c' : Core) → unless_due o c (c.time + k) ≡ (Ok t, c') → (o ≡ None) × (with_time c (c.time + k) ≡ c')
      not_due (Some i) c' f = no_ok _ t (ap (λ z. z.0) f)
      not_due None c' f = (refl, ap (λ z. z.1) f)

  -- a faulty processor has a text sealed
  module _ (z p : ℕ) (text : List ℕ) (bad : (view m).turned p ≡ true) (fit : SealsFit (signed m.scheme p text z)) where
    abbrev forged : Model
    forged = record { core = c; scheme = signed m.scheme p text z }

    grown : (a : ℕ) (t : List ℕ) → has m.scheme.triples a t ≡ true → has forged.scheme.triples a t ≡ true
    grown a t h = let g = signed_grows m.scheme p text z in ap (λ (ts : List Triple). has ts a t) g.1 ∙ has_more m.scheme.triples g.0 a t h

    of_others : (a : ℕ) (t : List ℕ) → ¬ (a ≡ p) → has forged.scheme.triples a t ≡ has m.scheme.triples a t
    of_others a t n = same_from_decides _ _ ((λ h. old (signed_only m.scheme p text z a t h)), grown a t) ((λ h. h), (λ h. h))
      where
        old : (has m.scheme.triples a t ≡ true) ⊎ ((p ≡ a) × (text ≡ t)) → has m.scheme.triples a t ≡ true
        old (inl h) = h
        old (inr h) = absurd (n (sym h.0))

    forged_sound : Sound W forged
    forged_sound =
        let room = signed_room m.scheme p text z in
        let grows = signed_grows m.scheme p text z in
        record {
          plan = S.plan;
          offsets = S.offsets;
          turned = S.turned;
          parts = S.parts;
          own = S.own;
          bags = S.bags;
          flying = λ k h. rw grows.1 (flying_more m.scheme.triples grows.0 (flight_of c k) (S.flying k h));
          left = λ a low high h.
              let e = (signed_left m.scheme p text z a S.room).0 (λ q. both_ways _ (sym (ap (view m).turned q) ∙ h) bad) in
              let b = S.left a low high h in
              omega (arith, e, b);
          longest = let a = room.1 in let b = S.longest in omega arith;
          room = room.0 ∙ S.room;
          seals = fit;
        }

    forged_forges : Forges (plan_of W) p (view m) (view forged)
    forged_forges = record {
      bad = bad;
      grows = λ i v l h. let k = and_parts (ltb v (2 ^ 64)) _ h in and_from _ _ k.0 (grown p _ k.1);
      there = λ a i v l n. ap (λ (b : Bool). ltb v (2 ^ 64) && b) (of_others a (text_for i v (reverse (a ∷ l))) n);
      clock = refl;
      offsets = λ k. refl;
      turns = λ k. refl;
      faults = refl;
      bags = λ k i. refl;
      number = refl;
      flights = λ k h. refl;
      ways = λ k q h. refl;
    }

  pub seal_tied : (z p : ℕ) (text : List ℕ) (s : ℕ) (l : Model) → seals z p text m ≡ (Ok s, l) → SealsFit l.scheme → Sound W l × Forges (plan_of W) p (view m) (view l)
  seal_tied z p text s l e fit =
      let g = granted_if s l (is_processor W.setup p) _ Refusal.Processor m (sym (planned W m S m _) ∙ e) in
      let t = granted_if s l (has_turned c p) _ Refusal.Sound m g.1 in
      let is : record { core = c; scheme = signed m.scheme p text z } ≡ l = ap (λ x. x.1) t.1 in
      let bad = entry_at false c.turned p (between W.setup.n p g.0).0 ∙ t.0 in
      let fit' = subst (λ (x : Model). SealsFit x.scheme) (sym is) fit in
      subst (λ (x : Model). Sound W x × Forges (plan_of W) p (view m) (view x)) is (forged_sound z p text bad fit', forged_forges z p text bad fit')

  -- d is recorded: it stood and nothing changed, or p decides
  abbrev pub HasDecided : ℕ → ℕ → Decision → Model → Type 0
  HasDecided p i d l = Sound W l × ((l ≡ m) ⊎ Decides (plan_of W) p i (view m) (view l)) × Decided l p i d

  -- the processor at place q decides item i
  module _ (q i : ℕ) (seats : Seat (plan_of W) (suc q)) (item : Listed (plan_of W) i) where
    abbrev part : Part
    part = part_at c q

    abbrev shut : Model
    shut = rebagged m q i (Closed (decision_of (bag_of part i)))

    q_small : q < 8
    q_small = let a = seats.1 in let b = W.n_high in omega arith

    item_low : 1 ≤ i
    item_low = item.0

    item_high : i ≤ 8
    item_high = let a = item.1 in let b = W.few in omega arith

    record_is : (x : Part) → record_of x i ≡ record_in (bag_of x i)
    record_is x = cond-true _ _ _ (within 8 i item_low item_high)

    shut_recorded : recorded shut.core i q ≡ Some (decision_of (bag_of part i))
    shut_recorded =
        ap (λ (x : Part). record_of x i) (part_here W m S q q_small _)
        ∙ record_is (with_bag part i (Closed (decision_of (bag_of part i))))
        ∙ ap record_in (get_or-set_same part.bags (i - 1) (Closed (decision_of (bag_of part i))) Empty (let a = S.bags q q_small in let b = item_low in let d = item_high in omega arith))

    shut_decides : (view m).turned (suc q) ≡ false → record_of part i ≡ None → (appointment_of W i).reading + delta_of W.setup ≤ reading_at c q → Decides (plan_of W) (suc q) i (view m) (view shut)
    shut_decides correct none waited = record {
      seat = seats;
      correct = correct;
      listed = item;
      undecided = ap (λ (b : Kept.Bag). is_closed (bag_shown b)) (bag_at_bag_of part i item_low) ∙ unrecorded (bag_of part i) (sym (record_is part) ∙ none);
      waited = let e : W.setup.f + 1 ≡ suc W.setup.f = omega arith in subst (λ (n : ℕ). (appointment_of W i).reading + n * (W.setup.d + W.setup.e) ≤ reading_at c q) e waited;
      here = bag_here W m S q q_small i _ item_low item_high ∙ ap closed (verdict_shown (bag_of part i)) ∙ ap (λ (b : Kept.Bag). closed (verdict (bag_shown b))) (sym (bag_at_bag_of part i item_low));
      other = bag_others W m S q q_small i _ item_low item_high;
      calm = record { clock = refl; offsets = λ p. refl; turns = λ p. refl; faults = refl };
      seals = λ a j v l. refl;
      number = refl;
      flights = λ k h. refl;
      ways = λ k p h. refl;
    }

    concluded_is : decided W.setup (reading_at c q) i part ≡ concluded W.setup (appointment_of W i) (reading_at c q) i part (record_of part i)
    concluded_is = ap (λ a. after_on part a (λ x. concluded W.setup x (reading_at c q) i part (record_of part i))) (appointed_from W i Refusal.Item item)

    conclude : (d : Decision) (c' : Core) → (view m).turned (suc q) ≡ false → records q c (decided W.setup (reading_at c q) i part) ≡ (Ok d, c') → HasDecided (suc q) i d (on_core m c')
    conclude d c' correct e = go (record_of part i) refl (ap (records q c) (sym concluded_is) ∙ e)
      where
        shuts : record_of part i ≡ None → (b : Bool) → leb ((appointment_of W i).reading + delta_of W.setup) (reading_at c q) ≡ b
            → records q c (after_on part (passes b Refusal.Wait) (λ _. closing i part)) ≡ (Ok d, c') → HasDecided (suc q) i d (on_core m c')
        shuts none true w f =
            subst (λ (x : Core). HasDecided (suc q) i d (on_core m x)) (ap (λ z. z.1) f)
            (bag_sound W m S q q_small i _ item_low item_high, inr (shut_decides correct none (leb-true _ _ w)), shut_recorded ∙ ap Some (ok_same _ d (ap (λ z. z.0) f)))
        shuts none false w f = no_ok _ d (ap (λ z. z.0) f)

        go : (o : Option Decision) → record_of part i ≡ o → records q c (concluded W.setup (appointment_of W i) (reading_at c q) i part o) ≡ (Ok d, c') → HasDecided (suc q) i d (on_core m c')
        go (Some d') h f =
            subst (λ (x : Core). HasDecided (suc q) i d (on_core m x)) (ap (with_parts c) (sym (set-get_or c.parts q no_part)) ∙ ap (λ z. z.1) f)
            (S, inl refl, h ∙ ap Some (ok_same d' d (ap (λ z. z.0) f)))
        go None h f = shuts h (leb ((appointment_of W i).reading + delta_of W.setup) (reading_at c q)) refl f

    -- it can, once the clock has come to T + Δ
    can_conclude : (appointment_of W i).reading + delta_of W.setup ≤ reading_at c q → (d : Decision) × ((records q c (decided W.setup (reading_at c q) i part)).0 ≡ Ok d)
    can_conclude waited = go (record_of part i) (ap (λ x. (records q c x).0) concluded_is)
      where
        go : (o : Option Decision)
            → (records q c (decided W.setup (reading_at c q) i part)).0 ≡ (records q c (concluded W.setup (appointment_of W i) (reading_at c q) i part o)).0
            → (d : Decision) × ((records q c (decided W.setup (reading_at c q) i part)).0 ≡ Ok d)
        go (Some d) e = (d, e)
        go None e = (decision_of (bag_of part i), e ∙ ap (λ b. (records q c (after_on part (passes b Refusal.Wait) (λ _. closing i part))).0) (le-leb _ _ waited))

  decided_at : (p i q : ℕ) (d : Decision) (c' : Core) → Seated W.setup c p q → Listed (plan_of W) i
      → records q c (decided W.setup (reading_at c q) i (part_at c q)) ≡ (Ok d, c') → HasDecided p i d (on_core m c')
  decided_at p i q d c' s item e =
      let done = conclude q i (omega arith, place_fits W m p q s) item d c' (place_correct W m p q s) e in
      subst (λ (x : ℕ). HasDecided x i d (on_core m c')) (sym s.place) done

  pub decide_tied : (p i : ℕ) (d : Decision) (l : Model) → lifted (decides p i) m ≡ (Ok d, l) → HasDecided p i d l
  decide_tied p i d l e =
      let h = granted_lifted (decides p i) m d l e in
      let g = granted_after d h.0 (actor W.setup c p i) c _ (sym (planned W m S c _) ∙ h.1) in
      let a = actor_is W.setup c p i g.0 g.1 in
      subst (HasDecided p i d) h.2 (decided_at p i g.0 d h.0 a.0 (between (length W.setup.agenda) i a.1) g.2)

  -- no decision is refused to a processor that has not turned, once time has come to T + Δ
  pub decides_granted : (p i : ℕ) → Seat (plan_of W) p → Listed (plan_of W) i → (view m).turned p ≡ false → (appointment_of W i).reading + delta_of W.setup ≤ m.core.time
      → (d : Decision) × ((decides p i m.core).0 ≡ Ok d)
  decides_granted p i seats item correct waited =
      let low = seats.0 in
      let high = seats.1 in
      let here : suc (p - 1) ≤ W.setup.n = omega arith in
      let may = can_conclude (p - 1) i (omega arith, here) item (omega arith) in
      (may.0, ap (λ x. x.0) (planned W m S c _) ∙ ap (λ a. (after a c (λ q. records q c (decided W.setup (reading_at c q) i (part_at c q)))).0) acts ∙ may.1)
    where
      acts : actor W.setup c p i ≡ Ok (p - 1)
      acts =
          cond-true _ _ _ (within W.setup.n p seats.0 seats.1)
          ∙ cond-true _ _ _ (within (length W.setup.agenda) i item.0 item.1)
          ∙ cond-false _ _ _ (sym (entry_at false c.turned p seats.0) ∙ correct)
