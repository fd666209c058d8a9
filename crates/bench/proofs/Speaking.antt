-- open is the protocol's opening, or it is refused by a row below 50.
use Rattle.std.proofs.Common.{◌≡◌, ℕ, suc, ◌+◌, ◌^◌, ◌<◌, ◌≤◌, true, false, eqb, [], length, Ok, Err, Result, sym, refl, ap, ◌∙◌, subst, subst₂, arith}
use Rattle.std.proofs.lemmas.Bool.{eqb-true}
use Rattle.refusals.specs.declared.refusal.Refusal.{Refusal}
use Rattle.refusals.specs.declared.refusal.Refusal.TheVariants.{Item, Moment, Sender, Opened, Value}
use Rattle.frames.specs.declared.link.Link.{Link}
use Rattle.plans.specs.declared.plan.Appointment.{Appointment}
use Rattle.processor.specs.declared.part.Bag as Kept
use Rattle.processor.specs.declared.part.Bag.TheVariants.{Empty, One, Two, Closed}
use Rattle.processor.specs.declared.part.Part.{Part}
use Rattle.processor.specs.Agendas.{appointed}
use Rattle.processor.specs.Bags.{with_bag}
use Rattle.processor.specs.Broadcasts.{owed_for}
use Rattle.processor.specs.Opening.{is_empty, opening, opened}
use Rattle.processor.specs.Parts.{bag_of}
use Rattle.processor.specs.Steps.{passes, after_on}
use Rattle.bench.specs.Model.{Model}
use Rattle.bench.specs.Calls.{after as or_else}
use Rattle.bench.specs.Flights.{part_at, reading_at, launches, keeps}
use Rattle.bench.specs.Sending.{actor, speaks, opens}
use Rattle.protocol.specs.Model.{Bag, Listed, empty, put}
use Rattle.protocol.specs.Moves.{Opens}
use Rattle.protocol.specs.Agreement.{Made, Room}
use Rattle.protocol.proofs.Called.{spacious}
use Rattle.bench.proofs.Worlds.{World, plan_of, bag_shown}
use Rattle.bench.proofs.View.{view, Sound, SealsFit}
use Rattle.processor.proofs.Outcomes.{no_ok, cond_ok, after_ok, Only, only_ok, only_err, only_passes, only_after, only_appointed}
use Rattle.bench.proofs.Rebagging.{bag_at_bag_of}
use Rattle.bench.proofs.Steps.{planned}
use Rattle.bench.proofs.Seating.{Seated, place_fits, place_correct, actor_is, appointed_ok, Low, actor_low}
use Rattle.processor.proofs.Sealing.{sealed_from}
use Rattle.bench.proofs.Receiving.{sent, sent_is, sent_tied}

-- refused by no row of 50 or above; and where it is granted, the protocol's opening
abbrev pub Openly : World → Model → ℕ → ℕ → ℕ → Result ℕ Refusal → Model → Type 0
Openly W m p i v a l = Only Low a × ((n : ℕ) → a ≡ Ok n → Sound W l × Opens (plan_of W) p i v (view m) (view l))

-- an opening that the part grants
record Opening (W : World) (r i v : ℕ) (part : Part) : Type 0 where
  listed : Listed (plan_of W) i
  moment : r ≡ (plan_of W).moment i
  sender : part.own ≡ (plan_of W).sender i
  unopened : bag_shown (bag_of part i) ≡ empty
  admits : W.admitted v ≡ true

empty_bag_is : (b : Kept.Bag) → is_empty b ≡ true → bag_shown b ≡ empty
empty_bag_is Empty h = refl
empty_bag_is (One a) h = absurd (cc)
empty_bag_is (Two a b) h = absurd (cc)
empty_bag_is (Closed d) h = absurd (cc)

opening_is : (W : World) (r i v : ℕ) (part : Part) → opening W.admitted W.setup r i v part ≡ Ok tt → Opening W r i v part
opening_is W r i v part h =
    let a = after_ok (appointed W.setup i Item) _ tt h in
    let A = appointed_ok W i Item a.0 a.1 in
    let b = after_ok (passes (eqb r a.0.reading) Moment) _ tt a.2 in
    let c = after_ok (passes (eqb part.own a.0.sender) Sender) _ tt b.2 in
    let d = after_ok (passes (is_empty (bag_of part i)) Opened) _ tt c.2 in
    record {
      listed = A.0;
      moment = eqb-true _ _ (cond_ok _ _ b.0 Moment b.1).0 ∙ ap (λ (x : Appointment). x.reading) A.1;
      sender = eqb-true _ _ (cond_ok _ _ c.0 Sender c.1).0 ∙ ap (λ (x : Appointment). x.sender) A.1;
      unopened = empty_bag_is _ (cond_ok _ _ d.0 Opened d.1).0;
      admits = (cond_ok _ _ tt Value d.2).0;
    }

opening_low : (W : World) (r i v : ℕ) (part : Part) → Only Low (opening W.admitted W.setup r i v part)
opening_low W r i v part =
    only_after Low (appointed W.setup i Item) _ (only_appointed Low W.setup i Item (omega arith)) (λ a.
    only_after Low (passes (eqb r a.reading) Moment) _ (only_passes Low _ Moment (omega arith)) (λ _.
    only_after Low (passes (eqb part.own a.sender) Sender) _ (only_passes Low _ Sender (omega arith)) (λ _.
    only_after Low (passes (is_empty (bag_of part i)) Opened) _ (only_passes Low _ Opened (omega arith)) (λ _. only_passes Low (W.admitted v) Value (omega arith)))))

module _ (W : World) (m : Model) (S : Sound W m) (M : Made (plan_of W) (view m)) (z p i v : ℕ) (value : v < 2 ^ 64) where
  -- an opening that the processor at place q makes
  module _ (q : ℕ) (A : Seated W.setup m.core p q) (O : Opening W (reading_at m.core q) i v (part_at m.core q)) where
    seat : q < W.setup.n
    seat = place_fits W m p q A

    q_small : q < 8
    q_small = let s = seat in let h = W.n_high in omega arith

    correct : (view m).turned (suc q) ≡ false
    correct = place_correct W m p q A

    sends_own : suc q ≡ (plan_of W).sender i
    sends_own = sym (S.own q q_small) ∙ O.sender

    bag_empty : (view m).bag (suc q) i ≡ empty
    bag_empty = ap bag_shown (bag_at_bag_of (part_at m.core q) i O.listed.0) ∙ O.unopened

    high : i ≤ 8
    high = let a = O.listed.1 in let b = W.few in omega arith

    room : Room (plan_of W) (view m) (suc q)
    room = spacious.openings (plan_of W) (view m) M (suc q) i v correct O.listed sends_own O.moment bag_empty O.admits

    few : length {A = Link} [] ≤ 6
    few = omega arith

    abbrev spoken : Model
    spoken = sent W m S q i v [] few seat correct room z (One v)

    spoken_is : keeps q (with_bag (part_at m.core q) i (One v)) (launches W.setup z (owed_for i v (part_at m.core q).own []) m) ≡ (Ok (length m.core.flights + 1), spoken)
    spoken_is =
        ap (λ (x : ℕ). keeps q (with_bag (part_at m.core q) i (One v)) (launches W.setup z (owed_for i v x []) m)) (S.own q q_small)
        ∙ sent_is W m S q i v [] few seat correct room z (One v)

    speaking : SealsFit spoken.scheme → Sound W spoken × Opens (plan_of W) (suc q) i v (view m) (view spoken)
    speaking seals =
        let taken = ap (λ (b : Bag). put b v) (sym bag_empty) in
        let none_sealed = sealed_from m.scheme.triples i v [] (λ k h. absurd (omega arith)) in
        let s = sent_tied W m S q i v [] few seat correct room z (One v) value tt O.listed.0 high taken none_sealed seals in (
          s.sound,
          record {
            correct = correct;
            listed = O.listed;
            is_sender = sends_own;
            moment = O.moment;
            unopened = bag_empty;
            admits = O.admits;
            takes = s.takes;
            sends = s.sends;
            ways = s.ways;
            calm = record { clock = refl; offsets = λ x. refl; turns = λ x. refl; faults = refl };
          },
        )

  pub open_tied : (a : Result ℕ Refusal) (l : Model) → opens W.admitted z p i v m ≡ (a, l) → SealsFit l.scheme → Openly W m p i v a l
  open_tied a l e seals = by_actor (actor W.setup m.core p i) refl (sym (planned W m S m _) ∙ e)
    where
      stops : (r : Refusal) → Low r → ◌≡◌ {A = Result ℕ Refusal × Model} (Err r, m) (a, l) → Openly W m p i v a l
      stops r low h =
          let is : Err r ≡ a = ap (λ x. x.0) h in
          (subst (Only Low) is (only_err Low r low), λ n g. no_ok r n (is ∙ g))

      by_opening : (q : ℕ) → Seated W.setup m.core p q → (o : Result Unit Refusal) → opening W.admitted W.setup (reading_at m.core q) i v (part_at m.core q) ≡ o
          → speaks W.setup z q m (after_on (part_at m.core q) o (λ _. (Ok (owed_for i v (part_at m.core q).own []), with_bag (part_at m.core q) i (One v)))) ≡ (a, l) → Openly W m p i v a l
      by_opening q A (Err r) eo h = stops r (opening_low W (reading_at m.core q) i v (part_at m.core q) r eo) h
      by_opening q A (Ok u) eo h =
          let O = opening_is W (reading_at m.core q) i v (part_at m.core q) eo in
          let h' = sym (spoken_is q A O) ∙ h in
          let e₀ : Ok (length m.core.flights + 1) ≡ a = ap (λ x. x.0) h' in
          let e₁ : spoken q A O ≡ l = ap (λ x. x.1) h' in
          let done = speaking q A O (subst (λ (x : Model). SealsFit x.scheme) (sym e₁) seals) in
          (subst (Only Low) e₀ (only_ok Low _), λ n g. subst₂ (λ (x : ℕ) (y : Model). Sound W y × Opens (plan_of W) x i v (view m) (view y)) (sym A.place) e₁ done)

      by_actor : (o : Result ℕ Refusal) → actor W.setup m.core p i ≡ o
          → or_else o m (λ q. speaks W.setup z q m (opened W.admitted W.setup (reading_at m.core q) i v (part_at m.core q))) ≡ (a, l) → Openly W m p i v a l
      by_actor (Err r) eo h = stops r (actor_low W.setup m.core p i r eo) h
      by_actor (Ok q) eo h = by_opening q (actor_is W.setup m.core p i q eo).0 (opening W.admitted W.setup (reading_at m.core q) i v (part_at m.core q)) refl h
