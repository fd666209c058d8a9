-- Who may act, and on what: processors that have not turned, items of the agenda, flights on their way.
use Rattle.std.proofs.Common.{◌≡◌, ℕ, suc, ◌-◌, ◌<◌, ◌≤◌, true, false, ◌&&◌, leb, length, get_or, Ok, Err, sym, ap, ◌∙◌, arith}
use Rattle.std.proofs.lemmas.List.{get_or_default}
use Rattle.std.proofs.lemmas.Bool.{and_parts, and_from, leb-true, le-leb, cond-true}
use Rattle.refusals.specs.Rows.{row_of}
use Rattle.refusals.specs.declared.refusal.Refusal.{Refusal}
use Rattle.refusals.specs.declared.refusal.Refusal.TheVariants.{Processor, Item, Faulty, Sound, Flight}
use Rattle.plans.specs.declared.plan.Appointment.{Appointment}
use Rattle.plans.specs.Setups.{Setup}
use Rattle.processor.specs.Agendas.{is_item, no_appointment, appointed}
use Rattle.processor.specs.Controllers.{is_processor}
use Rattle.bench.specs.Model.{Core, Model}
use Rattle.bench.specs.Calls.{has_turned, seat}
use Rattle.bench.specs.Sending.{actor, route, is_on_way, flight_at}
use Rattle.protocol.specs.Model.{Listed}
use Rattle.processor.proofs.Outcomes.{ok_same, cond_ok, cond_err, Only, only_ok, only_err, only_cond}
use Rattle.bench.proofs.Worlds.{World, someone, appointment_of, plan_of, entry_of}
use Rattle.bench.proofs.View.{view}
use Rattle.bench.proofs.Rebagging.{entry_at}

-- the number of a processor, of an item or of a flight
pub between : (n i : ℕ) → (leb 1 i && leb i n) ≡ true → (1 ≤ i) × (i ≤ n)
between n i h = let k = and_parts (leb 1 i) (leb i n) h in (leb-true _ _ k.0, leb-true _ _ k.1)

pub within : (n i : ℕ) → 1 ≤ i → i ≤ n → (leb 1 i && leb i n) ≡ true
within n i low high = and_from _ _ (le-leb 1 i low) (le-leb i n high)

-- p is a processor that has not turned, at place q
pub record Seated (s : Setup) (c : Core) (p q : ℕ) : Type 0 where
  pub low : 1 ≤ p
  pub high : p ≤ s.n
  pub correct : entry_of false c.turned p ≡ false
  pub place : p ≡ suc q

seated : (s : Setup) (c : Core) (p q : ℕ) → is_processor s p ≡ true → has_turned c p ≡ false → p - 1 ≡ q → Seated s c p q
seated s c p q h k e =
    let r = between s.n p h in
    let low = r.0 in
    record { low = low; high = r.1; correct = entry_at false c.turned p low ∙ k; place = omega arith }

-- the place of who is seated
module _ (W : World) (m : Model) (p q : ℕ) (s : Seated W.setup m.core p q) where
  pub place_fits : q < W.setup.n
  place_fits = let high = s.high in let e = s.place in omega arith

  pub place_correct : (view m).turned (suc q) ≡ false
  place_correct = ap (view m).turned (sym s.place) ∙ s.correct

pub seat_is : (s : Setup) (c : Core) (p q : ℕ) → seat s c p ≡ Ok q → Seated s c p q
seat_is s c p q e =
    let a = cond_ok (is_processor s p) _ q Processor e in
    let b = cond_err (has_turned c p) Faulty _ q a.1 in
    seated s c p q a.0 b.0 (ok_same _ _ b.1)

pub actor_is : (s : Setup) (c : Core) (p i q : ℕ) → actor s c p i ≡ Ok q → Seated s c p q × (is_item s i ≡ true)
actor_is s c p i q e =
    let a = cond_ok (is_processor s p) _ q Processor e in
    let b = cond_ok (is_item s i) _ q Item a.1 in
    let t = cond_err (has_turned c p) Faulty _ q b.1 in
    (seated s c p q a.0 t.0 (ok_same _ _ t.1), b.0)

pub route_is : (s : Setup) (c : Core) (from to q : ℕ) → route s c from to ≡ Ok q → Seated s c to q
route_is s c from to q e =
    let a = cond_ok (is_processor s from && is_processor s to) _ q Processor e in
    let b = cond_err (has_turned c to) Faulty _ q a.1 in
    let t = cond_ok (has_turned c from) _ q Sound b.1 in
    seated s c to q (and_parts (is_processor s from) (is_processor s to) a.0).1 b.0 (ok_same _ _ t.1)

pub flight_is : (c : Core) (k q i : ℕ) → flight_at c k q ≡ Ok i → (k - 1 ≡ i) × (i < length c.flights)
flight_is c k q i e =
    let a = cond_ok (is_on_way c k q) _ i Flight e in
    let r = between (length c.flights) k (and_parts _ _ a.0).0 in
    let low = r.0 in
    let high = r.1 in
    let is = ok_same _ _ a.1 in
    (is, omega arith)

-- the rows that refuse them
module _ (Q : Refusal → Type 0) where
  pub seat_only : Q Processor → Q Faulty → (s : Setup) (c : Core) (p : ℕ) → Only Q (seat s c p)
  seat_only row10 row12 s c p =
      only_cond Q (is_processor s p) _ (Err Processor)
      (only_cond Q (has_turned c p) (Err Faulty) (Ok (p - 1)) (only_err Q Faulty row12) (only_ok Q (p - 1)))
      (only_err Q Processor row10)

  pub flight_only : Q Flight → (c : Core) (k q : ℕ) → Only Q (flight_at c k q)
  flight_only row23 c k q = only_cond Q (is_on_way c k q) (Ok (k - 1)) (Err Flight) (only_ok Q (k - 1)) (only_err Q Flight row23)

-- rows 50 to 52 are those of the scheme, and of the bench where it has no place left
abbrev pub Low : Refusal → Type 0
Low e = row_of e < 50

pub seat_low : (s : Setup) (c : Core) (p : ℕ) → Only Low (seat s c p)
seat_low = seat_only Low (omega arith) (omega arith)

pub flight_low : (c : Core) (k q : ℕ) → Only Low (flight_at c k q)
flight_low = flight_only Low (omega arith)

pub actor_low : (s : Setup) (c : Core) (p i : ℕ) → Only Low (actor s c p i)
actor_low s c p i =
    only_cond Low (is_processor s p) _ (Err Processor)
    (only_cond Low (is_item s i) _ (Err Item) (only_cond Low (has_turned c p) (Err Faulty) (Ok (p - 1)) (only_err Low Faulty (omega arith)) (only_ok Low (p - 1))) (only_err Low Item (omega arith)))
    (only_err Low Processor (omega arith))

pub route_low : (s : Setup) (c : Core) (from to : ℕ) → Only Low (route s c from to)
route_low s c from to =
    only_cond Low (is_processor s from && is_processor s to) _ (Err Processor)
    (only_cond Low (has_turned c to) (Err Faulty) _ (only_err Low Faulty (omega arith))
    (only_cond Low (has_turned c from) (Ok (to - 1)) (Err Sound) (only_ok Low (to - 1)) (only_err Low Sound (omega arith))))
    (only_err Low Processor (omega arith))

-- an item's appointment, whatever stands for what is no item
pub appointment_at : (W : World) (i : ℕ) → Listed (plan_of W) i → get_or W.setup.agenda (i - 1) no_appointment ≡ appointment_of W i
appointment_at W i h = let low = h.0 in let high = h.1 in get_or_default W.setup.agenda (i - 1) no_appointment someone (omega arith)

pub appointed_ok : (W : World) (i : ℕ) (row : Refusal) (a : Appointment) → appointed W.setup i row ≡ Ok a → Listed (plan_of W) i × (a ≡ appointment_of W i)
appointed_ok W i row a e =
    let k = cond_ok (is_item W.setup i) _ a row e in
    let listed = between (length W.setup.agenda) i k.0 in
    (listed, sym (ok_same _ _ k.1) ∙ appointment_at W i listed)

pub appointed_from : (W : World) (i : ℕ) (row : Refusal) → Listed (plan_of W) i → appointed W.setup i row ≡ Ok (appointment_of W i)
appointed_from W i row h = cond-true _ _ _ (within (length W.setup.agenda) i h.0 h.1) ∙ ap Ok (appointment_at W i h)
