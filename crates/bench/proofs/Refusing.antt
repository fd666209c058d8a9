-- A refused call leaves everything as it was, but for the way of a dropped delivery.
use Rattle.std.proofs.Common.{◌≡◌, ℕ, ◌+◌, ◌-◌, Bool, true, false, cond, leb, List, replicate, Some, None, Ok, Err, Option, Result, sym, refl, ap, ◌∙◌, arith}
use Rattle.std.proofs.lemmas.Bool.{cond-false}
use Rattle.refusals.specs.Rows.{is_drop}
use Rattle.refusals.specs.declared.refusal.Refusal.{Refusal}
use Rattle.seals.specs.Meanings.{Meaning, answered}
use Rattle.plans.specs.Setups.{Setup}
use Rattle.processor.specs.declared.owed.Owed.{Owed}
use Rattle.processor.specs.declared.part.Decision.{Decision}
use Rattle.processor.specs.declared.part.Part.{Part}
use Rattle.processor.specs.Controllers.{is_processor}
use Rattle.processor.specs.Receiving.{received}
use Rattle.processor.specs.Opening.{opened}
use Rattle.processor.specs.Deciding.{decided}
use Rattle.processor.specs.Relaying.{own_text, or_owed, sealed}
use Rattle.bench.specs.Model.{Core, Model}
use Rattle.bench.specs.Calls.{after, lifted, has_turned, seat, turns, sets, advances, overdue, unless_due}
use Rattle.bench.specs.Flights.{on_core, part_at, reading_at, becomes, launches, keeps, accepts, receives, marks, lands}
use Rattle.bench.specs.Seals.{seals, signs}
use Rattle.bench.specs.Sending.{actor, speaks, opens, route, injects, flight_at, delivers, records, decides}
use Rattle.bench.specs.Runs.{Call, open_call, set_call, turn_call, advance_call, seal_call, inject_call, deliver_call, decide_call, settle_call, Leaves, Does}
use Rattle.bench.specs.Promise.{left_by, Unaltered}
use Rattle.processor.proofs.Outcomes.{no_err, err_same}
use Rattle.bench.proofs.Steps.{refused_is}
use Rattle.bench.proofs.Seating.{seat_is, flight_is, seat_only, flight_only}
use Rattle.seals.proofs.Signing.{Signs, refused, again, anew, signs as signing}

-- a refusal leaves what is given
pub record Left {R M : Type 0} (given : Refusal → M) (x : Result R Refusal × M) : Type 0 where
  pub leaves : (r : Refusal) → x.0 ≡ Err r → x.1 ≡ given r

-- a refusal leaves m
abbrev pub Stays : {R M : Type 0} → M → Result R Refusal × M → Type 0
Stays m x = Left (λ r. m) x

granted : {R M : Type 0} {given : Refusal → M} {y : R} {l : M} → Left given (Ok y, l)
granted {y = y} = record { leaves = λ r e. no_err y r e }

refuses : {R M : Type 0} {r : Refusal} {m : M} → Stays {R = R} m (Err r, m)
refuses = record { leaves = λ r e. refl }

by_test : {R M : Type 0} {given : Refusal → M} (b : Bool) {x y : Result R Refusal × M} → Left given x → Left given y → Left given (cond b x y)
by_test true h k = h
by_test false h k = k

then : {X R M : Type 0} {given : Refusal → M} (a : Result X Refusal) {m : M} {next : X → Result R Refusal × M} → ((r : Refusal) → a ≡ Err r → m ≡ given r)
    → ((x : X) → a ≡ Ok x → Left given (next x)) → Left given (after a m next)
then (Ok x) h k = k x refl
then (Err t) h k = record { leaves = λ r e. h r (ap Err (err_same t r e)) }

goes_on : {X R M : Type 0} (a : Result X Refusal) {m : M} {next : X → Result R Refusal × M} → ((x : X) → Stays m (next x)) → Stays m (after a m next)
goes_on a k = then a (λ r e. refl) (λ x e. k x)

lifted_stays : {R : Type 0} (call : Core → Result R Refusal × Core) (m : Model) → Stays m.core (call m.core) → Stays m (lifted call m)
lifted_stays call m h = record { leaves = λ r e. ap (on_core m) (h.leaves r e) }

turns_stays : (p : ℕ) (c : Core) → Stays c (turns p c)
turns_stays p c = goes_on c.plan (λ s. goes_on (seat s c p) (λ q. by_test _ refuses granted))

sets_stays : (p o : ℕ) (c : Core) → Stays c (sets p o c)
sets_stays p o c = goes_on c.plan (λ s. goes_on (seat s c p) (λ q. by_test _ refuses granted))

advances_stays : (k : ℕ) (c : Core) → Stays c (advances k c)
advances_stays k c = goes_on c.plan (λ s. by_test _ refuses (due (overdue s c (c.time + k)) (c.time + k)))
  where
    due : (o : Option ℕ) (t : ℕ) → Stays c (unless_due o c t)
    due (Some i) t = refuses
    due None t = granted

pub decides_stays : (p i : ℕ) (c : Core) → Stays c (decides p i c)
decides_stays p i c = goes_on c.plan (λ s. goes_on (actor s c p i) (λ q. kept q (decided s (reading_at c q) i (part_at c q))))
  where
    kept : (q : ℕ) (x : Result Decision Refusal × Part) → Stays c (records q c x)
    kept q (Ok d, part) = granted
    kept q (Err t, part) = refuses

seals_stays : (z p : ℕ) (text : List ℕ) (m : Model) → Stays m (seals z p text m)
seals_stays z p text m =
    goes_on m.core.plan (λ s.
    by_test (is_processor s p) (by_test (has_turned m.core p) (signed_stays (signing m.scheme p text z)) (refuses {r = Refusal.Sound})) (refuses {r = Refusal.Processor}))
  where
    signed_stays : Signs m.scheme p text z → Stays m (signs z p text m)
    signed_stays (refused t a e) = record { leaves = λ r h. ap (λ (x : Meaning). record { core = m.core; scheme = x }) e }
    signed_stays (again s a o e) = record { leaves = λ r h. no_err s r (sym a ∙ h) }
    signed_stays (anew a k l e) = record { leaves = λ r h. no_err z r (sym a ∙ h) }

-- a broadcast that finds no place, or that the scheme refuses to seal
launches_stays : (s : Setup) (z : ℕ) (o : Owed) (m : Model) → Stays m (launches s z o m)
launches_stays s z o m = by_test _ (written (leb o.count 6) (answered m.scheme o.own (own_text o) z)) refuses
  where
    out : List ℕ
    out = replicate 45 0

    sends : (a : Result ℕ Refusal) → Stays m (becomes s o m (or_owed o (sealed o z m.scheme out a)))
    sends (Ok seal) = granted
    sends (Err t) = refuses

    written : (b : Bool) (a : Result ℕ Refusal) → Stays m (becomes s o m (or_owed o (cond b (sealed o z m.scheme out a) (Err Refusal.Frame, m.scheme, out))))
    written true a = sends a
    written false a = refuses

keeps_stays : (q : ℕ) (part : Part) (m : Model) (x : Result ℕ Refusal × Model) → Stays m x → Stays m (keeps q part x)
keeps_stays q part m (Ok n, l) h = granted
keeps_stays q part m (Err t, l) h = record { leaves = λ r e. h.leaves t refl }

opens_stays : (admitted : ℕ → Bool) (z p i v : ℕ) (m : Model) → Stays m (opens admitted z p i v m)
opens_stays admitted z p i v m = goes_on m.core.plan (λ s. goes_on (actor s m.core p i) (λ q. spoken s q (opened admitted s (reading_at m.core q) i v (part_at m.core q))))
  where
    spoken : (s : Setup) (q : ℕ) (x : Result Owed Refusal × Part) → Stays m (speaks s z q m x)
    spoken s q (Ok o, part) = keeps_stays q part m (launches s z o m) (launches_stays s z o m)
    spoken s q (Err t, part) = refuses

module _ (admitted : ℕ → Bool) (same : ℕ → ℕ → Bool) where
  receives_stays : (s : Setup) (z q : ℕ) (bytes : List ℕ) (m : Model) → Stays m (receives admitted same s z q bytes m)
  unfolding receives
  receives_stays s z q bytes m = accepted (received admitted same s m.scheme.triples (reading_at m.core q) bytes (part_at m.core q))
    where
      accepted : (x : Result (Option Owed) Refusal × Part) → Stays m (accepts s z q m x)
      accepted (Ok (Some o), part) = keeps_stays q part m (launches s z o m) (launches_stays s z o m)
      accepted (Ok None, part) = granted
      accepted (Err t, part) = refuses

  injects_stays : (z from to : ℕ) (bytes : List ℕ) (m : Model) → Stays m (injects admitted same z from to bytes m)
  injects_stays z from to bytes m = goes_on m.core.plan (λ s. goes_on (route s m.core from to) (λ q. receives_stays s z q bytes m))

  -- before the flight arrives a delivery is refused by no row of a drop
  module _ (z k p : ℕ) (m : Model) where
    abbrev way_left : Refusal → Model
    way_left r = left_by (deliver_call k p) r m

    abbrev Kept : Refusal → Type 0
    Kept r = is_drop r ≡ false

    not_dropped : (r : Refusal) → is_drop r ≡ false → m ≡ way_left r
    not_dropped r h = sym (cond-false (is_drop r) _ m h)

    seat_row : (s : Setup) (r : Refusal) → seat s m.core p ≡ Err r → m ≡ way_left r
    seat_row s r e = not_dropped r (seat_only Kept refl refl s m.core p r e)

    flight_row : (q : ℕ) (r : Refusal) → flight_at m.core k q ≡ Err r → m ≡ way_left r
    flight_row q r e = not_dropped r (flight_only Kept refl m.core k q r e)

    landed : (x : Result ℕ Refusal × Model) → Stays m x → (q i : ℕ) → p - 1 ≡ q → k - 1 ≡ i → Left way_left (lands i q x)
    landed (Ok n, l) h q i eq ei = granted
    landed (Err t, l) h q i eq ei = record {
      leaves = λ r e.
          ap (λ (y : Model). cond (is_drop t) (on_core y (marks y.core i q)) y) (h.leaves t refl)
          ∙ (λ j. cond (is_drop (err_same t r e j)) (on_core m (marks m.core (sym ei j) (sym eq j))) m);
    }

    delivers_left : (s : Setup) → m.core.plan ≡ Ok s → Left way_left (delivers admitted same z k p m)
    delivers_left s plan =
        then m.core.plan (λ r e. no_err s r (sym plan ∙ e)) (λ t _.
        then (seat t m.core p) (seat_row t) (λ q eq.
        then (flight_at m.core k q) (flight_row q) (λ i ei.
        landed _ (receives_stays t z q _ m) q i (let at = (seat_is t m.core p q eq).place in omega arith) (flight_is m.core k q i ei).0)))

left_by_call : {R : Type 0} (given : Refusal → Model) (x : Result R Refusal × Model) (r : Refusal) (l : Model) → Left given x → Leaves x (Some r) l → l ≡ given r
left_by_call given x r l h e = e.1 ∙ h.leaves r (refused_is x r l e)

pub unaltered : (admitted : ℕ → Bool) (same : ℕ → ℕ → Bool) → Unaltered admitted same
unaltered admitted same s k l c r plan step = does c step.does
  where
    does : (c : Call) → Does admitted same c k (Some r) l → l ≡ left_by c r k
    does (open_call p i v) (z, e) = left_by_call (λ _. k) _ r l (opens_stays admitted z p i v k) e
    does (set_call p o) e = left_by_call (λ _. k) _ r l (lifted_stays (sets p o) k (sets_stays p o k.core)) e
    does (turn_call p) e = left_by_call (λ _. k) _ r l (lifted_stays (turns p) k (turns_stays p k.core)) e
    does (advance_call t) e = left_by_call (λ _. k) _ r l (lifted_stays (advances t) k (advances_stays t k.core)) e
    does (seal_call p text) (z, e) = left_by_call (λ _. k) _ r l (seals_stays z p text k) e
    does (inject_call from to bytes) (z, e) = left_by_call (λ _. k) _ r l (injects_stays admitted same z from to bytes k) e
    does (deliver_call flight p) (z, e) = left_by_call _ _ r l (delivers_left admitted same z flight p k s plan) e
    does (decide_call p i) e = left_by_call (λ _. k) _ r l (lifted_stays (decides p i) k (decides_stays p i k.core)) e
    does settle_call (Ok n, st, e) = absurd (cc)
    does settle_call (Err t, st, e) = st.1
