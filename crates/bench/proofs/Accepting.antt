-- What a processor accepts is what the protocol calls acceptable.
use Rattle.std.proofs.Common.{◌≡◌, ℕ, zero, suc, ◌+◌, ◌-◌, ◌*◌, ◌^◌, ◌<◌, ◌≤◌, Bool, true, false, not, ◌&&◌, ◌||◌, eqb, ltb, leb, List, [], ◌∷◌, ◌++◌, reverse, length, get_or, take, Ok, Err, Option, sym, refl, ap, ◌∙◌, subst, ⊎_elim, add-one, arith}
use mathlib.Core.List.{reverse-cons}
use Rattle.std.proofs.lemmas.List.{get_or-map, length-map, length-reverse, reverse-append, reverse-reverse, take_all, take-map, take_more}
use Rattle.std.proofs.lemmas.Bool.{and_from, and_parts, cases_eq, cond-false, eqb-false, eqb-true, eq-eqb, false≢true, leb-false, leb-true, le-leb, le-ltb, lt-leb, lt-ltb, ltb-false, ne_eqb, not-false, not_from_false, not_from_true, not-true, or_from, or_parts}
use Rattle.refusals.specs.declared.refusal.Refusal.{Refusal}
use Rattle.refusals.specs.declared.refusal.Refusal.TheVariants.{Code, Early, First, Full, Late, Long, Own, Row, Same, Closed as IsClosed, Link as BadLink}
use Rattle.seals.specs.Meanings.{Triple}
use Rattle.frames.specs.declared.link.Link.{Link}
use Rattle.frames.specs.Bytes.{Fields}
use Rattle.frames.specs.Texts.{link_at, no_link, numbers_of, text_of}
use Rattle.plans.specs.declared.plan.Appointment.{Appointment}
use Rattle.plans.specs.Setups.{Setup}
use Rattle.processor.specs.declared.owed.Owed.{Owed}
use Rattle.processor.specs.declared.part.Bag as Kept
use Rattle.processor.specs.declared.part.Bag.TheVariants.{Empty, One, Two, Closed}
use Rattle.processor.specs.declared.part.Part.{Part}
use Rattle.processor.specs.Parts.{bag_of}
use Rattle.processor.specs.Bags.{joined, with_bag}
use Rattle.processor.specs.Chains.{chained, is_repeat, is_wrong, linked, not_own, numbered, sealed}
use Rattle.processor.specs.Receiving.{arrived, begun, brief, coded, headed, is_of, known, owes, tested, timely}
use Rattle.protocol.specs.Model.{Plan, State, Acceptable, Began, Chain, Distinct, Listed, NotIn, Seat, Seats, fresh, put, reading}
use Rattle.processor.proofs.Outcomes.{no_ok, ok_same, cond_ok, cond_err, after_ok, after_on_ok}
use Rattle.refusals.proofs.Firsts.{none_from}
use Rattle.bench.proofs.Rebagging.{bag_at_bag_of}
use Rattle.bench.proofs.Seating.{appointed_ok, appointed_from}
use Rattle.processor.proofs.Sealing.{nowhere, unless_at_ok, unless_at_from, link_within, sealed_at}
use Rattle.seals.proofs.Signing.{holds_has}
use Rattle.bench.proofs.Worlds.{World, appointment_of, bag_at, bag_shown, has_sealed, newest_first, plan_of}

-- the numbers up to one place more, newest first
newest_more : (ps : List ℕ) (k : ℕ) → k < length ps → reverse (take (suc k) ps) ≡ get_or ps k 0 ∷ reverse (take k ps)
newest_more ps k l = ap reverse (ap (λ n. take n ps) (sym (add-one k)) ∙ take_more ps k 0 l) ∙ reverse-append (take k ps) (get_or ps k 0 ∷ [])

-- D says R of each number and of those older than it, newest first
record Told (D : List ℕ → Type 0) (R : ℕ → List ℕ → Type 0) : Type 0 where
  none : D []
  more : (a : ℕ) (l : List ℕ) → R a l × D l → D (a ∷ l)
  parts : (a : ℕ) (l : List ℕ) → D (a ∷ l) → R a l × D l

told_not_in : (q : ℕ) → Told (NotIn q) (λ a l. ¬ (q ≡ a))
told_not_in q = record { none = tt; more = λ a l h. h; parts = λ a l h. h }

told_distinct : Told Distinct NotIn
told_distinct = record { none = tt; more = λ a l h. h; parts = λ a l h. h }

told_seats : (P : Plan) → Told (Seats P) (λ a l. Seat P a)
told_seats P = record { none = tt; more = λ a l h. h; parts = λ a l h. h }

told_chain : (x : State) (i v : ℕ) → Told (Chain x i v) (λ a l. x.sealed a i v l ≡ true)
told_chain x i v = record { none = tt; more = λ a l h. h; parts = λ a l h. h }

-- the same by places, which count from the oldest
module _ {D : List ℕ → Type 0} {R : ℕ → List ℕ → Type 0} (told : Told D R) (ps : List ℕ) where
  from_places : (k : ℕ) → k ≤ length ps → ((j : ℕ) → j < k → R (get_or ps j 0) (reverse (take j ps))) → D (reverse (take k ps))
  from_places zero h at = told.none
  from_places (suc k) h at =
      let rest = from_places k (omega arith) (λ j l. at j (omega arith)) in
      subst D (sym (newest_more ps k h)) (told.more _ _ (at k (omega arith), rest))

  to_places : (k : ℕ) → k ≤ length ps → D (reverse (take k ps)) → (j : ℕ) → j < k → R (get_or ps j 0) (reverse (take j ps))
  to_places zero h d j l = absurd (omega arith)
  to_places (suc k) h d j l =
      let q = told.parts _ _ (subst D (newest_more ps k h) d) in
      ⊎_elim (λ e. subst (λ i. R (get_or ps i 0) (reverse (take i ps))) (sym e) q.0) (λ n. to_places k (omega arith) q.1 j (omega arith)) (cases_eq j k)

  from_all_places : ((j : ℕ) → j < length ps → R (get_or ps j 0) (reverse (take j ps))) → D (reverse ps)
  from_all_places at = subst (λ l. D (reverse l)) (take_all (length ps) ps (omega arith)) (from_places (length ps) (omega arith) at)

  to_all_places : D (reverse ps) → (j : ℕ) → j < length ps → R (get_or ps j 0) (reverse (take j ps))
  to_all_places d = to_places (length ps) (omega arith) (subst (λ l. D (reverse l)) (sym (take_all (length ps) ps (omega arith))) d)

-- row 36
not_own_ok : (own : ℕ) (ps : List ℕ) → not_own own ps ≡ Ok tt → NotIn own (reverse ps)
not_own_ok own ps h =
    let others = unless_at_ok Own (λ k. eqb (get_or ps k 0) own) (length ps) h in
    from_all_places (told_not_in own) ps (λ k l e. eqb-false (get_or ps k 0) own (others k l) (sym e))

not_own_from : (own : ℕ) (ps : List ℕ) → NotIn own (reverse ps) → not_own own ps ≡ Ok tt
not_own_from own ps h =
    let others = to_all_places (told_not_in own) ps h in
    unless_at_from Own (λ k. eqb (get_or ps k 0) own) (length ps) (λ k l. ne_eqb (get_or ps k 0) own (λ e. others k l (sym e)))

-- row 35
numbered_ok : (P : Plan) (ps : List ℕ) → numbered P.n ps ≡ Ok tt → Seats P (reverse ps) × Distinct (reverse ps)
numbered_ok P ps h = (from_all_places (told_seats P) ps seat, from_all_places told_distinct ps apart)
  where
    right : (k : ℕ) → k < length ps → (not (leb 1 (get_or ps k 0) && leb (get_or ps k 0) P.n) ≡ false) × (is_repeat ps k ≡ false)
    right k l = or_parts (not (leb 1 (get_or ps k 0) && leb (get_or ps k 0) P.n)) (is_repeat ps k) (unless_at_ok BadLink (is_wrong P.n ps) (length ps) h k l)

    seat : (k : ℕ) → k < length ps → Seat P (get_or ps k 0)
    seat k l = let q = and_parts _ _ (not-false _ (right k l).0) in (leb-true _ _ q.0, leb-true _ _ q.1)

    apart : (k : ℕ) → k < length ps → NotIn (get_or ps k 0) (reverse (take k ps))
    apart k l =
        from_places (told_not_in (get_or ps k 0)) ps k (omega arith) (λ j m e. eqb-false (get_or ps j 0) (get_or ps k 0) (nowhere (λ i. eqb (get_or ps i 0) (get_or ps k 0)) k j (right k l).1 m) (sym e))

numbered_from : (P : Plan) (ps : List ℕ) → Seats P (reverse ps) → Distinct (reverse ps) → numbered P.n ps ≡ Ok tt
numbered_from P ps s d = unless_at_from BadLink (is_wrong P.n ps) (length ps) (λ k l. or_from _ _ (seat k l) (apart k l))
  where
    seat : (k : ℕ) → k < length ps → not (leb 1 (get_or ps k 0) && leb (get_or ps k 0) P.n) ≡ false
    seat k l =
        let q = to_all_places (told_seats P) ps s k l in
        not_from_true _ (and_from _ _ (le-leb 1 (get_or ps k 0) q.0) (le-leb (get_or ps k 0) P.n q.1))

    apart : (k : ℕ) → k < length ps → is_repeat ps k ≡ false
    apart k l =
        let q = to_all_places told_distinct ps d k l in
        let others = to_places (told_not_in (get_or ps k 0)) ps k (omega arith) q in
        rw (none_from (λ j. eqb (get_or ps j 0) (get_or ps k 0)) k (λ j m. ne_eqb (get_or ps j 0) (get_or ps k 0) (λ e. others j m (sym e)))) refl

length_numbers : (f : Fields) → length (numbers_of f.links) ≡ length f.links
length_numbers f = length-map f.links (λ (l : Link). l.processor)

length_newest : (f : Fields) → length (newest_first f) ≡ length f.links
length_newest f = length-reverse (numbers_of f.links) ∙ length_numbers f

number_at : (f : Fields) (k : ℕ) → k < length f.links → get_or (numbers_of f.links) k 0 ≡ (get_or f.links k no_link).processor
number_at f k l = get_or-map (λ (l : Link). l.processor) f.links k no_link 0 l

-- row 34
began_end : (s a : ℕ) (l : List ℕ) → Began s (l ++ a ∷ []) ≡ (a ≡ s)
began_end s a [] = refl
began_end s a (b ∷ []) = refl
began_end s a (b ∷ (c ∷ l)) = began_end s a (c ∷ l)

begun_ok : (s i v : ℕ) (ls : List Link) → is_of s (link_at (record { item = i; value = v; links = ls }) 1) ≡ true → Began s (reverse (numbers_of ls))
begun_ok s i v [] h = absurd (false≢true h)
begun_ok s i v (l ∷ ls) h =
    let here = link_within (record { item = i; value = v; links = l ∷ ls }) 0 (omega arith) in
    let same = eqb-true l.processor s (sym (ap (is_of s) here) ∙ h) in
    subst (Began s) (sym (reverse-cons l.processor (numbers_of ls))) (subst (λ T. T) (sym (began_end s l.processor (reverse (numbers_of ls)))) same)

begun_from : (s i v : ℕ) (ls : List Link) → Began s (reverse (numbers_of ls)) → is_of s (link_at (record { item = i; value = v; links = ls }) 1) ≡ true
begun_from s i v [] h = absurd h
begun_from s i v (l ∷ ls) h =
    let here = link_within (record { item = i; value = v; links = l ∷ ls }) 0 (omega arith) in
    let same = subst (λ T. T) (began_end s l.processor (reverse (numbers_of ls))) (subst (Began s) (reverse-cons l.processor (numbers_of ls)) h) in
    ap (is_of s) here ∙ eq-eqb l.processor s same

-- the numbers that the text of link k + 1 tells
text_numbers : (f : Fields) (k : ℕ) → k < length f.links → numbers_of (take (k + 1) f.links) ≡ reverse (get_or (numbers_of f.links) k 0 ∷ reverse (take k (numbers_of f.links)))
text_numbers f k l =
    let ps = numbers_of f.links in
    let size = length_numbers f in
    sym (take-map (λ (l : Link). l.processor) (k + 1) f.links) ∙ ap (λ n. take n ps) (add-one k) ∙ sym (reverse-reverse (take (suc k) ps)) ∙ ap reverse (newest_more ps k (omega arith))

sealed_chain : (x : State) (ts : List Triple) (f : Fields) → ((a i v : ℕ) (l : List ℕ) → x.sealed a i v l ≡ has_sealed ts a i v l) → f.value < 2 ^ 64
    → sealed ts f ≡ Ok tt → Chain x f.item f.value (newest_first f)
sealed_chain x ts f seals small h = from_all_places (told_chain x f.item f.value) ps at
  where
    ps : List ℕ
    ps = numbers_of f.links

    at : (k : ℕ) → k < length ps → x.sealed (get_or ps k 0) f.item f.value (reverse (take k ps)) ≡ true
    at k l =
        let size = length_numbers f in
        let in' : k < length f.links = omega arith in
        let some = holds_has ts _ (text_of f (k + 1)) _ (sealed_at ts f.item f.value f.links k h in') in
        let text = rw (← number_at f k in', text_numbers f k in') at some in
        seals (get_or ps k 0) f.item f.value (reverse (take k ps)) ∙ and_from _ _ (lt-ltb f.value (2 ^ 64) small) text

-- rows 38 and 39
timely_ok : (s : Setup) (a : Appointment) (r : ℕ) (f : Fields) → timely s a r f ≡ Ok tt → (a.reading ≤ r + length (newest_first f) * s.e) × (r < a.reading + length (newest_first f) * (s.d + s.e))
timely_ok s a r f h =
    let k = length f.links in
    let early = cond_err (ltb r (a.reading - k * s.e)) Early _ tt h in
    let late = cond_err (leb (a.reading + k * (s.d + s.e)) r) Late _ tt early.1 in
    let from = ltb-false r (a.reading - k * s.e) early.0 in
    rw (length_newest f) (omega arith, leb-false (a.reading + k * (s.d + s.e)) r late.0)

timely_from : (s : Setup) (a : Appointment) (r : ℕ) (f : Fields) → a.reading ≤ r + length (newest_first f) * s.e → r < a.reading + length (newest_first f) * (s.d + s.e) → timely s a r f ≡ Ok tt
timely_from s a r f early late =
    let k = length f.links in
    let from = rw (length_newest f) at early in
    let to = rw (length_newest f) at late in
    rw (le-ltb r (a.reading - k * s.e) (omega arith), lt-leb (a.reading + k * (s.d + s.e)) r to) refl

-- rows 40 to 42
pub joined_put : (same : ℕ → ℕ → Bool) (b : Kept.Bag) (v : ℕ) (b' : Kept.Bag) → joined same b v ≡ Ok b' → bag_shown b' ≡ put (bag_shown b) v
joined_put same Empty v b' h = sym (ap bag_shown (ok_same (One v) b' h))
joined_put same (One a) v b' h = sym (ap bag_shown (ok_same (Two a v) b' (cond_err (same a v) Same (Ok (Two a v)) b' h).1))
joined_put same (Two a b) v b' h = no_ok Full b' (cond_err (same a v || same b v) Same (Err Full) b' h).1
joined_put same (Closed d) v b' h = no_ok IsClosed b' h

joined_fresh : (W : World) (b : Kept.Bag) (v : ℕ) (b' : Kept.Bag) → joined W.same b v ≡ Ok b' → fresh (plan_of W) (bag_shown b) v ≡ true
joined_fresh W Empty v b' h = refl
joined_fresh W (One a) v b' h = not_from_false (W.same a v) (cond_err (W.same a v) Same (Ok (Two a v)) b' h).0
joined_fresh W (Two a b) v b' h = no_ok Full b' (cond_err (W.same a v || W.same b v) Same (Err Full) b' h).1
joined_fresh W (Closed d) v b' h = no_ok IsClosed b' h

fresh_joined : (W : World) (b : Kept.Bag) (v : ℕ) → fresh (plan_of W) (bag_shown b) v ≡ true → (b' : Kept.Bag) × (joined W.same b v ≡ Ok b')
fresh_joined W Empty v h = (One v, refl)
fresh_joined W (One a) v h = (Two a v, cond-false (W.same a v) _ _ (not-true (W.same a v) h))
fresh_joined W (Two a b) v h = absurd (false≢true h)
fresh_joined W (Closed d) v h = absurd (false≢true h)

-- what rows 31 to 39 test
record Tests (W : World) (ts : List Triple) (own r : ℕ) (f : Fields) : Type 0 where
  item : Listed (plan_of W) f.item
  value : W.admitted f.value ≡ true
  count : leb (length f.links) (W.setup.f + 1) ≡ true
  sender : is_of (appointment_of W f.item).sender (link_at f 1) ≡ true
  numbers : numbered W.setup.n (numbers_of f.links) ≡ Ok tt
  others : not_own own (numbers_of f.links) ≡ Ok tt
  genuine : sealed ts f ≡ Ok tt
  time : timely W.setup (appointment_of W f.item) r f ≡ Ok tt

module _ (W : World) (ts : List Triple) (own r : ℕ) (f : Fields) where
  tested_ok : tested W.admitted W.setup ts own r f ≡ Ok tt → Tests W ts own r f
  tested_ok h =
      let s = W.setup in
      let heads = after_ok (headed W.admitted s f) _ tt h in
      let chains = after_ok (chained s.n ts own f) _ tt heads.2 in
      let links = after_ok (linked s.n own (numbers_of f.links)) _ tt chains.1 in
      let row31 = after_ok (known s f) _ heads.0 heads.1 in
      let row32 = after_ok (coded W.admitted f) _ heads.0 row31.2 in
      let row33 = after_ok (brief s f) _ heads.0 row32.2 in
      let row34 = after_ok (begun row31.0 f) _ heads.0 row33.2 in
      let row35 = after_ok (numbered s.n (numbers_of f.links)) _ tt links.1 in
      let agenda = appointed_ok W f.item Row row31.0 row31.1 in
      record {
        item = agenda.0;
        value = (cond_ok (W.admitted f.value) (Ok tt) tt Code row32.1).0;
        count = (cond_ok (leb (length f.links) (s.f + 1)) (Ok tt) tt Long row33.1).0;
        sender = subst (λ a. is_of a.sender (link_at f 1) ≡ true) agenda.1 (cond_ok (is_of row31.0.sender (link_at f 1)) (Ok tt) tt First row34.1).0;
        numbers = row35.1;
        others = row35.2;
        genuine = links.2;
        time = subst (λ a. timely s a r f ≡ Ok tt) (sym (ok_same _ _ row34.2) ∙ agenda.1) chains.2;
      }

  tested_from : Tests W ts own r f → tested W.admitted W.setup ts own r f ≡ Ok tt
  tested_from t = rw (appointed_from W f.item Row t.item, t.value, t.count, t.sender, t.numbers, t.others, t.genuine, t.time) refl

-- what is known of a frame that was accepted
pub record Accepted (W : World) (x : State) (ts : List Triple) (p : ℕ) (part : Part) (f : Fields) (o : Option Owed) (part' : Part) : Type 0 where
  pub acceptable : Acceptable (plan_of W) x p f.item f.value (newest_first f)
  pub owed : o ≡ owes W.setup p f
  pub bag : Kept.Bag
  pub joins : joined W.same (bag_of part f.item) f.value ≡ Ok bag
  pub left : part' ≡ with_bag part f.item bag
  pub genuine : sealed ts f ≡ Ok tt

-- processor p's part at reading r, as the state x shows it with the triples ts
module _ (W : World) (x : State) (ts : List Triple) (p r : ℕ) (part : Part) (own : part.own ≡ p) (clock : reading x p ≡ r)
    (bags : (i : ℕ) → x.bag p i ≡ bag_shown (bag_at part i)) (seals : (a i v : ℕ) (l : List ℕ) → x.sealed a i v l ≡ has_sealed ts a i v l) where
  fresh_at : (i v : ℕ) → 1 ≤ i → fresh (plan_of W) (x.bag p i) v ≡ fresh (plan_of W) (bag_shown (bag_of part i)) v
  fresh_at i v low = ap (λ b. fresh (plan_of W) b v) (bags i ∙ ap bag_shown (bag_at_bag_of part i low))

  tests_acceptable : (f : Fields) → f.value < 2 ^ 64 → Tests W ts p r f → fresh (plan_of W) (bag_shown (bag_of part f.item)) f.value ≡ true
      → Acceptable (plan_of W) x p f.item f.value (newest_first f)
  tests_acceptable f small t new =
      let ps = numbers_of f.links in
      let numbers = numbered_ok (plan_of W) ps t.numbers in
      let count = leb-true (length f.links) (W.setup.f + 1) t.count in
      let size = length_newest f in
      let time = timely_ok W.setup (appointment_of W f.item) r f t.time in
      record {
        listed = t.item;
        admits = t.value;
        short = omega arith;
        first = begun_ok _ f.item f.value f.links t.sender;
        apart = numbers.1;
        seats = numbers.0;
        own = not_own_ok p ps t.others;
        genuine = sealed_chain x ts f seals small t.genuine;
        not_early = omega arith;
        not_late = omega arith;
        joins = fresh_at f.item f.value t.item.0 ∙ new;
      }

  acceptable_tests : (f : Fields) → sealed ts f ≡ Ok tt → Acceptable (plan_of W) x p f.item f.value (newest_first f) → Tests W ts p r f
  acceptable_tests f good a =
      let ps = numbers_of f.links in
      let size = length_newest f in
      record {
        item = a.listed;
        value = a.admits;
        count = le-leb (length f.links) (W.setup.f + 1) (omega (arith, a.short));
        sender = begun_from _ f.item f.value f.links a.first;
        numbers = numbered_from (plan_of W) ps a.seats a.apart;
        others = not_own_from p ps a.own;
        genuine = good;
        time = timely_from W.setup (appointment_of W f.item) r f (omega (arith, a.not_early)) (omega (arith, a.not_late));
      }

  pub accepted : (f : Fields) → f.value < 2 ^ 64 → (o : Option Owed) (part' : Part) → arrived W.admitted W.same W.setup ts r f part ≡ (Ok o, part') → Accepted W x ts p part f o part'
  accepted f small o part' h =
      let passed = after_on_ok part part' (tested W.admitted W.setup ts part.own r f) _ o h in
      let entry = after_on_ok part part' (joined W.same (bag_of part f.item) f.value) _ o passed.2 in
      let t = subst (λ q. Tests W ts q r f) own (tested_ok W ts part.own r f passed.1) in
      record {
        acceptable = tests_acceptable f small t (joined_fresh W (bag_of part f.item) f.value entry.0 entry.1);
        owed = sym (ok_same _ _ (ap (λ z. z.0) entry.2)) ∙ ap (λ q. owes W.setup q f) own;
        bag = entry.0;
        joins = entry.1;
        left = sym (ap (λ z. z.1) entry.2);
        genuine = t.genuine;
      }

  -- back: a frame with good seals that is acceptable is accepted
  pub passes : (f : Fields) → sealed ts f ≡ Ok tt → Acceptable (plan_of W) x p f.item f.value (newest_first f)
      → (b : Kept.Bag) × (arrived W.admitted W.same W.setup ts r f part ≡ (Ok (owes W.setup p f), with_bag part f.item b))
  passes f good a =
      let entry = fresh_joined W (bag_of part f.item) f.value (sym (fresh_at f.item f.value a.listed.0) ∙ a.joins) in
      let t = tested_from W ts part.own r f (subst (λ q. Tests W ts q r f) (sym own) (acceptable_tests f good a)) in
      let owed : owes W.setup part.own f ≡ owes W.setup p f = ap (λ q. owes W.setup q f) own in
      (entry.0, rw (t, entry.1, owed) refl)

  -- so one that is refused is not acceptable
  pub dropped : (f : Fields) → sealed ts f ≡ Ok tt → (e : Refusal) (part' : Part) → arrived W.admitted W.same W.setup ts r f part ≡ (Err e, part')
      → ¬ Acceptable (plan_of W) x p f.item f.value (newest_first f)
  dropped f good e part' h a = no_ok e (owes W.setup p f) (ap (λ z. z.0) (sym h ∙ (passes f good a).1))
