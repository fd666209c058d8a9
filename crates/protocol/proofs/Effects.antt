-- A move can be made wherever its guards hold: a state that it leads to.
use Rattle.std.proofs.Common.{◌≡◌, ℕ, suc, ◌+◌, ◌*◌, ◌<◌, ◌≤◌, Bool, true, false, cond, not, ◌&&◌, ◌||◌, eqb, leb, ◌⊎◌, List, [], ◌∷◌, length, sym, refl, ◌∙◌, inl, inr, arith}
use Rattle.std.specs.Str.{bytes_eq}
use Rattle.std.proofs.lemmas.Slice.Eq.{bytes_eq-Decides}
use Rattle.std.proofs.lemmas.Bool.{eqb-true, eq-eqb, ne_eqb, leb-true, le-leb, not-true, not_from_false, and_from, and_parts, and_left, and_right, or_left, or_right, or_cases, cond-true, cond-false, both_ways}
use Rattle.protocol.specs.Model.{Plan, State, Bag, empty, closed, fly, Seat, Listed, NotIn, put, verdict, is_closed, reading, Acceptable}
use Rattle.protocol.specs.Moves.{OldWays, Ticks, Takes, Broadcasts, Calm, Opens, Relays, Drops, Decides}

-- a table with one entry changed
abbrev at : {A : Type 0} → ℕ → ℕ → A → (ℕ → ℕ → A) → ℕ → ℕ → A
at p i b w q k = cond (eqb q p && eqb k i) b (w q k)

at_here : {A : Type 0} (p i : ℕ) (b : A) (w : ℕ → ℕ → A) → at p i b w p i ≡ b
at_here p i b w = cond-true (eqb p p && eqb i i) b (w p i) (and_from (eqb p p) (eqb i i) (eq-eqb p p refl) (eq-eqb i i refl))

at_there : {A : Type 0} (p i : ℕ) (b : A) (w : ℕ → ℕ → A) (q k : ℕ) → (¬ (q ≡ p)) ⊎ (¬ (k ≡ i)) → at p i b w q k ≡ w q k
at_there p i b w q k (inl e) = cond-false (eqb q p && eqb k i) b (w q k) (and_left (eqb q p) (eqb k i) (ne_eqb q p e))
at_there p i b w q k (inr e) = cond-false (eqb q p && eqb k i) b (w q k) (and_right (eqb q p) (eqb k i) (ne_eqb k i e))

abbrev absent : ℕ → List ℕ → Bool
absent q [] = true
absent q (a ∷ l) = not (eqb q a) && absent q l

absent_not : (q : ℕ) (l : List ℕ) → absent q l ≡ true → NotIn q l
absent_not q [] h = tt
absent_not q (a ∷ l) h =
    let k = and_parts (not (eqb q a)) (absent q l) h in
    (λ e. absurd (both_ways (eqb q a) (not-true (eqb q a) k.0) (eq-eqb q a e)), absent_not q l k.1)

not_absent : (q : ℕ) (l : List ℕ) → NotIn q l → absent q l ≡ true
not_absent q [] h = refl
not_absent q (a ∷ l) h = and_from (not (eqb q a)) (absent q l) (not_from_false (eqb q a) (ne_eqb q a h.0)) (not_absent q l h.1)

-- whom a broadcast by p, with the links l before its own, goes to
abbrev goal : Plan → ℕ → List ℕ → ℕ → Bool
goal P p l q = leb 1 q && (leb q P.n && absent q (p ∷ l))

goal_in : (P : Plan) (p : ℕ) (l : List ℕ) (q : ℕ) → Seat P q → NotIn q (p ∷ l) → goal P p l q ≡ true
goal_in P p l q s n = and_from (leb 1 q) (leb q P.n && absent q (p ∷ l)) (le-leb 1 q s.0) (and_from (leb q P.n) (absent q (p ∷ l)) (le-leb q P.n s.1) (not_absent q (p ∷ l) n))

goal_out : (P : Plan) (p : ℕ) (l : List ℕ) (q : ℕ) → goal P p l q ≡ true → Seat P q × NotIn q (p ∷ l)
goal_out P p l q h =
    let a = and_parts (leb 1 q) (leb q P.n && absent q (p ∷ l)) h in
    let b = and_parts (leb q P.n) (absent q (p ∷ l)) a.1 in
    ((leb-true 1 q a.0, leb-true q P.n b.0), absent_not q (p ∷ l) b.1)

-- the states

abbrev pub after_ticks : ℕ → State → State
after_ticks k x = record { now = x.now + k; offset = x.offset; turned = x.turned; faulty = x.faulty; bag = x.bag; sealed = x.sealed; count = x.count; flight = x.flight; way = x.way }

abbrev pub after_send : Plan → ℕ → ℕ → ℕ → List ℕ → State → State
after_send P p i v l x = record {
  now = x.now;
  offset = x.offset;
  turned = x.turned;
  faulty = x.faulty;
  bag = at p i (put (x.bag p i) v) x.bag;
  sealed = λ a k w h. x.sealed a k w h || (eqb a p && (eqb k i && (eqb w v && bytes_eq h l)));
  count = suc x.count;
  flight = λ m. cond (eqb m x.count) (fly i v l p x.now) (x.flight m);
  way = λ m q. cond (eqb m x.count) (goal P p l q) (x.way m q);
}

abbrev pub after_bag : ℕ → ℕ → Bag → State → State
after_bag p i b x = record { now = x.now; offset = x.offset; turned = x.turned; faulty = x.faulty; bag = at p i b x.bag; sealed = x.sealed; count = x.count; flight = x.flight; way = x.way }

abbrev pub after_drops : ℕ → ℕ → State → State
after_drops m p x = record { now = x.now; offset = x.offset; turned = x.turned; faulty = x.faulty; bag = x.bag; sealed = x.sealed; count = x.count; flight = x.flight; way = at m p false x.way }

module _ (P : Plan) (p i v : ℕ) (l : List ℕ) (x : State) where
  send_takes : Takes p i v x (after_send P p i v l x)
  send_takes = record {
    here = at_here p i (put (x.bag p i) v) x.bag;
    other = (λ q k e. at_there p i (put (x.bag p i) v) x.bag q k (inl e), λ q k e. at_there p i (put (x.bag p i) v) x.bag q k (inr e));
  }

  old_flight : {A : Type 0} (m : ℕ) (b c : A) → m < x.count → cond (eqb m x.count) b c ≡ c
  old_flight m b c h = cond-false (eqb m x.count) b c (ne_eqb m x.count (λ e. omega arith))

  new_flight : {A : Type 0} (b c : A) → cond (eqb x.count x.count) b c ≡ b
  new_flight b c = cond-true (eqb x.count x.count) b c (eq-eqb x.count x.count refl)

  send_ways : OldWays x (after_send P p i v l x)
  send_ways m q h = old_flight m (goal P p l q) (x.way m q) h

  -- is it p's own link
  abbrev mine : ℕ → ℕ → ℕ → List ℕ → Bool
  mine a k w h = eqb a p && (eqb k i && (eqb w v && bytes_eq h l))

  send_sends : Broadcasts P p i v l x (after_send P p i v l x)
  send_sends = record {
    seal = or_right (x.sealed p i v l) (mine p i v l) (let a = eq-eqb p p refl in let b = eq-eqb i i refl in let c = eq-eqb v v refl in let d = (bytes_eq-Decides l l).1 refl in cc);
    grows = λ a k w h e. or_left (x.sealed a k w h) (mine a k w h) e;
    only = λ a k w h e. sole a k w h (or_cases (x.sealed a k w h) (mine a k w h) e);
    number = refl;
    new = new_flight (fly i v l p x.now) (x.flight x.count);
    flights = λ m h. old_flight m (fly i v l p x.now) (x.flight m) h;
    goals = λ q s n. new_flight (goal P p l q) (x.way x.count q) ∙ goal_in P p l q s n;
    no_more = λ q e. goal_out P p l q (sym (new_flight (goal P p l q) (x.way x.count q)) ∙ e);
  }
    where
      sole : (a k w : ℕ) (h : List ℕ) → (x.sealed a k w h ≡ true) ⊎ (mine a k w h ≡ true) → (x.sealed a k w h ≡ true) ⊎ ((a ≡ p) × (k ≡ i) × (w ≡ v) × (h ≡ l))
      sole a k w h (inl e) = inl e
      sole a k w h (inr e) =
          let b = and_parts (eqb a p) (eqb k i && (eqb w v && bytes_eq h l)) e in
          let c = and_parts (eqb k i) (eqb w v && bytes_eq h l) b.1 in
          let d = and_parts (eqb w v) (bytes_eq h l) c.1 in
          inr (eqb-true a p b.0, eqb-true k i c.0, eqb-true w v d.0, (bytes_eq-Decides h l).0 d.1)

  send_calm : Calm x (after_send P p i v l x)
  send_calm = record { clock = refl; offsets = λ q. refl; turns = λ q. refl; faults = refl }

module _ (P : Plan) (x : State) where
  pub can_tick : (k : ℕ) → ((m q i v : ℕ) (l : List ℕ) (a t : ℕ) → m < x.count → x.flight m ≡ fly i v l a t → x.turned a ≡ false → x.turned q ≡ false → x.way m q ≡ true → x.now + k < t + P.d) → Ticks P k x (after_ticks k x)
  can_tick k g = record { clock = refl; in_time = g; offsets = λ p. refl; turns = λ p. refl; faults = refl; bags = λ p i. refl; seals = λ a i v l. refl; number = refl; flights = λ m h. refl; ways = λ m q h. refl }

  pub can_open : (p i v : ℕ) → x.turned p ≡ false → Listed P i → p ≡ P.sender i → reading x p ≡ P.moment i → x.bag p i ≡ empty → P.admitted v ≡ true → Opens P p i v x (after_send P p i v [] x)
  can_open p i v c li s r b a = record {
    correct = c;
    listed = li;
    is_sender = s;
    moment = r;
    unopened = b;
    admits = a;
    takes = send_takes P p i v [] x;
    sends = send_sends P p i v [] x;
    ways = send_ways P p i v [] x;
    calm = send_calm P p i v [] x;
  }

  pub can_relay : (p i v : ℕ) (l : List ℕ) → Seat P p → x.turned p ≡ false → Acceptable P x p i v l → length l ≤ P.f → Relays P p i v l x (after_send P p i v l x)
  can_relay p i v l s c a f = record {
    seat = s;
    correct = c;
    passes = a;
    few = f;
    takes = send_takes P p i v l x;
    sends = send_sends P p i v l x;
    ways = send_ways P p i v l x;
    calm = send_calm P p i v l x;
  }

  pub can_drop : (m p : ℕ) → x.turned p ≡ false → m < x.count → ((i v : ℕ) (l : List ℕ) (a t : ℕ) → x.flight m ≡ fly i v l a t → ¬ (Acceptable P x p i v (a ∷ l))) → Drops P m p x (after_drops m p x)
  can_drop m p c k f = record {
    correct = c;
    known = k;
    fails = f;
    here = at_here m p false x.way;
    there = λ h q e. at_there m p false x.way h q e;
    calm = record { clock = refl; offsets = λ q. refl; turns = λ q. refl; faults = refl };
    bags = λ q i. refl;
    seals = λ a i v l. refl;
    number = refl;
    flights = λ h b. refl;
  }

  pub can_decide : (p i : ℕ) → Seat P p → x.turned p ≡ false → Listed P i → is_closed (x.bag p i) ≡ false → P.moment i + suc P.f * (P.d + P.e) ≤ reading x p → Decides P p i x (after_bag p i (closed (verdict (x.bag p i))) x)
  can_decide p i s c li u w = record {
    seat = s;
    correct = c;
    listed = li;
    undecided = u;
    waited = w;
    here = at_here p i (closed (verdict (x.bag p i))) x.bag;
    other = (λ q k e. at_there p i (closed (verdict (x.bag p i))) x.bag q k (inl e), λ q k e. at_there p i (closed (verdict (x.bag p i))) x.bag q k (inr e));
    calm = record { clock = refl; offsets = λ q. refl; turns = λ q. refl; faults = refl };
    seals = λ b k v h. refl;
    number = refl;
    flights = λ m k. refl;
    ways = λ m q k. refl;
  }
