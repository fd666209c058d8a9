-- Each move is, for each item, a Pass or a Gain; and once decisions may stand, nothing is gained any more.
use Rattle.std.proofs.lemmas.Bool.{both_ways, false_from_ne_true}
use Rattle.std.proofs.Common.{◌≡◌, ℕ, suc, ◌+◌, ◌<◌, ◌≤◌, true, false, ◌⊎◌, List, [], ◌∷◌, length, sym, ap, ◌∙◌, subst, inl, inr, mul-le-mul_right, arith}
use native.Mathlib.Decide.{ℕ_discrete, dec_le, dec_lt}
use Rattle.protocol.specs.Model.{Plan, State, Verdict, empty, closed, Seat, Seats, Distinct, Chain, fresh, Acceptable}
use Rattle.protocol.specs.Moves.{SameOffsets, SameTurned, OldFlights, OldWays, Ticks, Sets, Turns, Forges, Takes, Broadcasts, Calm, Opens, Relays, Keeps, Drops, Decides, Move, ticks, sets, turns, forges, opens, relays, keeps, drops, decides, Start}
use Rattle.protocol.proofs.Words.{In, Holds, Covered, Sane, NonEmpty, in_not, pick, chain_up, chain_in, began_in, began_more, seats_in, covered_stale, covered_old, filled}
use Rattle.protocol.proofs.Invariants.{Ground, Late, Flown, Lawful, relayed, ended, Inv, Ends, Pass, New, Gain}

-- the clocks and the turned

ground_stays : (P : Plan) (x y : State) → SameOffsets x y → SameTurned x y → y.faulty ≡ x.faulty → Ground P x → Ground P y
ground_stays P x y o t f g = record {
  near = λ p. let a = o p in let b = g.near p in omega arith;
  ts = g.ts;
  many = g.many ∙ sym f;
  few = g.few;
  bad = λ p h. g.bad p (sym (t p) ∙ h);
}

ground_sets : (P : Plan) (p o : ℕ) (x y : State) → Sets P p o x y → Ground P x → Ground P y
ground_sets P p o x y s g = record {
  near = λ q. go q (ℕ_discrete q p);
  ts = g.ts;
  many = g.many ∙ sym s.faults;
  few = g.few;
  bad = λ q h. g.bad q (sym (s.turns q) ∙ h);
}
  where
    go : (q : ℕ) → Dec (q ≡ p) → y.offset q ≤ P.e
    go q (yes e) = let a : y.offset q ≡ o = ap y.offset e ∙ s.here in let b = s.within in omega arith
    go q (no e) = let a = s.there q e in let b = g.near q in omega arith

ground_turns : (P : Plan) (p : ℕ) (x y : State) → Turns P p x y → Ground P x → Ground P y
ground_turns P p x y s g = record {
  near = λ q. let a = s.offsets q in let b = g.near q in omega arith;
  ts = p ∷ g.ts;
  many = ap suc g.many ∙ sym s.faults;
  few = let a = g.many in let b = s.spare in omega arith;
  bad = λ q h. go q h (ℕ_discrete q p);
}
  where
    go : (q : ℕ) → y.turned q ≡ true → Dec (q ≡ p) → In q (p ∷ g.ts)
    go q h (yes e) = inl e
    go q h (no e) = inr (g.bad q (sym (s.there q e) ∙ h))

ground_calm : (P : Plan) (x y : State) → Calm x y → Ground P x → Ground P y
ground_calm P x y c g = ground_stays P x y c.offsets c.turns c.faults g

pub ground_step : (P : Plan) (x y : State) → Ground P x → Move P x y → Ground P y
ground_step P x y g (ticks k s) = ground_stays P x y s.offsets s.turns s.faults g
ground_step P x y g (sets p o s) = ground_sets P p o x y s g
ground_step P x y g (turns p s) = ground_turns P p x y s g
ground_step P x y g (forges p s) = ground_stays P x y s.offsets s.turns s.faults g
ground_step P x y g (opens p i v s) = ground_calm P x y s.calm g
ground_step P x y g (relays p i v l s) = ground_calm P x y s.calm g
ground_step P x y g (keeps p i v l s) = ground_calm P x y s.calm g
ground_step P x y g (drops m p s) = ground_calm P x y s.calm g
ground_step P x y g (decides p i s) = ground_calm P x y s.calm g

pub ground_start : (P : Plan) (x : State) → Start P x → Ground P x
ground_start P x s = record {
  near = λ p. let a = s.offsets p in omega arith;
  ts = [];
  many = sym s.faults;
  few = omega arith;
  bad = λ p h. absurd (both_ways (x.turned p) (s.turns p) h);
}

pub inv_start : (P : Plan) (i : ℕ) (x : State) → Start P x → Inv P i x
inv_start P i x s = record {
  lawful = λ m v l a t φ. absurd (none m φ.0);
  due = λ m v l a t q φ c k w. absurd (none m φ.0);
  aimed = λ m v l a t q φ w. absurd (none m φ.0);
  cover = λ m v l a t q φ c k w. absurd (none m φ.0);
  sign = λ a v l sa c h. absurd (both_ways (x.sealed a i v l) (s.seals a i v l sa) h);
  held = λ q v c h. absurd (subst (λ b. Holds b v) (s.bags q i) h);
  sane = λ q. subst (Sane P) (sym (s.bags q i)) tt;
  late = λ q r h. clash r (sym (s.bags q i) ∙ h);
  lone = λ m v l t m' v' l' t' φ φ'. absurd (none m φ.0);
}
  where
    none : (m : ℕ) → m < x.count → ⊥
    none m h = let z = s.number in omega arith

    clash : {A : Type 0} (r : Verdict) → empty ≡ closed r → A
    clash r e = absurd (cc)

module _ (P : Plan) (i : ℕ) (x : State) (g : Ground P x) (I : Inv P i x) where
  -- once decisions may stand, what a correct processor has broadcast has come to every correct one
  pub reach : (m v : ℕ) (l : List ℕ) (a t q : ℕ) → Late P i x → Flown x i m v l a t → x.turned a ≡ false → x.turned q ≡ false → Seat P q → Covered P (x.bag q i) v
  reach m v l a t q late φ ca cq sq = go (I.cover m v l a t q φ ca cq sq)
    where
      go : (x.way m q ≡ true) ⊎ Covered P (x.bag q i) v → Covered P (x.bag q i) v
      go (inr h) = h
      go (inl w) =
          let L = I.lawful m v l a t φ in
          let u = I.due m v l a t q φ ca cq w in
          let k = mul-le-mul_right (P.d + P.e) L.short in
          let b = L.soon in
          absurd (omega arith)

  -- f + 1 distinct seals: one is a correct processor's, so the value has come to every correct one
  pub reach_many : (l : List ℕ) (v q : ℕ) → Late P i x → length l ≡ suc P.f → Distinct l → Seats P l → Chain x i v l → x.turned q ≡ false → Seat P q → Covered P (x.bag q i) v
  reach_many l v q late k dl sl c cq sq = go (pick x.turned l g.ts dl (let a = g.few in omega arith) g.bad)
    where
      go : (c : ℕ) × In c l × (x.turned c ≡ false) → Covered P (x.bag q i) v
      go z =
          let s = seats_in P z.0 l sl z.1 in
          let h = chain_in x i v z.0 l c z.1 in
          let r = I.sign z.0 v h.0 s z.2 h.1 in
          reach r.0 v h.0 z.0 r.1 q late r.2 z.2 cq sq

  pub quiet : (p v : ℕ) (l : List ℕ) → Late P i x → Seat P p → x.turned p ≡ false → Acceptable P x p i v l → ⊥
  quiet p v l late sp cp A = go (dec_le (length l) P.f)
    where
      go : Dec (length l ≤ P.f) → ⊥
      go (yes h) = let k = mul-le-mul_right (P.d + P.e) h in let b = A.not_late in omega arith
      go (no h) = covered_old P (x.bag p i) v (reach_many l v p late (let b = A.short in omega arith) A.apart A.seats A.genuine cp sp) A.joins

  -- a frame of a correct author, come in time, passes unless its value need not join
  timely : (m v : ℕ) (l : List ℕ) (a t q : ℕ) → Flown x i m v l a t → x.turned a ≡ false → x.turned q ≡ false → x.way m q ≡ true → ¬ (Acceptable P x q i v (a ∷ l)) → Covered P (x.bag q i) v
  timely m v l a t q φ ca cq w no_way = covered_stale P (x.bag q i) v (false_from_ne_true (fresh P (x.bag q i) v) (λ h. no_way (passes h)))
    where
      passes : fresh P (x.bag q i) v ≡ true → Acceptable P x q i v (a ∷ l)
      passes h =
          let L = I.lawful m v l a t φ in
          let u = I.due m v l a t q φ ca cq w in
          let k = g.near q in
          let b₁ = L.early in
          let b₂ = L.soon in
          let b₃ = L.past in
          let b₄ = L.short in
          record {
            listed = L.listed;
            admits = L.admits;
            short = omega arith;
            first = L.first;
            apart = L.apart;
            seats = L.seats;
            own = (I.aimed m v l a t q φ w).1;
            genuine = L.genuine;
            not_early = omega arith;
            not_late = omega arith;
            joins = h;
          }

  module _ (y : State) where
    fwd_of : x.count ≤ y.count → OldFlights x y → (m v : ℕ) (l : List ℕ) (a t : ℕ) → Flown x i m v l a t → Flown y i m v l a t
    fwd_of n o m v l a t φ = (let b = φ.0 in omega arith, o m φ.0 ∙ φ.1)

    bwd_of : y.count ≡ x.count → OldFlights x y → (m v : ℕ) (l : List ℕ) (a t : ℕ) → Flown y i m v l a t → Flown x i m v l a t
    bwd_of n o m v l a t φ = let h : m < x.count = (let b = φ.0 in omega arith) in (h, sym (o m h) ∙ φ.1)

    -- nothing of the item's flights, seals and ways moves, and no clock or turn
    still : y.now ≡ x.now → SameTurned x y → ((a v : ℕ) (l : List ℕ) → x.sealed a i v l ≡ true → y.sealed a i v l ≡ true) → ((a v : ℕ) (l : List ℕ) → y.sealed a i v l ≡ true → x.sealed a i v l ≡ true) → x.count ≤ y.count → OldFlights x y → OldWays x y → ((m v : ℕ) (l : List ℕ) (a t : ℕ) → Flown y i m v l a t → Flown x i m v l a t) → ((q : ℕ) → (y.bag q i ≡ x.bag q i) ⊎ Ends P i x y q) → Pass P i x y
    still c t u s n o w b k = record {
      later = omega arith;
      honest = λ q h. sym (t q) ∙ h;
      on_time = λ m v l a h q φ ca cq z. let r = I.due m v l a h q φ (sym (t a) ∙ ca) (sym (t q) ∙ cq) (sym (w m q φ.0) ∙ z) in omega arith;
      up = u;
      down = λ a v l ca h. s a v l h;
      fwd = fwd_of n o;
      bwd = b;
      ways = λ m v l a h q φ z. sym (w m q φ.0) ∙ z;
      lost = λ m v l a h q φ ca cq sq z. inl (w m q φ.0 ∙ z);
      bags = k;
    }

    pass_ticks : (k : ℕ) → Ticks P k x y → Pass P i x y
    pass_ticks k s = record {
      later = let c = s.clock in omega arith;
      honest = λ q h. sym (s.turns q) ∙ h;
      on_time = λ m v l a t q φ ca cq z. let c = s.clock in let r = s.in_time m q i v l a t φ.0 φ.1 (sym (s.turns a) ∙ ca) (sym (s.turns q) ∙ cq) (sym (s.ways m q φ.0) ∙ z) in omega arith;
      up = λ a v l h. s.seals a i v l ∙ h;
      down = λ a v l ca h. sym (s.seals a i v l) ∙ h;
      fwd = fwd_of (let n = s.number in omega arith) s.flights;
      bwd = bwd_of s.number s.flights;
      ways = λ m v l a t q φ z. sym (s.ways m q φ.0) ∙ z;
      lost = λ m v l a t q φ ca cq sq z. inl (s.ways m q φ.0 ∙ z);
      bags = λ q. inl (s.bags q i);
    }

    pass_sets : (p o : ℕ) → Sets P p o x y → Pass P i x y
    pass_sets p o s = still s.clock s.turns (λ a v l h. s.seals a i v l ∙ h) (λ a v l h. sym (s.seals a i v l) ∙ h) (let n = s.number in omega arith) s.flights s.ways (bwd_of s.number s.flights) (λ q. inl (s.bags q i))

    pass_turns : (p : ℕ) → Turns P p x y → Pass P i x y
    pass_turns p s = record {
      later = let c = s.clock in omega arith;
      honest = honest';
      on_time = λ m v l a t q φ ca cq z. let c = s.clock in let r = I.due m v l a t q φ (honest' a ca) (honest' q cq) (sym (s.ways m q φ.0) ∙ z) in omega arith;
      up = λ a v l h. s.seals a i v l ∙ h;
      down = λ a v l ca h. sym (s.seals a i v l) ∙ h;
      fwd = fwd_of (let n = s.number in omega arith) s.flights;
      bwd = bwd_of s.number s.flights;
      ways = λ m v l a t q φ z. sym (s.ways m q φ.0) ∙ z;
      lost = λ m v l a t q φ ca cq sq z. inl (s.ways m q φ.0 ∙ z);
      bags = λ q. inl (s.bags q i);
    }
      where
        honest' : (q : ℕ) → y.turned q ≡ false → x.turned q ≡ false
        honest' q h = go (ℕ_discrete q p)
          where
            go : Dec (q ≡ p) → x.turned q ≡ false
            go (yes e) = absurd (both_ways (y.turned p) (ap y.turned (sym e) ∙ h) s.here)
            go (no e) = sym (s.there q e) ∙ h

    pass_forges : (p : ℕ) → Forges P p x y → Pass P i x y
    pass_forges p s = record {
      later = let c = s.clock in omega arith;
      honest = λ q h. sym (s.turns q) ∙ h;
      on_time = λ m v l a t q φ ca cq z. let c = s.clock in let r = I.due m v l a t q φ (sym (s.turns a) ∙ ca) (sym (s.turns q) ∙ cq) (sym (s.ways m q φ.0) ∙ z) in omega arith;
      up = up';
      down = down';
      fwd = fwd_of (let n = s.number in omega arith) s.flights;
      bwd = bwd_of s.number s.flights;
      ways = λ m v l a t q φ z. sym (s.ways m q φ.0) ∙ z;
      lost = λ m v l a t q φ ca cq sq z. inl (s.ways m q φ.0 ∙ z);
      bags = λ q. inl (s.bags q i);
    }
      where
        up' : (a v : ℕ) (l : List ℕ) → x.sealed a i v l ≡ true → y.sealed a i v l ≡ true
        up' a v l h = go (ℕ_discrete a p)
          where
            go : Dec (a ≡ p) → y.sealed a i v l ≡ true
            go (yes e) = ap (λ (z : ℕ). y.sealed z i v l) e ∙ s.grows i v l (ap (λ (z : ℕ). x.sealed z i v l) (sym e) ∙ h)
            go (no e) = s.there a i v l e ∙ h

        down' : (a v : ℕ) (l : List ℕ) → y.turned a ≡ false → y.sealed a i v l ≡ true → x.sealed a i v l ≡ true
        down' a v l ca h = go (ℕ_discrete a p)
          where
            go : Dec (a ≡ p) → x.sealed a i v l ≡ true
            go (yes e) = absurd (both_ways (x.turned p) (ap x.turned (sym e) ∙ sym (s.turns a) ∙ ca) s.bad)
            go (no e) = sym (s.there a i v l e) ∙ h

    pass_drops : (m p : ℕ) → Drops P m p x y → Pass P i x y
    pass_drops m p s = record {
      later = let c = s.calm.clock in omega arith;
      honest = honest';
      on_time = λ m' v l a t q φ ca cq z. let c = s.calm.clock in let r = I.due m' v l a t q φ (honest' a ca) (honest' q cq) (ways' m' q z) in omega arith;
      up = λ a v l h. s.seals a i v l ∙ h;
      down = λ a v l ca h. sym (s.seals a i v l) ∙ h;
      fwd = fwd_of (let n = s.number in omega arith) s.flights;
      bwd = bwd_of s.number s.flights;
      ways = λ m' v l a t q φ z. ways' m' q z;
      lost = lost';
      bags = λ q. inl (s.bags q i);
    }
      where
        honest' : (q : ℕ) → y.turned q ≡ false → x.turned q ≡ false
        honest' q h = sym (s.calm.turns q) ∙ h

        split : (m' q : ℕ) → ((m' ≡ m) × (q ≡ p)) ⊎ (y.way m' q ≡ x.way m' q)
        split m' q = go (ℕ_discrete m' m) (ℕ_discrete q p)
          where
            go : Dec (m' ≡ m) → Dec (q ≡ p) → ((m' ≡ m) × (q ≡ p)) ⊎ (y.way m' q ≡ x.way m' q)
            go (yes e) (yes k) = inl (e, k)
            go (yes e) (no k) = inr (s.there m' q (inr k))
            go (no e) k = inr (s.there m' q (inl e))

        ways' : (m' q : ℕ) → y.way m' q ≡ true → x.way m' q ≡ true
        ways' m' q z = go (split m' q)
          where
            go : ((m' ≡ m) × (q ≡ p)) ⊎ (y.way m' q ≡ x.way m' q) → x.way m' q ≡ true
            go (inl e) = let h = e.0 in let k = e.1 in let r = s.here in absurd (both_ways (y.way m' q) (cc) z)
            go (inr e) = sym e ∙ z

        lost' : (m' v : ℕ) (l : List ℕ) (a t q : ℕ) → Flown x i m' v l a t → y.turned a ≡ false → y.turned q ≡ false → Seat P q → x.way m' q ≡ true → (y.way m' q ≡ true) ⊎ Covered P (x.bag q i) v
        lost' m' v l a t q φ ca cq sq z = go (split m' q)
          where
            go : ((m' ≡ m) × (q ≡ p)) ⊎ (y.way m' q ≡ x.way m' q) → (y.way m' q ≡ true) ⊎ Covered P (x.bag q i) v
            go (inl e) = inr (timely m' v l a t q φ (honest' a ca) (honest' q cq) z (λ A. s.fails i v l a t (ap x.flight (sym e.0) ∙ φ.1) (subst (λ (k : ℕ). Acceptable P x k i v (a ∷ l)) e.1 A)))
            go (inr e) = inl (e ∙ z)

    pass_decides : (p j : ℕ) → Decides P p j x y → Pass P i x y
    pass_decides p j s = still s.calm.clock s.calm.turns (λ a v l h. s.seals a i v l ∙ h) (λ a v l h. sym (s.seals a i v l) ∙ h) (let n = s.number in omega arith) s.flights s.ways (bwd_of s.number s.flights) (λ q. bags' q (ℕ_discrete q p) (ℕ_discrete i j))
      where
        late' : i ≡ j → Late P i x
        late' k =
            let w = s.waited in
            let m : P.moment i ≡ P.moment j = ap P.moment k in
            let o = g.near p in
            omega arith

        bags' : (q : ℕ) → Dec (q ≡ p) → Dec (i ≡ j) → (y.bag q i ≡ x.bag q i) ⊎ Ends P i x y q
        bags' q (no h) k = inl (s.other.0 q i h)
        bags' q (yes h) (no k) = inl (s.other.1 q i k)
        bags' q (yes h) (yes k) = inr (record {
          shut = (let b = s.here in cc);
          seat = subst (λ (z : ℕ). Seat P z) (sym h) s.seat;
          was = ap x.turned h ∙ s.correct;
          late = late' k;
        })

    -- a broadcast of another item
    pass_other : (p j v : ℕ) (l : List ℕ) → ¬ (i ≡ j) → Takes p j v x y → Broadcasts P p j v l x y → OldWays x y → Calm x y → Pass P i x y
    pass_other p j v l ne t b w c = still c.clock c.turns (λ a w h k. b.grows a i w h k) down' (let n = b.number in omega arith) b.flights w bwd' (λ q. inl (t.other.1 q i ne))
      where
        down' : (a w : ℕ) (h : List ℕ) → y.sealed a i w h ≡ true → x.sealed a i w h ≡ true
        down' a w h k = go (b.only a i w h k)
          where
            go : (x.sealed a i w h ≡ true) ⊎ ((a ≡ p) × (i ≡ j) × (w ≡ v) × (h ≡ l)) → x.sealed a i w h ≡ true
            go (inl z) = z
            go (inr z) = absurd (ne z.1)

        bwd' : (m w : ℕ) (h : List ℕ) (a t : ℕ) → Flown y i m w h a t → Flown x i m w h a t
        bwd' m w h a t φ = go (dec_lt m x.count)
          where
            go : Dec (m < x.count) → Flown x i m w h a t
            go (yes k) = (k, sym (b.flights m k) ∙ φ.1)
            go (no k) =
                let e : m ≡ x.count = (let n = b.number in let z = φ.0 in omega arith) in
                let n = b.new in
                let z = φ.1 in
                let r : i ≡ j = cc in
                absurd (ne r)

    -- a broadcast of the item
    sends_gain : (p v : ℕ) (l : List ℕ) → x.turned p ≡ false → P.admitted v ≡ true → fresh P (x.bag p i) v ≡ true → Takes p i v x y → Broadcasts P p i v l x y → OldWays x y → Calm x y → Lawful P y i v l p x.now → Chain x i v l → (p ≡ P.sender i → (m w : ℕ) (h : List ℕ) (t : ℕ) → Flown x i m w h (P.sender i) t → ⊥) → ¬ (Late P i x) → Gain P i x y p v
    sends_gain p v l cp ad jo t b w c law seal so nl = record {
      clock = c.clock;
      turns = c.turns;
      correct = cp;
      admits = ad;
      joins = jo;
      here = t.here;
      there = λ q e. t.other.0 q i e;
      up = λ a w h k. b.grows a i w h k;
      down = down';
      fwd = fwd_of (let n = b.number in omega arith) b.flights;
      bwd = bwd';
      ways = w;
      backed = relayed x.count l x.now mine;
      solo = so;
      soon = nl;
    }
      where
        mine : Flown y i x.count v l p x.now
        mine = (let n = b.number in omega arith, b.new)

        down' : (a w : ℕ) (h : List ℕ) → y.sealed a i w h ≡ true → (x.sealed a i w h ≡ true) ⊎ ((m : ℕ) × (t : ℕ) × Flown y i m w h a t)
        down' a w h k = go (b.only a i w h k)
          where
            go : (x.sealed a i w h ≡ true) ⊎ ((a ≡ p) × (i ≡ i) × (w ≡ v) × (h ≡ l)) → (x.sealed a i w h ≡ true) ⊎ ((m : ℕ) × (t : ℕ) × Flown y i m w h a t)
            go (inl z) = inl z
            go (inr z) = inr (x.count, x.now, (mine.0, (let n = b.new in let z₁ = z.0 in let z₂ = z.2 in let z₃ = z.3 in cc)))

        bwd' : (m w : ℕ) (h : List ℕ) (a t : ℕ) → Flown y i m w h a t → Flown x i m w h a t ⊎ New P i x y p v m w h a t
        bwd' m w h a t φ = go (dec_lt m x.count)
          where
            go : Dec (m < x.count) → Flown x i m w h a t ⊎ New P i x y p v m w h a t
            go (yes k) = inl (k, sym (b.flights m k) ∙ φ.1)
            go (no k) =
                let e : m ≡ x.count = (let n = b.number in let z = φ.0 in omega arith) in
                let n = b.new in
                let z = φ.1 in
                let e₁ : w ≡ v = cc in
                let e₂ : h ≡ l = cc in
                let e₃ : a ≡ p = cc in
                let e₄ : t ≡ x.now = cc in
                inr (record {
                  value = e₁;
                  author = e₃;
                  time = e₄;
                  law = rw (e₁, e₂, e₃, e₄) law;
                  sealers = rw (e₁, e₂) seal;
                  goals = rw (e, e₂, e₃) b.goals;
                  no_more = rw (e, e₂, e₃) b.no_more;
                })

    gain_opens : (p v : ℕ) → Opens P p i v x y → Gain P i x y p v
    gain_opens p v s = sends_gain p v [] s.correct s.admits (ap (λ b. fresh P b v) s.unopened) s.takes s.sends s.ways s.calm law tt so (λ late. let a = s.moment in let b = P.spread in omega arith)
      where
        law : Lawful P y i v [] p x.now
        law =
            let o = g.near p in
            let a = s.moment in
            let c = s.calm.clock in
            record {
              early = omega arith;
              soon = omega arith;
              short = omega arith;
              past = omega arith;
              listed = s.listed;
              admits = s.admits;
              first = s.is_sender;
              apart = (tt, tt);
              seats = (subst (λ (z : ℕ). Seat P z) (sym s.is_sender) (P.sender_low i, P.sender_high i), tt);
              genuine = (s.sends.seal, tt);
              full = subst NonEmpty (sym s.takes.here) (filled (x.bag p i) v);
            }

        so : p ≡ P.sender i → (m w : ℕ) (h : List ℕ) (t : ℕ) → Flown x i m w h (P.sender i) t → ⊥
        so e m w h t φ = subst NonEmpty s.unopened (subst (λ (z : ℕ). NonEmpty (x.bag z i)) (sym e) (I.lawful m w h (P.sender i) t φ).full)

    -- who is in no link is not the sender
    apart_from : (p v : ℕ) (l : List ℕ) → Acceptable P x p i v l → ¬ (p ≡ P.sender i)
    apart_from p v l A e = in_not p l (subst (λ (z : ℕ). In z l) (sym e) (began_in (P.sender i) l A.first)) A.own

    gain_relays : (p v : ℕ) (l : List ℕ) → Relays P p i v l x y → Gain P i x y p v
    gain_relays p v l s = sends_gain p v l s.correct A.admits A.joins s.takes s.sends s.ways s.calm law A.genuine (λ e m w h t φ. apart_from p v l A e) (λ late. quiet p v l late s.seat s.correct A)
      where
        A : Acceptable P x p i v l
        A = s.passes

        law : Lawful P y i v l p x.now
        law =
            let o = g.near p in
            let a₁ = A.not_early in
            let a₂ = A.not_late in
            let c = s.calm.clock in
            record {
              early = omega arith;
              soon = omega arith;
              short = s.few;
              past = omega arith;
              listed = A.listed;
              admits = A.admits;
              first = began_more (P.sender i) p l A.first;
              apart = (A.own, A.apart);
              seats = (s.seat, A.seats);
              genuine = (s.sends.seal, chain_up x y i v l (λ a h. s.sends.grows a i v h) A.genuine);
              full = subst NonEmpty (sym s.takes.here) (filled (x.bag p i) v);
            }

    gain_keeps_it : (p v : ℕ) (l : List ℕ) → Keeps P p i v l x y → Gain P i x y p v
    gain_keeps_it p v l s = record {
      clock = s.calm.clock;
      turns = s.calm.turns;
      correct = s.correct;
      admits = A.admits;
      joins = A.joins;
      here = s.takes.here;
      there = λ q e. s.takes.other.0 q i e;
      up = λ a w h k. s.seals a i w h ∙ k;
      down = λ a w h k. inl (sym (s.seals a i w h) ∙ k);
      fwd = fwd_of (let n = s.number in omega arith) s.flights;
      bwd = λ m w h a t φ. inl (bwd_of s.number s.flights m w h a t φ);
      ways = s.ways;
      backed = ended l s.full A.apart A.seats A.own (chain_up x y i v l (λ a h k. s.seals a i v h ∙ k) A.genuine) A.first;
      solo = λ e m w h t φ. apart_from p v l A e;
      soon = λ late. quiet p v l late s.seat s.correct A;
    }
      where
        A : Acceptable P x p i v l
        A = s.passes

    pub kind : Move P x y → Pass P i x y ⊎ ((p : ℕ) × (v : ℕ) × Gain P i x y p v)
    kind (ticks k s) = inl (pass_ticks k s)
    kind (sets p o s) = inl (pass_sets p o s)
    kind (turns p s) = inl (pass_turns p s)
    kind (forges p s) = inl (pass_forges p s)
    kind (opens p j v s) = go (ℕ_discrete i j)
      where
        go : Dec (i ≡ j) → Pass P i x y ⊎ ((p : ℕ) × (v : ℕ) × Gain P i x y p v)
        go (yes e) = inr (p, v, gain_opens p v (subst (λ (z : ℕ). Opens P p z v x y) (sym e) s))
        go (no e) = inl (pass_other p j v [] e s.takes s.sends s.ways s.calm)
    kind (relays p j v l s) = go (ℕ_discrete i j)
      where
        go : Dec (i ≡ j) → Pass P i x y ⊎ ((p : ℕ) × (v : ℕ) × Gain P i x y p v)
        go (yes e) = inr (p, v, gain_relays p v l (subst (λ (z : ℕ). Relays P p z v l x y) (sym e) s))
        go (no e) = inl (pass_other p j v l e s.takes s.sends s.ways s.calm)
    kind (keeps p j v l s) = go (ℕ_discrete i j)
      where
        go : Dec (i ≡ j) → Pass P i x y ⊎ ((p : ℕ) × (v : ℕ) × Gain P i x y p v)
        go (yes e) = inr (p, v, gain_keeps_it p v l (subst (λ (z : ℕ). Keeps P p z v l x y) (sym e) s))
        go (no e) = inl (still s.calm.clock s.calm.turns (λ a w h k. s.seals a i w h ∙ k) (λ a w h k. sym (s.seals a i w h) ∙ k) (let n = s.number in omega arith) s.flights s.ways (bwd_of s.number s.flights) (λ q. inl (s.takes.other.1 q i e)))
    kind (drops m p s) = inl (pass_drops m p s)
    kind (decides p j s) = inl (pass_decides p j s)
