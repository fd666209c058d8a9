-- What holds of an item in every reached state, and why the two kinds of step keep it: a Pass, in which the item gains no value, and a Gain, in which one correct processor takes one.
use Rattle.std.proofs.lemmas.Bool.{false≢true}
use Rattle.std.proofs.Common.{◌≡◌, ℕ, suc, ◌+◌, ◌*◌, ◌<◌, ◌≤◌, true, false, ◌⊎◌, List, ◌∷◌, length, sym, refl, ap, ◌∙◌, subst, inl, inr, arith}
use native.Mathlib.Decide.{ℕ_discrete}
use Rattle.protocol.specs.Model.{Plan, State, Bag, Verdict, empty, one, two, closed, fly, Seat, Listed, Seats, NotIn, Distinct, Began, Chain, fresh, put, verdict}
use Rattle.protocol.specs.Moves.{SameTurned}
use Rattle.protocol.proofs.Words.{In, Holds, Covered, Sane, NonEmpty, in_or_not, chain_up, chain_in, covered_put, covered_stays, holds_put, sane_put, filled}

-- of the clocks and the turned
pub record Ground (P : Plan) (x : State) : Type 0 where
  pub near : (p : ℕ) → x.offset p ≤ P.e
  pub ts : List ℕ
  pub many : length ts ≡ x.faulty
  pub few : length ts ≤ P.f
  pub bad : (p : ℕ) → x.turned p ≡ true → In p ts

-- from here on decisions may stand
abbrev pub Late : Plan → ℕ → State → Type 0
Late P i x = P.moment i + P.f * (P.d + P.e) + P.d ≤ x.now

abbrev pub Flown : State → ℕ → ℕ → ℕ → List ℕ → ℕ → ℕ → Type 0
Flown x i m v l a t = (m < x.count) × (x.flight m ≡ fly i v l a t)

-- what holds of each flight
pub record Lawful (P : Plan) (x : State) (i v : ℕ) (l : List ℕ) (a t : ℕ) : Type 0 where
  pub early : P.moment i ≤ t + suc (length l) * P.e
  pub soon : t + P.d + P.e ≤ P.moment i + suc (length l) * (P.d + P.e)
  pub short : length l ≤ P.f
  pub past : t ≤ x.now
  pub listed : Listed P i
  pub admits : P.admitted v ≡ true
  pub first : Began (P.sender i) (a ∷ l)
  pub apart : Distinct (a ∷ l)
  pub seats : Seats P (a ∷ l)
  pub genuine : Chain x i v (a ∷ l)
  pub full : NonEmpty (x.bag a i)

-- why a correct processor q holds v: it relayed it, or f + 1 others sealed it
pub data Backed (P : Plan) (x : State) (i q v : ℕ) : Type 0 where
  relayed : (m : ℕ) (l : List ℕ) (t : ℕ) → Flown x i m v l q t → Backed P x i q v
  ended : (l : List ℕ) → length l ≡ suc P.f → Distinct l → Seats P l → NotIn q l → Chain x i v l → Began (P.sender i) l → Backed P x i q v

pub record Inv (P : Plan) (i : ℕ) (x : State) : Type 0 where
  pub lawful : (m v : ℕ) (l : List ℕ) (a t : ℕ) → Flown x i m v l a t → Lawful P x i v l a t
  pub due : (m v : ℕ) (l : List ℕ) (a t q : ℕ) → Flown x i m v l a t → x.turned a ≡ false → x.turned q ≡ false → x.way m q ≡ true → x.now < t + P.d
  pub aimed : (m v : ℕ) (l : List ℕ) (a t q : ℕ) → Flown x i m v l a t → x.way m q ≡ true → Seat P q × NotIn q (a ∷ l)
  pub cover : (m v : ℕ) (l : List ℕ) (a t q : ℕ) → Flown x i m v l a t → x.turned a ≡ false → x.turned q ≡ false → Seat P q → (x.way m q ≡ true) ⊎ Covered P (x.bag q i) v
  pub sign : (a v : ℕ) (l : List ℕ) → Seat P a → x.turned a ≡ false → x.sealed a i v l ≡ true → (m : ℕ) × (t : ℕ) × Flown x i m v l a t
  pub held : (q v : ℕ) → x.turned q ≡ false → Holds (x.bag q i) v → Backed P x i q v
  pub sane : (q : ℕ) → Sane P (x.bag q i)
  pub late : (q : ℕ) (r : Verdict) → x.bag q i ≡ closed r → Seat P q × Late P i x
  pub lone : (m v : ℕ) (l : List ℕ) (t m' v' : ℕ) (l' : List ℕ) (t' : ℕ) → Flown x i m v l (P.sender i) t → Flown x i m' v' l' (P.sender i) t' → v ≡ v'

-- q decides
pub record Ends (P : Plan) (i : ℕ) (x y : State) (q : ℕ) : Type 0 where
  pub shut : y.bag q i ≡ closed (verdict (x.bag q i))
  pub seat : Seat P q
  pub was : x.turned q ≡ false
  pub late : Late P i x

-- a step in which nobody gains a value of the item
pub record Pass (P : Plan) (i : ℕ) (x y : State) : Type 0 where
  pub later : x.now ≤ y.now
  pub honest : (q : ℕ) → y.turned q ≡ false → x.turned q ≡ false
  pub on_time : (m v : ℕ) (l : List ℕ) (a t q : ℕ) → Flown x i m v l a t → y.turned a ≡ false → y.turned q ≡ false → y.way m q ≡ true → y.now < t + P.d
  pub up : (a v : ℕ) (l : List ℕ) → x.sealed a i v l ≡ true → y.sealed a i v l ≡ true
  pub down : (a v : ℕ) (l : List ℕ) → y.turned a ≡ false → y.sealed a i v l ≡ true → x.sealed a i v l ≡ true
  pub fwd : (m v : ℕ) (l : List ℕ) (a t : ℕ) → Flown x i m v l a t → Flown y i m v l a t
  pub bwd : (m v : ℕ) (l : List ℕ) (a t : ℕ) → Flown y i m v l a t → Flown x i m v l a t
  pub ways : (m v : ℕ) (l : List ℕ) (a t q : ℕ) → Flown x i m v l a t → y.way m q ≡ true → x.way m q ≡ true
  pub lost : (m v : ℕ) (l : List ℕ) (a t q : ℕ) → Flown x i m v l a t → y.turned a ≡ false → y.turned q ≡ false → Seat P q → x.way m q ≡ true → (y.way m q ≡ true) ⊎ Covered P (x.bag q i) v
  pub bags : (q : ℕ) → (y.bag q i ≡ x.bag q i) ⊎ Ends P i x y q

-- the new flight of a Gain: number m, value w, links h, author a, time t
pub record New (P : Plan) (i : ℕ) (x y : State) (p v m w : ℕ) (h : List ℕ) (a t : ℕ) : Type 0 where
  pub value : w ≡ v
  pub author : a ≡ p
  pub time : t ≡ x.now
  pub law : Lawful P y i w h a t
  pub sealers : Chain x i w h
  pub goals : (q : ℕ) → Seat P q → NotIn q (a ∷ h) → y.way m q ≡ true
  pub no_more : (q : ℕ) → y.way m q ≡ true → Seat P q × NotIn q (a ∷ h)

-- a step in which the correct processor p gains v
pub record Gain (P : Plan) (i : ℕ) (x y : State) (p v : ℕ) : Type 0 where
  pub clock : y.now ≡ x.now
  pub turns : SameTurned x y
  pub correct : x.turned p ≡ false
  pub admits : P.admitted v ≡ true
  pub joins : fresh P (x.bag p i) v ≡ true
  pub here : y.bag p i ≡ put (x.bag p i) v
  pub there : (q : ℕ) → ¬ (q ≡ p) → y.bag q i ≡ x.bag q i
  pub up : (a w : ℕ) (h : List ℕ) → x.sealed a i w h ≡ true → y.sealed a i w h ≡ true
  pub down : (a w : ℕ) (h : List ℕ) → y.sealed a i w h ≡ true → (x.sealed a i w h ≡ true) ⊎ ((m : ℕ) × (t : ℕ) × Flown y i m w h a t)
  pub fwd : (m w : ℕ) (h : List ℕ) (a t : ℕ) → Flown x i m w h a t → Flown y i m w h a t
  pub bwd : (m w : ℕ) (h : List ℕ) (a t : ℕ) → Flown y i m w h a t → Flown x i m w h a t ⊎ New P i x y p v m w h a t
  pub ways : (m q : ℕ) → m < x.count → y.way m q ≡ x.way m q
  pub backed : Backed P y i p v
  pub solo : p ≡ P.sender i → (m w : ℕ) (h : List ℕ) (t : ℕ) → Flown x i m w h (P.sender i) t → ⊥
  pub soon : ¬ (Late P i x)

backed_up : (P : Plan) (x y : State) (i q v : ℕ) → ((a : ℕ) (h : List ℕ) → x.sealed a i v h ≡ true → y.sealed a i v h ≡ true) → ((m : ℕ) (l : List ℕ) (t : ℕ) → Flown x i m v l q t → Flown y i m v l q t) → Backed P x i q v → Backed P y i q v
backed_up P x y i q v u f (relayed m l t h) = relayed m l t (f m l t h)
backed_up P x y i q v u f (ended l k d s o c b) = ended l k d s o (chain_up x y i v l u c) b

module _ (P : Plan) (i : ℕ) (x y : State) (I : Inv P i x) where
  module _ (s : Pass P i x y) where
    aged : (B : Bag → Type 0) (q : ℕ) → B (x.bag q i) → ((r : Verdict) → B (closed r)) → B (y.bag q i)
    aged B q h k = go (s.bags q)
      where
        go : (y.bag q i ≡ x.bag q i) ⊎ Ends P i x y q → B (y.bag q i)
        go (inl e) = subst B (sym e) h
        go (inr e) = subst B (sym e.shut) (k (verdict (x.bag q i)))

    pass_cover : (m v : ℕ) (l : List ℕ) (a t q : ℕ) → Flown y i m v l a t → y.turned a ≡ false → y.turned q ≡ false → Seat P q → (y.way m q ≡ true) ⊎ Covered P (y.bag q i) v
    pass_cover m v l a t q φ ca cq sq = go (I.cover m v l a t q ψ (s.honest a ca) (s.honest q cq) sq)
      where
        ψ : Flown x i m v l a t
        ψ = s.bwd m v l a t φ

        now_covered : Covered P (x.bag q i) v → Covered P (y.bag q i) v
        now_covered h = aged (λ b. Covered P b v) q h (λ r. tt)

        on : (y.way m q ≡ true) ⊎ Covered P (x.bag q i) v → (y.way m q ≡ true) ⊎ Covered P (y.bag q i) v
        on (inl h) = inl h
        on (inr h) = inr (now_covered h)

        go : (x.way m q ≡ true) ⊎ Covered P (x.bag q i) v → (y.way m q ≡ true) ⊎ Covered P (y.bag q i) v
        go (inl w) = on (s.lost m v l a t q ψ ca cq sq w)
        go (inr h) = inr (now_covered h)

    pass_held : (q v : ℕ) → y.turned q ≡ false → Holds (y.bag q i) v → Backed P y i q v
    pass_held q v c h = go (s.bags q)
      where
        go : (y.bag q i ≡ x.bag q i) ⊎ Ends P i x y q → Backed P y i q v
        go (inl e) = backed_up P x y i q v (λ a l. s.up a v l) (λ m l t. s.fwd m v l q t) (I.held q v (s.honest q c) (subst (λ b. Holds b v) e h))
        go (inr e) = absurd (subst (λ b. Holds b v) e.shut h)

    pass_late : (q : ℕ) (r : Verdict) → y.bag q i ≡ closed r → Seat P q × Late P i y
    pass_late q r h = go (s.bags q)
      where
        go : (y.bag q i ≡ x.bag q i) ⊎ Ends P i x y q → Seat P q × Late P i y
        go (inl e) = let k = I.late q r (sym e ∙ h) in let z = s.later in (k.0, omega arith)
        go (inr e) = let k = e.late in let z = s.later in (e.seat, omega arith)

    pass_lawful : (m v : ℕ) (l : List ℕ) (a t : ℕ) → Flown y i m v l a t → Lawful P y i v l a t
    pass_lawful m v l a t φ =
        let L = I.lawful m v l a t (s.bwd m v l a t φ) in
        let z = s.later in
        record {
          early = L.early;
          soon = L.soon;
          short = L.short;
          past = omega arith;
          listed = L.listed;
          admits = L.admits;
          first = L.first;
          apart = L.apart;
          seats = L.seats;
          genuine = chain_up x y i v (a ∷ l) (λ b h. s.up b v h) L.genuine;
          full = aged NonEmpty a L.full (λ r. tt);
        }

    pub pass_keeps : Inv P i y
    pass_keeps = record {
      lawful = pass_lawful;
      due = λ m v l a t q φ ca cq w. s.on_time m v l a t q (s.bwd m v l a t φ) ca cq w;
      aimed = λ m v l a t q φ w. I.aimed m v l a t q (s.bwd m v l a t φ) (s.ways m v l a t q (s.bwd m v l a t φ) w);
      cover = pass_cover;
      sign = λ a v l sa ca h. let k = I.sign a v l sa (s.honest a ca) (s.down a v l ca h) in (k.0, k.1, s.fwd k.0 v l a k.1 k.2);
      held = pass_held;
      sane = λ q. aged (Sane P) q (I.sane q) (λ r. tt);
      late = pass_late;
      lone = λ m v l t m' v' l' t' φ φ'. I.lone m v l t m' v' l' t' (s.bwd m v l (P.sender i) t φ) (s.bwd m' v' l' (P.sender i) t' φ');
    }

  module _ (p v : ℕ) (s : Gain P i x y p v) where
    grown : (B : Bag → Type 0) (q : ℕ) → B (x.bag q i) → ((q ≡ p) → B (put (x.bag p i) v)) → B (y.bag q i)
    grown B q h k = go (ℕ_discrete q p)
      where
        go : Dec (q ≡ p) → B (y.bag q i)
        go (yes e) = subst (λ (z : ℕ). B (y.bag z i)) (sym e) (subst B (sym s.here) (k e))
        go (no e) = subst B (sym (s.there q e)) h

    gain_covered : (q u : ℕ) → Covered P (x.bag q i) u → Covered P (y.bag q i) u
    gain_covered q u h = grown (λ b. Covered P b u) q h (λ e. covered_stays P (x.bag p i) v u (subst (λ (z : ℕ). Covered P (x.bag z i) u) e h))

    gain_lawful : (m w : ℕ) (h : List ℕ) (a t : ℕ) → Flown y i m w h a t → Lawful P y i w h a t
    gain_lawful m w h a t φ = go (s.bwd m w h a t φ)
      where
        go : Flown x i m w h a t ⊎ New P i x y p v m w h a t → Lawful P y i w h a t
        go (inr n) = n.law
        go (inl ψ) =
            let L = I.lawful m w h a t ψ in
            let z = s.clock in
            record {
              early = L.early;
              soon = L.soon;
              short = L.short;
              past = omega arith;
              listed = L.listed;
              admits = L.admits;
              first = L.first;
              apart = L.apart;
              seats = L.seats;
              genuine = chain_up x y i w (a ∷ h) (λ b k. s.up b w k) L.genuine;
              full = grown NonEmpty a L.full (λ e. filled (x.bag p i) v);
            }

    gain_due : (m w : ℕ) (h : List ℕ) (a t q : ℕ) → Flown y i m w h a t → y.turned a ≡ false → y.turned q ≡ false → y.way m q ≡ true → y.now < t + P.d
    gain_due m w h a t q φ ca cq k = go (s.bwd m w h a t φ)
      where
        go : Flown x i m w h a t ⊎ New P i x y p v m w h a t → y.now < t + P.d
        go (inr n) = let z = s.clock in let o = n.time in let b = P.spread in omega arith
        go (inl ψ) = let z = s.clock in let r = I.due m w h a t q ψ (sym (s.turns a) ∙ ca) (sym (s.turns q) ∙ cq) (sym (s.ways m q ψ.0) ∙ k) in omega arith

    gain_aimed : (m w : ℕ) (h : List ℕ) (a t q : ℕ) → Flown y i m w h a t → y.way m q ≡ true → Seat P q × NotIn q (a ∷ h)
    gain_aimed m w h a t q φ k = go (s.bwd m w h a t φ)
      where
        go : Flown x i m w h a t ⊎ New P i x y p v m w h a t → Seat P q × NotIn q (a ∷ h)
        go (inr n) = n.no_more q k
        go (inl ψ) = I.aimed m w h a t q ψ (sym (s.ways m q ψ.0) ∙ k)

    -- a correct processor whom the new flight names has sealed the value, and so is covered
    named : (q w : ℕ) (h : List ℕ) → x.turned q ≡ false → Seat P q → Chain x i w h → In q h → Covered P (x.bag q i) w
    named q w h cq sq c k = go (I.sign q w z.0 sq cq z.1)
      where
        z : (g : List ℕ) × (x.sealed q i w g ≡ true)
        z = chain_in x i w q h c k

        go : (m : ℕ) × (t : ℕ) × Flown x i m w z.0 q t → Covered P (x.bag q i) w
        go r = step (I.cover r.0 w z.0 q r.1 q r.2 cq cq sq)
          where
            step : (x.way r.0 q ≡ true) ⊎ Covered P (x.bag q i) w → Covered P (x.bag q i) w
            step (inl u) = absurd ((I.aimed r.0 w z.0 q r.1 q r.2 u).1.0 refl)
            step (inr u) = u

    gain_cover : (m w : ℕ) (h : List ℕ) (a t q : ℕ) → Flown y i m w h a t → y.turned a ≡ false → y.turned q ≡ false → Seat P q → (y.way m q ≡ true) ⊎ Covered P (y.bag q i) w
    gain_cover m w h a t q φ ca cq sq = go (s.bwd m w h a t φ)
      where
        cq' : x.turned q ≡ false
        cq' = sym (s.turns q) ∙ cq

        old : m < x.count → (x.way m q ≡ true) ⊎ Covered P (x.bag q i) w → (y.way m q ≡ true) ⊎ Covered P (y.bag q i) w
        old b (inl k) = inl (s.ways m q b ∙ k)
        old b (inr k) = inr (gain_covered q w k)

        mine : New P i x y p v m w h a t → q ≡ a → Covered P (y.bag q i) w
        mine n e =
            let g : Covered P (y.bag p i) v = subst (λ b. Covered P b v) (sym s.here) (covered_put P (x.bag p i) v s.admits s.joins) in
            rw (e, n.author, n.value) g

        new : New P i x y p v m w h a t → In q (a ∷ h) ⊎ NotIn q (a ∷ h) → (y.way m q ≡ true) ⊎ Covered P (y.bag q i) w
        new n (inr k) = inl (n.goals q sq k)
        new n (inl (inl e)) = inr (mine n e)
        new n (inl (inr e)) = inr (gain_covered q w (named q w h cq' sq n.sealers e))

        go : Flown x i m w h a t ⊎ New P i x y p v m w h a t → (y.way m q ≡ true) ⊎ Covered P (y.bag q i) w
        go (inl ψ) = old ψ.0 (I.cover m w h a t q ψ (sym (s.turns a) ∙ ca) cq' sq)
        go (inr n) = new n (in_or_not q (a ∷ h))

    gain_sign : (a w : ℕ) (h : List ℕ) → Seat P a → y.turned a ≡ false → y.sealed a i w h ≡ true → (m : ℕ) × (t : ℕ) × Flown y i m w h a t
    gain_sign a w h sa ca k = go (s.down a w h k)
      where
        go : (x.sealed a i w h ≡ true) ⊎ ((m : ℕ) × (t : ℕ) × Flown y i m w h a t) → (m : ℕ) × (t : ℕ) × Flown y i m w h a t
        go (inr n) = n
        go (inl o) = let r = I.sign a w h sa (sym (s.turns a) ∙ ca) o in (r.0, r.1, s.fwd r.0 w h a r.1 r.2)

    gain_held : (q u : ℕ) → y.turned q ≡ false → Holds (y.bag q i) u → Backed P y i q u
    gain_held q u c h = go (ℕ_discrete q p)
      where
        c' : x.turned q ≡ false
        c' = sym (s.turns q) ∙ c

        old : Holds (x.bag q i) u → Backed P y i q u
        old k = backed_up P x y i q u (λ a l. s.up a u l) (λ m l t. s.fwd m u l q t) (I.held q u c' k)

        own : (q ≡ p) → Holds (x.bag p i) u ⊎ (v ≡ u) → Backed P y i q u
        own e (inl k) = old (subst (λ (z : ℕ). Holds (x.bag z i) u) (sym e) k)
        own e (inr k) = rw (e, ← k) s.backed

        go : Dec (q ≡ p) → Backed P y i q u
        go (yes e) = own e (holds_put P (x.bag p i) v u s.joins (subst (λ b. Holds b u) s.here (subst (λ (z : ℕ). Holds (y.bag z i) u) e h)))
        go (no e) = old (subst (λ b. Holds b u) (s.there q e) h)

    put_open : {A : Type 0} (b : Bag) (r : Verdict) → fresh P b v ≡ true → put b v ≡ closed r → A
    put_open empty r f e = absurd (cc)
    put_open (one w) r f e = absurd (cc)
    put_open (two w u) r f e = absurd (false≢true f)
    put_open (closed k) r f e = absurd (false≢true f)

    gain_late : (q : ℕ) (r : Verdict) → y.bag q i ≡ closed r → Seat P q × Late P i y
    gain_late q r h = go (ℕ_discrete q p)
      where
        go : Dec (q ≡ p) → Seat P q × Late P i y
        go (yes e) = put_open (x.bag p i) r s.joins (sym s.here ∙ ap (λ (z : ℕ). y.bag z i) (sym e) ∙ h)
        go (no e) = let k = I.late q r (sym (s.there q e) ∙ h) in let z = s.clock in (k.0, omega arith)

    gain_lone : (m w : ℕ) (h : List ℕ) (t m' w' : ℕ) (h' : List ℕ) (t' : ℕ) → Flown y i m w h (P.sender i) t → Flown y i m' w' h' (P.sender i) t' → w ≡ w'
    gain_lone m w h t m' w' h' t' φ φ' = go (s.bwd m w h (P.sender i) t φ) (s.bwd m' w' h' (P.sender i) t' φ')
      where
        go : Flown x i m w h (P.sender i) t ⊎ New P i x y p v m w h (P.sender i) t → Flown x i m' w' h' (P.sender i) t' ⊎ New P i x y p v m' w' h' (P.sender i) t' → w ≡ w'
        go (inl a) (inl b) = I.lone m w h t m' w' h' t' a b
        go (inl a) (inr n) = absurd (s.solo (sym n.author) m w h t a)
        go (inr n) (inl b) = absurd (s.solo (sym n.author) m' w' h' t' b)
        go (inr n) (inr k) = n.value ∙ sym k.value

    pub gain_keeps : Inv P i y
    gain_keeps = record {
      lawful = gain_lawful;
      due = gain_due;
      aimed = gain_aimed;
      cover = gain_cover;
      sign = gain_sign;
      held = gain_held;
      sane = λ q. grown (Sane P) q (I.sane q) (λ e. sane_put P (x.bag p i) v s.admits s.joins (I.sane p));
      late = gain_late;
      lone = gain_lone;
    }
