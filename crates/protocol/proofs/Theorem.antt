-- Agreement, of every run.
use Rattle.std.proofs.lemmas.Bool.{false≢true, true≢false, both_ways, false_from_ne_true}
use Rattle.std.proofs.Common.{◌≡◌, ℕ, ◌+◌, ◌*◌, true, false, ◌⊎◌, [], ◌∷◌, sym, refl, ap, ◌∙◌, inl, inr, arith}
use native.Mathlib.Decide.{ℕ_discrete, dec_le}
use Rattle.protocol.specs.Model.{Plan, State, Bag, Verdict, empty, one, two, closed, default, chosen, Seat, fresh, verdict, is_closed, Agree}
use Rattle.protocol.specs.Moves.{Move, Start, Runs, stay, more}
use Rattle.protocol.specs.Agreement.{Reached, Decided, Opened, Faithful}
use Rattle.protocol.proofs.Words.{Holds, Covered, Sane, chain_first, alike}
use Rattle.protocol.proofs.Invariants.{Ground, Late, Backed, relayed, ended, Inv, Ends, Pass, Gain, pass_keeps, gain_keeps}
use Rattle.protocol.proofs.Steps.{ground_step, ground_start, inv_start, reach, reach_many, kind}

-- p has decided, or is correct and can
abbrev Stands : State → ℕ → ℕ → Type 0
Stands x i p = (x.turned p ≡ false) ⊎ ((r : Verdict) × (x.bag p i ≡ closed r))

pub record Good (P : Plan) (i : ℕ) (x : State) : Type 0 where
  pub ground : Ground P x
  pub inv : Inv P i x
  pub agree : Late P i x → (p q : ℕ) → Seat P p → Seat P q → Stands x i p → Stands x i q → Agree P (verdict (x.bag p i)) (verdict (x.bag q i))
  pub valid : Late P i x → x.turned (P.sender i) ≡ false → (p : ℕ) → Seat P p → Stands x i p → Faithful P x i (verdict (x.bag p i))

closed_is : (b : Bag) → is_closed b ≡ true → (r : Verdict) × (b ≡ closed r)
closed_is empty h = absurd (false≢true h)
closed_is (one v) h = absurd (false≢true h)
closed_is (two v w) h = absurd (false≢true h)
closed_is (closed r) h = (r, refl)

-- a bag that holds nothing but v, and need not gain it
just : (P : Plan) (b : Bag) (v : ℕ) → is_closed b ≡ false → Sane P b → Covered P b v → ((u : ℕ) → Holds b u → u ≡ v) → verdict b ≡ chosen v
just P empty v k s c h = absurd c
just P (one w) v k s c h = ap chosen (h w refl)
just P (two w u) v k s c h =
    let a = h w (inl refl) in
    let b = h u (inr refl) in
    let r = P.same_refl w s.0 in
    absurd (both_ways (P.same w u) s.2 (ap (λ (z : ℕ). P.same w z) (b ∙ sym a) ∙ r))
just P (closed r) v k s c h = absurd (true≢false k)

nothing : (b : Bag) → is_closed b ≡ false → ((u : ℕ) → Holds b u → ⊥) → verdict b ≡ default
nothing empty k h = refl
nothing (one w) k h = absurd (h w refl)
nothing (two w u) k h = absurd (h w (inl refl))
nothing (closed r) k h = absurd (true≢false k)

module _ (P : Plan) (i : ℕ) (x : State) (g : Ground P x) (I : Inv P i x) (late : Late P i x) where
  -- what one correct processor holds has come to every other
  share : (p q v : ℕ) → x.turned p ≡ false → x.turned q ≡ false → Seat P q → Holds (x.bag p i) v → Covered P (x.bag q i) v
  share p q v cp cq sq h = go (I.held p v cp h)
    where
      go : Backed P x i p v → Covered P (x.bag q i) v
      go (relayed m l t φ) = reach P i x g I m v l p t q late φ cp cq sq
      go (ended l k d s o c b) = reach_many P i x g I l v q late k d s c cq sq

  meet : (p q : ℕ) → x.turned p ≡ false → x.turned q ≡ false → Seat P p → Seat P q → is_closed (x.bag p i) ≡ false → is_closed (x.bag q i) ≡ false → Agree P (verdict (x.bag p i)) (verdict (x.bag q i))
  meet p q cp cq sp sq op oq = alike P (x.bag p i) (x.bag q i) op oq (I.sane p) (I.sane q) (λ v. share p q v cp cq sq) (λ v. share q p v cq cp sp)

  sender_seat : Seat P (P.sender i)
  sender_seat = (P.sender_low i, P.sender_high i)

  -- while the sender is correct, whatever is held it has opened
  from_sender : (p v : ℕ) → x.turned (P.sender i) ≡ false → x.turned p ≡ false → Holds (x.bag p i) v → Opened P x i v
  from_sender p v cs cp h = opened (first (I.held p v cp h))
    where
      first : Backed P x i p v → x.sealed (P.sender i) i v [] ≡ true
      first (relayed m l t φ) = let L = I.lawful m v l p t φ in chain_first x i v (P.sender i) (p ∷ l) L.genuine L.first
      first (ended l k d s o c b) = chain_first x i v (P.sender i) l c b

      opened : x.sealed (P.sender i) i v [] ≡ true → Opened P x i v
      opened k = let z = I.sign (P.sender i) v [] sender_seat cs k in (z.0, z.1, z.2.0, z.2.1)

  one_opened : (u v : ℕ) → Opened P x i u → Opened P x i v → u ≡ v
  one_opened u v a b = I.lone a.0 u [] a.1 b.0 v [] b.1 (a.2, a.3) (b.2, b.3)

  fits : (p : ℕ) → x.turned (P.sender i) ≡ false → x.turned p ≡ false → Seat P p → is_closed (x.bag p i) ≡ false → Faithful P x i (verdict (x.bag p i))
  fits p cs cp sp op = (
    λ v o. just P (x.bag p i) v op (I.sane p) (reach P i x g I o.0 v [] (P.sender i) o.1 p late (o.2, o.3) cs cp sp) (λ u h. one_opened u v (from_sender p u cs cp h) o),
    λ n. nothing (x.bag p i) op (λ u h. n u (from_sender p u cs cp h)),
  )

-- once decisions may stand, what stands has stood, with the same verdict
persist : (P : Plan) (i : ℕ) (x y : State) → Late P i x → Pass P i x y → (p : ℕ) → Stands y i p → Stands x i p × (verdict (y.bag p i) ≡ verdict (x.bag p i))
persist P i x y late s p h = go (s.bags p) h
  where
    go : (y.bag p i ≡ x.bag p i) ⊎ Ends P i x y p → Stands y i p → Stands x i p × (verdict (y.bag p i) ≡ verdict (x.bag p i))
    go (inl e) (inl c) = (inl (s.honest p c), ap verdict e)
    go (inl e) (inr c) = (inr (c.0, sym e ∙ c.1), ap verdict e)
    go (inr e) c = (inl e.was, ap verdict e.shut)

opened_back : (P : Plan) (i : ℕ) (x y : State) → Pass P i x y → (v : ℕ) → Opened P y i v → Opened P x i v
opened_back P i x y s v o = let z = s.bwd o.0 v [] (P.sender i) o.1 (o.2, o.3) in (o.0, o.1, z.0, z.1)

opened_on : (P : Plan) (i : ℕ) (x y : State) → Pass P i x y → (v : ℕ) → Opened P x i v → Opened P y i v
opened_on P i x y s v o = let z = s.fwd o.0 v [] (P.sender i) o.1 (o.2, o.3) in (o.0, o.1, z.0, z.1)

module _ (P : Plan) (i : ℕ) (x y : State) (G : Good P i x) where
  -- the state at which decisions begin to be possible: none stands yet
  module _ (g : Ground P y) (I : Inv P i y) (early : ¬ (Late P i x)) (late : Late P i y) (s : Pass P i x y) where
    unclosed : (p : ℕ) → is_closed (y.bag p i) ≡ false
    unclosed p = false_from_ne_true (is_closed (y.bag p i)) (λ h. go (s.bags p) (closed_is (y.bag p i) h))
      where
        go : (y.bag p i ≡ x.bag p i) ⊎ Ends P i x y p → (r : Verdict) × (y.bag p i ≡ closed r) → ⊥
        go (inl e) r = early (G.inv.late p r.0 (sym e ∙ r.1)).1
        go (inr e) r = early e.late

    standing : (p : ℕ) → Stands y i p → y.turned p ≡ false
    standing p (inl c) = c
    standing p (inr c) = absurd (true≢false (sym (ap is_closed c.1) ∙ unclosed p))

    dawn : Good P i y
    dawn = record {
      ground = g;
      inv = I;
      agree = λ l p q sp sq hp hq. meet P i y g I late p q (standing p hp) (standing q hq) sp sq (unclosed p) (unclosed q);
      valid = λ l cs p sp hp. fits P i y g I late p cs (standing p hp) sp (unclosed p);
    }

  module _ (g : Ground P y) (I : Inv P i y) (late : Late P i x) (s : Pass P i x y) where
    day : Good P i y
    day = record {
      ground = g;
      inv = I;
      agree = λ l p q sp sq hp hq.
          let a = persist P i x y late s p hp in
          let b = persist P i x y late s q hq in
          rw (a.1, b.1) (G.agree late p q sp sq a.0 b.0);
      valid = λ l cs p sp hp.
          let a = persist P i x y late s p hp in
          let k = G.valid late (s.honest (P.sender i) cs) p sp a.0 in
          (λ v o. a.1 ∙ k.0 v (opened_back P i x y s v o), λ n. a.1 ∙ k.1 (λ v o. n v (opened_on P i x y s v o)));
    }

  module _ (g : Ground P y) (I : Inv P i y) (early : ¬ (Late P i y)) where
    night : Good P i y
    night = record {
      ground = g;
      inv = I;
      agree = λ l. absurd (early l);
      valid = λ l. absurd (early l);
    }

  good_step : Move P x y → Good P i y
  good_step m = go (kind P i x G.ground G.inv y m) (dec_le (P.moment i + P.f * (P.d + P.e) + P.d) x.now) (dec_le (P.moment i + P.f * (P.d + P.e) + P.d) y.now)
    where
      g : Ground P y
      g = ground_step P x y G.ground m

      go : Pass P i x y ⊎ ((p : ℕ) × (v : ℕ) × Gain P i x y p v) → Dec (Late P i x) → Dec (Late P i y) → Good P i y
      go (inl s) (yes k) h = day g (pass_keeps P i x y G.inv s) k s
      go (inl s) (no k) (yes h) = dawn g (pass_keeps P i x y G.inv s) k h s
      go (inl s) (no k) (no h) = night g (pass_keeps P i x y G.inv s) h
      go (inr s) (yes k) h = absurd (s.2.soon k)
      go (inr s) (no k) h = night g (gain_keeps P i x y G.inv s.0 s.1 s.2) (λ l. k (let c = s.2.clock in omega arith))

good_start : (P : Plan) (i : ℕ) (x : State) → Start P x → Good P i x
good_start P i x s = record {
  ground = ground_start P x s;
  inv = inv_start P i x s;
  agree = λ l. absurd (early l);
  valid = λ l. absurd (early l);
}
  where
    early : Late P i x → ⊥
    early l = let c = s.clock in let b = P.spread in omega arith

good_run : (P : Plan) (i : ℕ) (x z : State) → Good P i x → Runs P x z → Good P i z
good_run P i x z G stay = G
good_run P i x z G (more {y = y} r m) = good_step P i y z (good_run P i x y G r) m

pub good_reached : (P : Plan) (i : ℕ) (z : State) → Reached P z → Good P i z
good_reached P i z h = good_run P i h.0 z (good_start P i h.0 h.1) h.2

-- what stands at the end of a run stood at its beginning, if decisions could
stood : (P : Plan) (i : ℕ) (x z : State) → Good P i x → Late P i x → Runs P x z → Late P i z × ((p : ℕ) → Stands z i p → Stands x i p × (verdict (z.bag p i) ≡ verdict (x.bag p i)))
stood P i x z G late stay = (late, λ p h. (h, refl))
stood P i x z G late (more {y = y} r m) = go (good_run P i x y G r) (stood P i x y G late r)
  where
    go : Good P i y → Late P i y × ((p : ℕ) → Stands y i p → Stands x i p × (verdict (y.bag p i) ≡ verdict (x.bag p i))) → Late P i z × ((p : ℕ) → Stands z i p → Stands x i p × (verdict (z.bag p i) ≡ verdict (x.bag p i)))
    go H k = step (kind P i y H.ground H.inv z m)
      where
        back : Pass P i y z → (p : ℕ) → Stands z i p → Stands x i p × (verdict (z.bag p i) ≡ verdict (x.bag p i))
        back s p h = let a = persist P i y z k.0 s p h in let b = k.1 p a.0 in (b.0, a.1 ∙ b.1)

        step : Pass P i y z ⊎ ((p : ℕ) × (v : ℕ) × Gain P i y z p v) → Late P i z × ((p : ℕ) → Stands z i p → Stands x i p × (verdict (z.bag p i) ≡ verdict (x.bag p i)))
        step (inl s) = (let a = s.later in let b = k.0 in omega arith, back s)
        step (inr s) = absurd (s.2.soon k.0)

pub agreed_moves : (P : Plan) (z : State) → Reached P z → (i p q : ℕ) (r s : Verdict) → Decided z p i r → Decided z q i s → Agree P r s
agreed_moves P z h i p q r s dp dq =
    let G = good_reached P i z h in
    let kp = G.inv.late p r dp in
    let kq = G.inv.late q s dq in
    let a = G.agree kp.1 p q kp.0 kq.0 (inr (r, dp)) (inr (s, dq)) in
    rw (dp, dq) at a

-- where an item has a decision in y and its sender has not turned in y, each decision ever after is as the sender would have it
pub lasting : (P : Plan) (y z : State) → Reached P y → Runs P y z → (i p q : ℕ) (r s : Verdict) → Decided y p i r → y.turned (P.sender i) ≡ false → Decided z q i s → Faithful P y i s
lasting P y z h run i p q r s dp cs dq =
    let G = good_reached P i y h in
    let H = good_run P i y z G run in
    let kp = G.inv.late p r dp in
    let kq = H.inv.late q s dq in
    let a = (stood P i y z G kp.1 run).1 q (inr (s, dq)) in
    let e : s ≡ verdict (y.bag q i) = sym (ap verdict dq) ∙ a.1 in
    let k = G.valid kp.1 cs q kq.0 a.0 in
    (λ v o. e ∙ k.0 v o, λ n. e ∙ k.1 n)

-- a closed bag stays closed, and who is correct was so
stays : (P : Plan) (i : ℕ) (x y : State) → Good P i x → Move P x y → ((p : ℕ) (r : Verdict) → Decided x p i r → Decided y p i r) × ((p : ℕ) → y.turned p ≡ false → x.turned p ≡ false)
stays P i x y G m = go (kind P i x G.ground G.inv y m)
  where
    go : Pass P i x y ⊎ ((p : ℕ) × (v : ℕ) × Gain P i x y p v) → ((p : ℕ) (r : Verdict) → Decided x p i r → Decided y p i r) × ((p : ℕ) → y.turned p ≡ false → x.turned p ≡ false)
    go (inl s) = (λ p r h. aged p r h (s.bags p), s.honest)
      where
        aged : (p : ℕ) (r : Verdict) → Decided x p i r → (y.bag p i ≡ x.bag p i) ⊎ Ends P i x y p → Decided y p i r
        aged p r h (inl e) = e ∙ h
        aged p r h (inr e) = e.shut ∙ ap (λ (b : Bag). closed (verdict b)) h
    go (inr s) = (λ q r h. kept q r h (ℕ_discrete q s.0), λ q h. sym (s.2.turns q) ∙ h)
      where
        kept : (q : ℕ) (r : Verdict) → Decided x q i r → Dec (q ≡ s.0) → Decided y q i r
        kept q r h (no e) = s.2.there q e ∙ h
        kept q r h (yes e) = absurd (false≢true (sym (ap (λ (b : Bag). fresh P b s.1) (ap (λ (z : ℕ). x.bag z i) (sym e) ∙ h)) ∙ s.2.joins))

pub stays_run : (P : Plan) (i : ℕ) (x z : State) → Good P i x → Runs P x z → ((p : ℕ) (r : Verdict) → Decided x p i r → Decided z p i r) × ((p : ℕ) → z.turned p ≡ false → x.turned p ≡ false)
stays_run P i x z G stay = (λ p r h. h, λ p h. h)
stays_run P i x z G (more {y = y} r m) =
    let a = stays_run P i x y G r in
    let b = stays P i y z (good_run P i x y G r) m in
    (λ p s h. b.0 p s (a.0 p s h), λ p h. a.1 p (b.1 p h))
