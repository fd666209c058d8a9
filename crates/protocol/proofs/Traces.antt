-- What a call leaves of who has turned and what was opened; and that a value once taken is not taken again.
use Rattle.std.proofs.Common.{◌≡◌, ℕ, ◌<◌, ◌≤◌, ◌⊎◌, List, [], sym, refl, ap, ◌∙◌, subst, inl, inr, ⊎_elim, arith}
use native.Mathlib.Decide.{dec_lt}
use Rattle.protocol.specs.Model.{Plan, State, fly, Began, fresh, put, Acceptable}
use Rattle.protocol.specs.Moves.{SameTurned, OldFlights, Turns, Takes, Broadcasts, Opens, Relays, Move, ticks, sets, turns, forges, opens, relays, keeps, drops, decides}
use Rattle.protocol.specs.Calls.{Quiet, Inside, rest, further}
use Rattle.protocol.specs.Agreement.{Opened}
use Rattle.protocol.proofs.Words.{covered_put, covered_old}

pub record SameOpened (P : Plan) (x y : State) : Type 0 where
  pub on : (i v : ℕ) → Opened P x i v → Opened P y i v
  pub back : (i v : ℕ) → Opened P y i v → Opened P x i v

opened_on : (P : Plan) (x y : State) → x.count ≤ y.count → OldFlights x y → (i v : ℕ) → Opened P x i v → Opened P y i v
opened_on P x y n f i v o = (o.0, o.1, (let b = o.2 in omega arith), f o.0 o.2 ∙ o.3)

same_flights : (P : Plan) (x y : State) → y.count ≡ x.count → OldFlights x y → SameOpened P x y
same_flights P x y n f = record {
  on = opened_on P x y (omega arith) f;
  back = λ i v o. let b : o.0 < x.count = (let k = o.2 in omega arith) in (o.0, o.1, b, sym (f o.0 b) ∙ o.3);
}

-- what is opened after a broadcast was so before, or the broadcast opens it
sent_back : (P : Plan) (p i v : ℕ) (l : List ℕ) (x y : State) → Broadcasts P p i v l x y → (j w : ℕ) → Opened P y j w → Opened P x j w ⊎ ((j ≡ i) × (w ≡ v) × (l ≡ []))
sent_back P p i v l x y s j w o = go (dec_lt o.0 x.count)
  where
    go : Dec (o.0 < x.count) → Opened P x j w ⊎ ((j ≡ i) × (w ≡ v) × (l ≡ []))
    go (yes b) = inl (o.0, o.1, b, sym (s.flights o.0 b) ∙ o.3)
    go (no b) =
        let e : o.0 ≡ x.count = (let k = o.2 in let n = s.number in omega arith) in
        let f : fly j w [] (P.sender j) o.1 ≡ fly i v l p x.now = sym o.3 ∙ ap y.flight e ∙ s.new in
        inr (cc, cc, cc)

relays_opened : (P : Plan) (p i v : ℕ) (l : List ℕ) (x y : State) → Relays P p i v l x y → SameOpened P x y
relays_opened P p i v l x y s = record {
  on = opened_on P x y (let n = s.sends.number in omega arith) s.sends.flights;
  back = λ j w o. ⊎_elim (λ h. h) (λ e. absurd (subst (Began (P.sender i)) e.2 s.passes.first)) (sent_back P p i v l x y s.sends j w o);
}

quiet_opened : (P : Plan) (x y : State) (m : Move P x y) → Quiet m → SameOpened P x y
quiet_opened P x y (ticks k s) h = same_flights P x y s.number s.flights
quiet_opened P x y (sets p o s) h = same_flights P x y s.number s.flights
quiet_opened P x y (turns p s) h = absurd h
quiet_opened P x y (forges p s) h = same_flights P x y s.number s.flights
quiet_opened P x y (opens p i v s) h = absurd h
quiet_opened P x y (relays p i v l s) h = relays_opened P p i v l x y s
quiet_opened P x y (keeps p i v l s) h = same_flights P x y s.number s.flights
quiet_opened P x y (drops m p s) h = same_flights P x y s.number s.flights
quiet_opened P x y (decides p i s) h = same_flights P x y s.number s.flights

quiet_turned : (P : Plan) (x y : State) (m : Move P x y) → Quiet m → SameTurned x y
quiet_turned P x y (ticks k s) h = s.turns
quiet_turned P x y (sets p o s) h = s.turns
quiet_turned P x y (turns p s) h = absurd h
quiet_turned P x y (forges p s) h = s.turns
quiet_turned P x y (opens p i v s) h = absurd h
quiet_turned P x y (relays p i v l s) h = s.calm.turns
quiet_turned P x y (keeps p i v l s) h = s.calm.turns
quiet_turned P x y (drops m p s) h = s.calm.turns
quiet_turned P x y (decides p i s) h = s.calm.turns

pub inside_opened : (P : Plan) (x z : State) → Inside P x z → SameOpened P x z
inside_opened P x z rest = record { on = λ i v o. o; back = λ i v o. o }
inside_opened P x z (further {y = y} r m k) =
    let a = inside_opened P x y r in
    let b = quiet_opened P y z m k in
    record { on = λ i v o. b.on i v (a.on i v o); back = λ i v o. a.back i v (b.back i v o) }

pub inside_turned : (P : Plan) (x z : State) → Inside P x z → SameTurned x z
inside_turned P x z rest q = refl
inside_turned P x z (further {y = y} r m k) q = quiet_turned P y z m k q ∙ inside_turned P x y r q

pub turns_opened : (P : Plan) (p : ℕ) (x y : State) → Turns P p x y → SameOpened P x y
turns_opened P p x y s = same_flights P x y s.number s.flights

module _ (P : Plan) (p i v : ℕ) (x y : State) (s : Opens P p i v x y) where
  pub opens_turned : SameTurned x y
  opens_turned = s.calm.turns

  pub opens_here : Opened P y i v
  opens_here = (x.count, x.now, (let n = s.sends.number in omega arith), s.sends.new ∙ ap (λ (a : ℕ). fly i v [] a x.now) s.is_sender)

  pub opens_on : (j w : ℕ) → Opened P x j w → Opened P y j w
  opens_on = opened_on P x y (let n = s.sends.number in omega arith) s.sends.flights

  pub opens_only : (j w : ℕ) → Opened P y j w → Opened P x j w ⊎ ((j ≡ i) × (w ≡ v))
  opens_only j w o = ⊎_elim (λ h. inl h) (λ h. inr (h.0, h.1)) (sent_back P p i v [] x y s.sends j w o)

-- where p has taken v, no frame with v passes
pub stale : (P : Plan) (p i v : ℕ) (l h : List ℕ) (x y : State) → Takes p i v x y → Acceptable P x p i v l → Acceptable P y p i v h → ⊥
stale P p i v l h x y t A B = covered_old P (put (x.bag p i) v) v (covered_put P (x.bag p i) v A.admits A.joins) (ap (λ b. fresh P b v) (sym t.here) ∙ B.joins)
