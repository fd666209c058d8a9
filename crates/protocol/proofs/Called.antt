-- From moves to calls.
use Rattle.std.proofs.Common.{◌≡◌, ℕ, eqb, List, [], sym, refl, ap, ◌∙◌, arith}
use native.Mathlib.Decide.{ℕ_discrete}
use Rattle.std.proofs.lemmas.Bool.{eq-eqb}
use Rattle.protocol.specs.Model.{Plan, State, Bag, Verdict, empty, one, two, closed, author_of, put}
use Rattle.protocol.specs.Moves.{SameTurned, Takes, Broadcasts, turns, opens, relays, Runs, stay, more}
use Rattle.protocol.specs.Calls.{Inside, rest, further, Call, opening, turning, inside, Calls, begin, next}
use Rattle.protocol.specs.Agreement.{Reached, Made, Decided, Agreed, Valid, Sparing, Roomy, Room, Spacious, Standing, Closing, Agreement}
use Rattle.protocol.proofs.Theorem.{good_reached, agreed_moves, lasting, stays_run}
use Rattle.protocol.proofs.Counts.{bit, one_more, sparing_moves, roomy_moves}
use Rattle.protocol.proofs.Effects.{after_send, can_open, can_relay}
use Rattle.protocol.proofs.Traces.{SameOpened, inside_turned, inside_opened}

join : (P : Plan) (x y z : State) → Runs P x y → Runs P y z → Runs P x z
join P x y z r stay = r
join P x y z r (more {y = w} s m) = more (join P x y w r s) m

inside_runs : (P : Plan) (x z : State) → Inside P x z → Runs P x z
inside_runs P x z rest = stay
inside_runs P x z (further {y = y} r m k) = more (inside_runs P x y r) m

call_runs : (P : Plan) (x y : State) → Call P x y → Runs P x y
call_runs P x y (opening p i v s) = more stay (opens p i v s)
call_runs P x y (turning p s) = more stay (turns p s)
call_runs P x y (inside r) = inside_runs P x y r

calls_runs : (P : Plan) (x z : State) → Calls P x z → Runs P x z
calls_runs P x z begin = stay
calls_runs P x z (next {y = y} r c) = join P x y z (calls_runs P x y r) (call_runs P y z c)

pub made_reached : (P : Plan) (z : State) → Made P z → Reached P z
made_reached P z h = (h.0, h.1, calls_runs P h.0 z h.2)

pub made_next : (P : Plan) (x y : State) → Made P x → Call P x y → Made P y
made_next P x y h c = (h.0, h.1, next h.2 c)

pub agreed : Agreed
agreed P z h = agreed_moves P z (made_reached P z h)

put_closed : (b : Bag) (v : ℕ) (r : Verdict) → put b v ≡ closed r → b ≡ closed r
put_closed empty v r e = cc
put_closed (one w) v r e = cc
put_closed (two w u) v r e = cc
put_closed (closed s) v r e = e

-- a move that takes a value decides nothing
takes_none : (p j v i q : ℕ) (r : Verdict) (x y : State) → Takes p j v x y → Decided y q i r → Decided x q i r
takes_none p j v i q r x y t h = go (ℕ_discrete i j) (ℕ_discrete q p)
  where
    go : Dec (i ≡ j) → Dec (q ≡ p) → Decided x q i r
    go (no e) k = sym (t.other.1 q i e) ∙ h
    go (yes e) (no k) = sym (t.other.0 q i k) ∙ h
    go (yes e) (yes k) =
        let g : y.bag p j ≡ closed r = rw (e, k) at h in
        let f = put_closed (x.bag p j) v r (sym t.here ∙ g) in
        rw (e, k) f

-- in the call that first decides an item nobody turns, and nothing is opened
first_decides : (P : Plan) (i p : ℕ) (r : Verdict) (x y : State) → ((h : ℕ) (u : Verdict) → ¬ (Decided x h i u)) → Decided y p i r → Call P x y → SameTurned x y × SameOpened P x y
first_decides P i p r x y n h (opening q j v s) = absurd (n p r (takes_none q j v i p r x y s.takes h))
first_decides P i p r x y n h (turning q s) = absurd (n p r (sym (s.bags p i) ∙ h))
first_decides P i p r x y n h (inside c) = (inside_turned P x y c, inside_opened P x y c)

pub valid : Valid
valid P x y z h c run i p q r s n dy cs dz =
    let k = first_decides P i p r x y n dy c in
    let a = lasting P y z (made_reached P y (made_next P x y h c)) (calls_runs P y z run) i p q r s dy (k.0 (P.sender i) ∙ cs) dz in
    (λ v o. a.0 v (k.1.on i v o), λ m. a.1 (λ v o. m v (k.1.back i v o)))

pub sparing : Sparing
sparing P z h = sparing_moves P z (made_reached P z h)

pub roomy : Roomy
roomy P z h = roomy_moves P z (made_reached P z h)

-- what holds after a broadcast leaves room before it
room_before : (P : Plan) (p i v : ℕ) (l : List ℕ) (x y : State) → Broadcasts P p i v l x y → Made P y → Room P x p
room_before P p i v l x y s h =
    let r = roomy P y h in
    let a = r.0 in
    let b = r.1 p in
    let n = s.number in
    let m = one_more P p i v l x y s (λ φ. eqb (author_of φ) p) in
    let e : bit (eqb p p) ≡ 1 = ap bit (eq-eqb p p refl) in
    (omega arith, omega arith)

pub spacious : Spacious
spacious = record {
  openings = λ P x h p i v c li s r b a.
      let o = can_open P x p i v c li s r b a in
      room_before P p i v [] x (after_send P p i v [] x) o.sends (made_next P x (after_send P p i v [] x) h (opening p i v o));
  relays = λ P x h p i v l s c a f.
      let o = can_relay P x p i v l s c a f in
      room_before P p i v l x (after_send P p i v l x) o.sends (made_next P x (after_send P p i v l x) h (inside (further rest (relays p i v l o) tt)));
}

pub standing : Standing
standing P y z h c p i r d = (stays_run P i y z (good_reached P i y (made_reached P y h)) (calls_runs P y z c)).0 p r d

pub closing : Closing
closing P y z h f c p i sp li cp =
    let k = stays_run P i y z (good_reached P i y (made_reached P y h)) (calls_runs P y z c) in
    let d = f p i sp li (k.1 p cp) in
    (d.0, k.0 p d.0 d.1)

pub agreement : Agreement
agreement = record { agreed = agreed; valid = valid; sparing = sparing; spacious = spacious; standing = standing; closing = closing }
