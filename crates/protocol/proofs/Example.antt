-- The example's run, move by move.
use Rattle.std.proofs.lemmas.Bool.{both_ways}
use Rattle.std.proofs.Common.{◌≡◌, ℕ, ◌+◌, ◌<◌, ◌≤◌, true, false, List, [], ◌∷◌, sym, refl, subst, arith, lit<, lit≤}
use native.Mathlib.Decide.{ℕ_discrete}
use Rattle.protocol.specs.Model.{State, empty, closed, fly, Seat, Listed, fresh, verdict, Acceptable}
use Rattle.protocol.specs.Moves.{Start, Ticks, Opens, Relays, Drops, Decides, ticks, relays, drops, decides}
use Rattle.protocol.specs.Calls.{begin, next, opening, inside, Inside, rest, further}
use Rattle.protocol.specs.Agreement.{Made}
use Rattle.protocol.specs.Example.{plan, Happens}
use Rattle.protocol.proofs.Theorem.{good_reached}
use Rattle.protocol.proofs.Called.{made_reached}
use Rattle.protocol.proofs.Effects.{after_ticks, after_send, after_bag, after_drops, can_tick, can_open, can_relay, can_drop, can_decide}

abbrev s0 : State
s0 = record { now = 0; offset = λ p. 0; turned = λ p. false; faulty = 0; bag = λ p i. empty; sealed = λ a i v l. false; count = 0; flight = λ m. fly 0 0 [] 0 0; way = λ m q. false }

abbrev s1 : State
s1 = after_ticks 100 s0

abbrev s2 : State
s2 = after_send plan 1 1 7 [] s1

abbrev s3 : State
s3 = after_send plan 2 1 7 (1 ∷ []) s2

abbrev s4 : State
s4 = after_drops 0 2 s3

abbrev s5 : State
s5 = after_send plan 3 1 7 (1 ∷ []) s4

abbrev s6 : State
s6 = after_drops 0 3 s5

abbrev s7 : State
s7 = after_drops 1 3 s6

abbrev s8 : State
s8 = after_drops 2 2 s7

abbrev s9 : State
s9 = after_ticks 14 s8

abbrev s10 : State
s10 = after_bag 1 1 (closed (verdict (s9.bag 1 1))) s9

abbrev s11 : State
s11 = after_bag 2 1 (closed (verdict (s10.bag 2 1))) s10

abbrev s12 : State
s12 = after_bag 3 1 (closed (verdict (s11.bag 3 1))) s11

started : Start plan s0
started = record { clock = refl; offsets = λ p. refl; turns = λ p. refl; faults = refl; bags = λ p i. refl; seals = λ a i v l s. refl; number = refl }

item_one_is : Listed plan 1
item_one_is = (lit≤ tt, lit≤ tt)

seat_one : Seat plan 1
seat_one = (lit≤ tt, lit≤ tt)

seat_two : Seat plan 2
seat_two = (lit≤ tt, lit≤ tt)

seat_three : Seat plan 3
seat_three = (lit≤ tt, lit≤ tt)

m1 : Ticks plan 100 s0 s1
m1 = can_tick plan s0 100 (λ m q i v l a t h e ca cq w. absurd (omega arith))

m2 : Opens plan 1 1 7 s1 s2
m2 = can_open plan s1 1 1 7 refl item_one_is refl refl refl refl

m3 : Relays plan 2 1 7 (1 ∷ []) s2 s3
m3 = can_relay plan s2 2 1 7 (1 ∷ []) seat_two refl (record { listed = item_one_is; admits = refl; short = lit≤ tt; first = refl; apart = (tt, tt); seats = (seat_one, tt); own = (λ e. omega arith, tt); genuine = (refl, tt); not_early = lit≤ tt; not_late = lit< tt; joins = refl }) (lit≤ tt)

-- a frame of item 1 and value 7 does not pass where 7 is held
stale : (x : State) (m p t : ℕ) (l : List ℕ) (a : ℕ) → x.flight m ≡ fly 1 7 l a t → fresh plan (x.bag p 1) 7 ≡ false → (j w : ℕ) (h : List ℕ) (b u : ℕ) → x.flight m ≡ fly j w h b u → ¬ (Acceptable plan x p j w (b ∷ h))
stale x m p t l a e f j w h b u k A =
    let e₁ : j ≡ 1 = cc in
    let e₂ : w ≡ 7 = cc in
    let g = A.joins in
    absurd (both_ways (fresh plan (x.bag p 1) 7) f (rw (e₁, e₂) at g))

m4 : Drops plan 0 2 s3 s4
m4 = can_drop plan s3 0 2 refl (lit< tt) (stale s3 0 2 100 [] 1 refl refl)

m5 : Relays plan 3 1 7 (1 ∷ []) s4 s5
m5 = can_relay plan s4 3 1 7 (1 ∷ []) seat_three refl (record { listed = item_one_is; admits = refl; short = lit≤ tt; first = refl; apart = (tt, tt); seats = (seat_one, tt); own = (λ e. omega arith, tt); genuine = (refl, tt); not_early = lit≤ tt; not_late = lit< tt; joins = refl }) (lit≤ tt)

m6 : Drops plan 0 3 s5 s6
m6 = can_drop plan s5 0 3 refl (lit< tt) (stale s5 0 3 100 [] 1 refl refl)

m7 : Drops plan 1 3 s6 s7
m7 = can_drop plan s6 1 3 refl (lit< tt) (stale s6 1 3 100 (1 ∷ []) 2 refl refl)

m8 : Drops plan 2 2 s7 s8
m8 = can_drop plan s7 2 2 refl (lit< tt) (stale s7 2 2 100 (1 ∷ []) 3 refl refl)

heard : Inside plan s2 s8
heard = further (further (further (further (further (further rest (relays 2 1 7 (1 ∷ []) m3) tt) (drops 0 2 m4) tt) (relays 3 1 7 (1 ∷ []) m5) tt) (drops 0 3 m6) tt) (drops 1 3 m7) tt) (drops 2 2 m8) tt

made8 : Made plan s8
made8 = (s0, started, next (next (next begin (inside (further rest (ticks 100 m1) tt))) (opening 1 1 7 m2)) (inside heard))

landed : (m q : ℕ) → m < 3 → 1 ≤ q → q ≤ 3 → s8.way m q ≡ false
landed m q h k l = go (ℕ_discrete m 0) (ℕ_discrete m 1) (ℕ_discrete q 1) (ℕ_discrete q 2)
  where
    go : Dec (m ≡ 0) → Dec (m ≡ 1) → Dec (q ≡ 1) → Dec (q ≡ 2) → s8.way m q ≡ false
    go (yes a) b (yes c) d = subst (λ (z : ℕ). s8.way z q ≡ false) (sym a) (subst (λ (z : ℕ). s8.way 0 z ≡ false) (sym c) refl)
    go (yes a) b (no c) (yes d) = subst (λ (z : ℕ). s8.way z q ≡ false) (sym a) (subst (λ (z : ℕ). s8.way 0 z ≡ false) (sym d) refl)
    go (yes a) b (no c) (no d) = let e : 3 ≡ q = omega arith in subst (λ (z : ℕ). s8.way z q ≡ false) (sym a) (subst (λ (z : ℕ). s8.way 0 z ≡ false) e refl)
    go (no a) (yes b) (yes c) d = subst (λ (z : ℕ). s8.way z q ≡ false) (sym b) (subst (λ (z : ℕ). s8.way 1 z ≡ false) (sym c) refl)
    go (no a) (yes b) (no c) (yes d) = subst (λ (z : ℕ). s8.way z q ≡ false) (sym b) (subst (λ (z : ℕ). s8.way 1 z ≡ false) (sym d) refl)
    go (no a) (yes b) (no c) (no d) = let e : 3 ≡ q = omega arith in subst (λ (z : ℕ). s8.way z q ≡ false) (sym b) (subst (λ (z : ℕ). s8.way 1 z ≡ false) e refl)
    go (no a) (no b) (yes c) d = let g : 2 ≡ m = omega arith in subst (λ (z : ℕ). s8.way z q ≡ false) g (subst (λ (z : ℕ). s8.way 2 z ≡ false) (sym c) refl)
    go (no a) (no b) (no c) (yes d) = let g : 2 ≡ m = omega arith in subst (λ (z : ℕ). s8.way z q ≡ false) g (subst (λ (z : ℕ). s8.way 2 z ≡ false) (sym d) refl)
    go (no a) (no b) (no c) (no d) = let g : 2 ≡ m = omega arith in let e : 3 ≡ q = omega arith in subst (λ (z : ℕ). s8.way z q ≡ false) g (subst (λ (z : ℕ). s8.way 2 z ≡ false) e refl)

m9 : Ticks plan 14 s8 s9
m9 = can_tick plan s8 14 none
  where
    none : (m q i v : ℕ) (l : List ℕ) (a t : ℕ) → m < 3 → s8.flight m ≡ fly i v l a t → s8.turned a ≡ false → s8.turned q ≡ false → s8.way m q ≡ true → s8.now + 14 < t + 5
    none m q i v l a t h e ca cq w =
        let k = ((good_reached plan i s8 (made_reached plan s8 made8)).inv.aimed m v l a t q (h, e) w).0 in
        absurd (both_ways (s8.way m q) (landed m q h k.0 k.1) w)

m10 : Decides plan 1 1 s9 s10
m10 = can_decide plan s9 1 1 seat_one refl item_one_is refl (lit≤ tt)

m11 : Decides plan 2 1 s10 s11
m11 = can_decide plan s10 2 1 seat_two refl item_one_is refl (lit≤ tt)

m12 : Decides plan 3 1 s11 s12
m12 = can_decide plan s11 3 1 seat_three refl item_one_is refl (lit≤ tt)

concluded : Inside plan s8 s12
concluded = further (further (further (further rest (ticks 14 m9) tt) (decides 1 1 m10) tt) (decides 2 1 m11) tt) (decides 3 1 m12) tt

pub happens : Happens
unfolding made8
happens = (s12, (s0, started, next made8.2 (inside concluded)), refl, refl, refl, refl)
