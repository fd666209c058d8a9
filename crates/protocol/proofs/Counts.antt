-- The number of broadcasts: an author has broadcast no more of an item than its bag weighs.
use Rattle.std.proofs.Common.{◌≡◌, ℕ, zero, suc, ◌+◌, ◌*◌, ◌<◌, ◌≤◌, Bool, true, false, cond, ◌&&◌, eqb, ◌⊎◌, List, [], sym, refl, ap, ◌∙◌, subst, inl, inr, arith}
use mathlib.Core.Bool.{and-false, and_comm}
use native.Mathlib.Decide.{ℕ_discrete}
use Rattle.std.proofs.lemmas.Bool.{eqb-true, eq-eqb, ne_eqb, cases_Bool, false≢true}
use Rattle.protocol.specs.Model.{Plan, State, Bag, empty, one, two, closed, Flight, fly, item_of, author_of, Seat, fresh, put}
use Rattle.protocol.specs.Moves.{SameBags, OldFlights, OtherBags, Takes, Broadcasts, Move, ticks, sets, turns, forges, opens, relays, keeps, drops, decides, Start, Runs, stay, more}
use Rattle.protocol.specs.Agreement.{Reached, tally, broadcasts, broadcasts_of, flights_of, Few, Within}
use Rattle.protocol.proofs.Words.{In, in_not, began_in}
use Rattle.protocol.proofs.Invariants.{Inv}
use Rattle.protocol.proofs.Theorem.{good_reached}

abbrev pub bit : Bool → ℕ
bit b = cond b 1 0

bit_small : (b : Bool) → bit b ≤ 1
bit_small true = omega arith
bit_small false = omega arith

pub tally_same : (b c : ℕ → Bool) (n : ℕ) → ((m : ℕ) → m < n → b m ≡ c m) → tally b n ≡ tally c n
tally_same b c zero h = refl
tally_same b c (suc n) h =
    let e = h n (omega arith) in
    let r = tally_same b c n (λ m k. h m (omega arith)) in
    cc

-- sums over the processors 1 to n
total : (ℕ → ℕ) → ℕ → ℕ
total g zero = 0
total g (suc n) = g (suc n) + total g n

total_has : (g : ℕ → ℕ) (n a : ℕ) → 1 ≤ a → a ≤ n → g a ≤ total g n
unfolding total
total_has g zero a h k = absurd (omega arith)
total_has g (suc n) a h k = go (ℕ_discrete a (suc n)) (λ z. total_has g n a h z)
  where
    go : Dec (a ≡ suc n) → (a ≤ n → g a ≤ total g n) → g a ≤ g (suc n) + total g n
    go (yes e) ih = let z = ap g e in omega arith
    go (no e) ih = let z = ih (omega arith) in omega arith

total_add : (g h k : ℕ → ℕ) (n : ℕ) → ((a : ℕ) → g a ≡ h a + k a) → total g n ≡ total h n + total k n
unfolding total
total_add g h k zero e = refl
total_add g h k (suc n) e = let a = e (suc n) in let r = total_add g h k n e in omega arith

total_two : (g : ℕ → ℕ) (n : ℕ) → ((a : ℕ) → g a ≤ 2) → total g n ≤ 2 * n
unfolding total
total_two g zero h = omega arith
total_two g (suc n) h = let a = h (suc n) in let r = total_two g n h in omega arith

total_less : (g : ℕ → ℕ) (n s : ℕ) → ((a : ℕ) → g a ≤ 2) → 1 ≤ s → s ≤ n → g s ≤ 1 → total g n + 1 ≤ 2 * n
unfolding total
total_less g zero s h k l j = absurd (omega arith)
total_less g (suc n) s h k l j = go (ℕ_discrete s (suc n)) (λ z. total_less g n s h k z j)
  where
    go : Dec (s ≡ suc n) → (s ≤ n → total g n + 1 ≤ 2 * n) → g (suc n) + total g n + 1 ≤ 2 * suc n
    go (yes e) ih = let z = ap g e in let r = total_two g n h in omega arith
    go (no e) ih = let z = ih (omega arith) in let r = h (suc n) in omega arith

-- the passing numbers, sorted by author
sorted : (n : ℕ) (b : ℕ → Bool) (w : ℕ → ℕ) (c : ℕ) → ((m : ℕ) → m < c → b m ≡ true → (1 ≤ w m) × (w m ≤ n)) → tally b c ≤ total (λ a. tally (λ m. b m && eqb (w m) a) c) n
sorted n b w zero h = omega arith
sorted n b w (suc c) h =
    let ih = sorted n b w c (λ m k z. h m (omega arith) z) in
    let e = total_add (λ a. tally (λ m. b m && eqb (w m) a) (suc c)) (λ a. bit (b c && eqb (w c) a)) (λ a. tally (λ m. b m && eqb (w m) a) c) n (λ a. refl) in
    let k = go (cases_Bool (b c)) in
    omega arith
  where
    go : (b c ≡ true) ⊎ (b c ≡ false) → bit (b c) ≤ total (λ a. bit (b c && eqb (w c) a)) n
    go (inr z) = let q : bit (b c) ≡ 0 = ap bit z in omega arith
    go (inl z) =
        let s = h c (omega arith) z in
        let t = total_has (λ a. bit (b c && eqb (w c) a)) n (w c) s.0 s.1 in
        let r = eq-eqb (w c) (w c) refl in
        let q : bit (b c && eqb (w c) (w c)) ≡ 1 = cc in
        let y : bit (b c) ≡ 1 = ap bit z in
        omega arith

abbrev weight : Bag → ℕ
weight empty = 0
weight (one v) = 1
weight (two v w) = 2
weight (closed r) = 2

weight_two : (b : Bag) → weight b ≤ 2
weight_two empty = omega arith
weight_two (one v) = omega arith
weight_two (two v w) = omega arith
weight_two (closed r) = omega arith

weight_put : (b : Bag) (v : ℕ) → weight b ≤ weight (put b v)
weight_put empty v = omega arith
weight_put (one w) v = omega arith
weight_put (two u w) v = omega arith
weight_put (closed r) v = omega arith

weight_join : (P : Plan) (b : Bag) (v : ℕ) → fresh P b v ≡ true → weight (put b v) ≡ suc (weight b)
weight_join P empty v h = refl
weight_join P (one w) v h = refl
weight_join P (two u w) v h = absurd (false≢true h)
weight_join P (closed r) v h = absurd (false≢true h)

record Weighed (P : Plan) (x : State) : Type 0 where
  each : (i a : ℕ) → broadcasts_of x i a ≤ weight (x.bag a i)
  sender : (i : ℕ) → broadcasts_of x i (P.sender i) ≤ 1

abbrev mine : ℕ → ℕ → Flight → Bool
mine i a φ = eqb (item_of φ) i && eqb (author_of φ) a

-- no new flight
same_number : (x y : State) → y.count ≡ x.count → OldFlights x y → (i a : ℕ) → broadcasts_of y i a ≡ broadcasts_of x i a
same_number x y n o i a = ap (tally (λ m. mine i a (y.flight m))) n ∙ tally_same (λ m. mine i a (y.flight m)) (λ m. mine i a (x.flight m)) x.count (λ m h. ap (mine i a) (o m h))

-- one new flight
pub one_more : (P : Plan) (p j v : ℕ) (l : List ℕ) (x y : State) → Broadcasts P p j v l x y → (b : Flight → Bool) → tally (λ m. b (y.flight m)) y.count ≡ bit (b (fly j v l p x.now)) + tally (λ m. b (x.flight m)) x.count
one_more P p j v l x y s b =
    let e₁ : tally (λ m. b (y.flight m)) y.count ≡ tally (λ m. b (y.flight m)) (suc x.count) = ap (tally (λ m. b (y.flight m))) s.number in
    let e₂ = tally_same (λ m. b (y.flight m)) (λ m. b (x.flight m)) x.count (λ m h. ap b (s.flights m h)) in
    let e₃ : bit (b (y.flight x.count)) ≡ bit (b (fly j v l p x.now)) = ap (λ φ. bit (b φ)) s.new in
    omega arith

module _ (P : Plan) (x y : State) (W : Weighed P x) where
  weighed_still : y.count ≡ x.count → OldFlights x y → SameBags x y → Weighed P y
  weighed_still n o b = record {
    each = λ i a. let e = same_number x y n o i a in let h = W.each i a in let k = ap weight (b a i) in omega arith;
    sender = λ i. let e = same_number x y n o i (P.sender i) in let h = W.sender i in omega arith;
  }

  weighed_bag : (p j : ℕ) → y.count ≡ x.count → OldFlights x y → weight (x.bag p j) ≤ weight (y.bag p j) → OtherBags p j x y → Weighed P y
  weighed_bag p j n o h b = record {
    each = λ i a. let e = same_number x y n o i a in let k = W.each i a in let r = go i a (ℕ_discrete i j) (ℕ_discrete a p) in omega arith;
    sender = λ i. let e = same_number x y n o i (P.sender i) in let k = W.sender i in omega arith;
  }
    where
      go : (i a : ℕ) → Dec (i ≡ j) → Dec (a ≡ p) → weight (x.bag a i) ≤ weight (y.bag a i)
      go i a (no e) k = let z = ap weight (b.1 a i e) in omega arith
      go i a (yes e) (no k) = let z = ap weight (b.0 a i k) in omega arith
      go i a (yes e) (yes k) = rw (e, k) h

  weighed_sends : (p j v : ℕ) (l : List ℕ) → fresh P (x.bag p j) v ≡ true → Takes p j v x y → Broadcasts P p j v l x y → (p ≡ P.sender j → broadcasts_of x j p ≡ 0) → Weighed P y
  weighed_sends p j v l f t b so = record {
    each = λ i a. each' i a (ℕ_discrete i j) (ℕ_discrete a p);
    sender = λ i. send i (ℕ_discrete i j) (ℕ_discrete (P.sender i) p);
  }
    where
      off : (i a : ℕ) → (¬ (i ≡ j)) ⊎ (¬ (a ≡ p)) → broadcasts_of y i a ≡ broadcasts_of x i a
      off i a (inl e) = let z = ne_eqb j i (λ h. e (sym h)) in let r = one_more P p j v l x y b (mine i a) in let q : bit (eqb j i && eqb p a) ≡ 0 = ap (λ c. bit (c && eqb p a)) z in omega arith
      off i a (inr e) = let z = ne_eqb p a (λ h. e (sym h)) in let r = one_more P p j v l x y b (mine i a) in let q : bit (eqb j i && eqb p a) ≡ 0 = ap (λ c. bit (eqb j i && c)) z ∙ ap bit (and-false (eqb j i)) in omega arith

      each' : (i a : ℕ) → Dec (i ≡ j) → Dec (a ≡ p) → broadcasts_of y i a ≤ weight (y.bag a i)
      each' i a (no e) k = let r = off i a (inl e) in let z = ap weight (t.other.1 a i e) in let h = W.each i a in omega arith
      each' i a (yes e) (no k) = let r = off i a (inr k) in let z = ap weight (t.other.0 a i k) in let h = W.each i a in omega arith
      each' i a (yes e) (yes k) =
          let r = one_more P p j v l x y b (mine i a) in
          let s = bit_small (eqb j i && eqb p a) in
          let h = W.each i a in
          let z : weight (y.bag a i) ≡ suc (weight (x.bag a i)) = rw (e, k) (ap weight t.here ∙ weight_join P (x.bag p j) v f) in
          omega arith

      send : (i : ℕ) → Dec (i ≡ j) → Dec (P.sender i ≡ p) → broadcasts_of y i (P.sender i) ≤ 1
      send i (no e) k = let r = off i (P.sender i) (inl e) in let h = W.sender i in omega arith
      send i (yes e) (no k) = let r = off i (P.sender i) (inr k) in let h = W.sender i in omega arith
      send i (yes e) (yes k) =
          let r = one_more P p j v l x y b (mine i (P.sender i)) in
          let s = bit_small (eqb j i && eqb p (P.sender i)) in
          let o = so (sym k ∙ ap P.sender e) in
          let q : broadcasts_of x i (P.sender i) ≡ 0 = rw (k, e) o in
          omega arith

  weighed_step : Move P x y → Weighed P y
  weighed_step (ticks k s) = weighed_still s.number s.flights s.bags
  weighed_step (sets p o s) = weighed_still s.number s.flights s.bags
  weighed_step (turns p s) = weighed_still s.number s.flights s.bags
  weighed_step (forges p s) = weighed_still s.number s.flights s.bags
  weighed_step (opens p i v s) = weighed_sends p i v [] (ap (λ b. fresh P b v) s.unopened) s.takes s.sends (λ e. let h = W.each i p in let k : weight (x.bag p i) ≡ 0 = ap weight s.unopened in omega arith)
  weighed_step (relays p i v l s) = weighed_sends p i v l s.passes.joins s.takes s.sends (λ e. in_not p l (subst (λ (z : ℕ). In z l) (sym e) (began_in (P.sender i) l s.passes.first)) s.passes.own)
  weighed_step (keeps p i v l s) = weighed_bag p i s.number s.flights (let k = ap weight s.takes.here in let h = weight_put (x.bag p i) v in omega arith) s.takes.other
  weighed_step (drops m p s) = weighed_still s.number s.flights s.bags
  weighed_step (decides p i s) = weighed_bag p i s.number s.flights (let k : weight (y.bag p i) ≡ 2 = ap weight s.here in let h = weight_two (x.bag p i) in omega arith) s.other

weighed_start : (P : Plan) (x : State) → Start P x → Weighed P x
weighed_start P x s = record {
  each = λ i a. let e : broadcasts_of x i a ≡ 0 = ap (tally (λ m. mine i a (x.flight m))) s.number in omega arith;
  sender = λ i. let e : broadcasts_of x i (P.sender i) ≡ 0 = ap (tally (λ m. mine i (P.sender i) (x.flight m))) s.number in omega arith;
}

weighed_run : (P : Plan) (x z : State) → Weighed P x → Runs P x z → Weighed P z
weighed_run P x z W stay = W
weighed_run P x z W (more {y = y} r m) = weighed_step P y z (weighed_run P x y W r) m

flight_is : (φ : Flight) → (v : ℕ) × (l : List ℕ) × (t : ℕ) × (φ ≡ fly (item_of φ) v l (author_of φ) t)
flight_is (fly i v l a t) = (v, l, t, refl)

-- every author of the item has a seat
seated : (P : Plan) (i : ℕ) (x : State) → Inv P i x → (m : ℕ) → m < x.count → eqb (item_of (x.flight m)) i ≡ true → Seat P (author_of (x.flight m))
seated P i x I m h e =
    let k = flight_is (x.flight m) in
    let z = eqb-true (item_of (x.flight m)) i e in
    (I.lawful m k.0 k.1 (author_of (x.flight m)) k.2 (h, k.3 ∙ ap (λ (c : ℕ). fly c k.0 k.1 (author_of (x.flight m)) k.2) z)).seats.0

pub sparing_moves : (P : Plan) (z : State) → Reached P z → (i : ℕ) → Few P z i
sparing_moves P z h i =
    let W = weighed_run P h.0 z (weighed_start P h.0 h.1) h.2 in
    let G = good_reached P i z h in
    let two-at-most : (a : ℕ) → broadcasts_of z i a ≤ 2 = (λ a. let r = W.each i a in let k = weight_two (z.bag a i) in omega arith) in
    let s = sorted P.n (λ m. eqb (item_of (z.flight m)) i) (λ m. author_of (z.flight m)) z.count (seated P i z G.inv) in
    let t = total_less (broadcasts_of z i) P.n (P.sender i) two-at-most (P.sender_low i) (P.sender_high i) (W.sender i) in
    (omega arith, two-at-most, W.sender i)

-- all items together

tally_all : (c : ℕ) → tally (λ m. true) c ≡ c
tally_all zero = refl
tally_all (suc c) = let r = tally_all c in omega arith

total_each : (g : ℕ → ℕ) (k n : ℕ) → ((a : ℕ) → g a + 1 ≤ k) → total g n + n ≤ k * n
unfolding total
total_each g k zero h = omega arith
total_each g k (suc n) h = let a = h (suc n) in let r = total_each g k n h in omega arith

listed_flight : (P : Plan) (z : State) → Reached P z → (m : ℕ) → m < z.count → (1 ≤ item_of (z.flight m)) × (item_of (z.flight m) ≤ P.items)
listed_flight P z h m b =
    let k = flight_is (z.flight m) in
    ((good_reached P (item_of (z.flight m)) z h).inv.lawful m k.0 k.1 (author_of (z.flight m)) k.2 (b, k.3)).listed

pub roomy_moves : (P : Plan) (z : State) → Reached P z → Within P z
roomy_moves P z h = (all_of, of_one)
  where
    all_of : z.count + P.items ≤ 2 * P.n * P.items
    all_of =
        let s = sorted P.items (λ m. true) (λ m. item_of (z.flight m)) z.count (λ m b e. listed_flight P z h m b) in
        let c = tally_all z.count in
        let t = total_each (broadcasts z) (2 * P.n) P.items (λ i. (sparing_moves P z h i).0) in
        omega arith

    of_one : (a : ℕ) → flights_of z a ≤ 2 * P.items
    of_one a =
        let s = sorted P.items (λ m. eqb (author_of (z.flight m)) a) (λ m. item_of (z.flight m)) z.count (λ m b e. listed_flight P z h m b) in
        let swap : (i : ℕ) → tally (λ m. eqb (author_of (z.flight m)) a && eqb (item_of (z.flight m)) i) z.count ≤ 2 =
        (λ i. let e = tally_same (λ m. eqb (author_of (z.flight m)) a && eqb (item_of (z.flight m)) i) (λ m. eqb (item_of (z.flight m)) i && eqb (author_of (z.flight m)) a) z.count (λ m b. and_comm (eqb (author_of (z.flight m)) a) (eqb (item_of (z.flight m)) i)) in let r = (sparing_moves P z h i).1 a in omega arith) in
        let t = total_two (λ i. tally (λ m. eqb (author_of (z.flight m)) a && eqb (item_of (z.flight m)) i) z.count) P.items swap in
        omega arith
