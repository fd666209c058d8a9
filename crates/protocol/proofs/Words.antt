-- Lemmas on the words of the model: lists of numbers, chains of seals, bags.
use Rattle.std.proofs.Common.{◌≡◌, ℕ, suc, ◌<◌, ◌≤◌, Bool, true, false, ◌⊎◌, List, [], ◌∷◌, length, sym, refl, ap, ◌∙◌, subst, inl, inr, arith}
use native.Mathlib.Decide.{ℕ_discrete}
use Rattle.std.proofs.lemmas.Bool.{both_ways, cases_Bool, not-true, not-false, false≢true, true≢false}
use Rattle.protocol.specs.Model.{Plan, State, Bag, empty, one, two, closed, Seat, Seats, NotIn, Distinct, Began, Chain, fresh, put, verdict, is_closed, Agree}

abbrev pub In : ℕ → List ℕ → Type 0
In q [] = ⊥
In q (a ∷ l) = (q ≡ a) ⊎ In q l

pub in_or_not : (q : ℕ) (l : List ℕ) → In q l ⊎ NotIn q l
in_or_not q [] = inr tt
in_or_not q (a ∷ l) = go (ℕ_discrete q a) (in_or_not q l)
  where
    go : Dec (q ≡ a) → In q l ⊎ NotIn q l → In q (a ∷ l) ⊎ NotIn q (a ∷ l)
    go (yes h) k = inl (inl h)
    go (no h) (inl k) = inl (inr k)
    go (no h) (inr k) = inr (h, k)

pub in_not : {A : Type 0} (q : ℕ) (l : List ℕ) → In q l → NotIn q l → A
in_not q [] h k = absurd h
in_not q (a ∷ l) (inl h) k = absurd (k.0 h)
in_not q (a ∷ l) (inr h) k = in_not q l h k.1

-- the list without one number
remove : ℕ → List ℕ → List ℕ
remove a [] = []
remove a (b ∷ l) = elim (ℕ_discrete a b) [ yes h ↦ l | no h ↦ b ∷ remove a l ]

remove_length : (a : ℕ) (l : List ℕ) → In a l → suc (length (remove a l)) ≡ length l
unfolding remove
remove_length a [] h = absurd h
remove_length a (b ∷ l) h = go (λ k. remove_length a l k) (ℕ_discrete a b) h
  where
    go : (In a l → suc (length (remove a l)) ≡ length l) → (c : Dec (a ≡ b)) → In a (b ∷ l) → suc (length {A = ℕ} (elim c [ yes h ↦ l | no h ↦ b ∷ remove a l ])) ≡ suc (length l)
    go ih (yes e) h = refl
    go ih (no e) (inl h) = absurd (e h)
    go ih (no e) (inr h) = ap suc (ih h)

remove_in : (a q : ℕ) (l : List ℕ) → ¬ (q ≡ a) → In q l → In q (remove a l)
unfolding remove
remove_in a q [] e h = absurd h
remove_in a q (b ∷ l) e h = go (λ k. remove_in a q l e k) (ℕ_discrete a b) h
  where
    go : (In q l → In q (remove a l)) → (c : Dec (a ≡ b)) → In q (b ∷ l) → In q (elim c [ yes h ↦ l | no h ↦ b ∷ remove a l ])
    go ih (yes k) (inl h) = absurd (e (h ∙ sym k))
    go ih (yes k) (inr h) = h
    go ih (no k) (inl h) = inl h
    go ih (no k) (inr h) = inr (ih h)

all_in_remove : (a : ℕ) (l ts : List ℕ) → NotIn a l → ((q : ℕ) → In q l → In q ts) → (q : ℕ) → In q l → In q (remove a ts)
all_in_remove a l ts n h q k = remove_in a q ts (λ e. in_not a l (subst (λ (z : ℕ). In z l) e k) n) (h q k)

-- distinct numbers, each in ts, are no more than ts has
pigeons : (l ts : List ℕ) → Distinct l → ((q : ℕ) → In q l → In q ts) → length l ≤ length ts
pigeons [] ts d h = omega arith
pigeons (a ∷ l) ts d h =
    let k : length l ≤ length (remove a ts) = pigeons l (remove a ts) d.1 (all_in_remove a l ts d.0 (λ q z. h q (inr z))) in
    let r = remove_length a ts (h a (inl refl)) in
    omega arith

-- one of the listed has not turned, or all have
some_correct : (b : ℕ → Bool) (l : List ℕ) → ((c : ℕ) × In c l × (b c ≡ false)) ⊎ ((q : ℕ) → In q l → b q ≡ true)
some_correct b [] = inr (λ q h. absurd h)
some_correct b (a ∷ l) = go (cases_Bool (b a)) (some_correct b l)
  where
    all : b a ≡ true → ((q : ℕ) → In q l → b q ≡ true) → (q : ℕ) → In q (a ∷ l) → b q ≡ true
    all h k q (inl e) = ap b e ∙ h
    all h k q (inr e) = k q e

    go : (b a ≡ true) ⊎ (b a ≡ false) → ((c : ℕ) × In c l × (b c ≡ false)) ⊎ ((q : ℕ) → In q l → b q ≡ true) → ((c : ℕ) × In c (a ∷ l) × (b c ≡ false)) ⊎ ((q : ℕ) → In q (a ∷ l) → b q ≡ true)
    go (inr h) k = inl (a, inl refl, h)
    go (inl h) (inl k) = inl (k.0, inr k.1, k.2)
    go (inl h) (inr k) = inr (all h k)

-- among more distinct numbers than ts has, one has not turned
pub pick : (b : ℕ → Bool) (l ts : List ℕ) → Distinct l → length ts < length l → ((q : ℕ) → b q ≡ true → In q ts) → (c : ℕ) × In c l × (b c ≡ false)
pick b l ts d h k = go (some_correct b l)
  where
    go : ((c : ℕ) × In c l × (b c ≡ false)) ⊎ ((q : ℕ) → In q l → b q ≡ true) → (c : ℕ) × In c l × (b c ≡ false)
    go (inl z) = z
    go (inr z) = let p = pigeons l ts d (λ q w. k q (z q w)) in absurd (omega arith)

pub seats_in : (P : Plan) (q : ℕ) (l : List ℕ) → Seats P l → In q l → Seat P q
seats_in P q [] s h = absurd h
seats_in P q (a ∷ l) s (inl h) = subst (λ (z : ℕ). Seat P z) (sym h) s.0
seats_in P q (a ∷ l) s (inr h) = seats_in P q l s.1 h

-- whoever a chain names has sealed something of it
pub chain_in : (x : State) (i v q : ℕ) (l : List ℕ) → Chain x i v l → In q l → (h : List ℕ) × (x.sealed q i v h ≡ true)
chain_in x i v q [] c h = absurd h
chain_in x i v q (a ∷ l) c (inl h) = (l, ap (λ (z : ℕ). x.sealed z i v l) h ∙ c.0)
chain_in x i v q (a ∷ l) c (inr h) = chain_in x i v q l c.1 h

pub chain_first : (x : State) (i v s : ℕ) (l : List ℕ) → Chain x i v l → Began s l → x.sealed s i v [] ≡ true
chain_first x i v s [] c b = absurd b
chain_first x i v s (a ∷ []) c b = ap (λ (z : ℕ). x.sealed z i v []) (sym b) ∙ c.0
chain_first x i v s (a ∷ (b ∷ l)) c h = chain_first x i v s (b ∷ l) c.1 h

pub began_in : (s : ℕ) (l : List ℕ) → Began s l → In s l
began_in s [] b = absurd b
began_in s (a ∷ []) b = inl (sym b)
began_in s (a ∷ (b ∷ l)) h = inr (began_in s (b ∷ l) h)

pub began_more : (s p : ℕ) (l : List ℕ) → Began s l → Began s (p ∷ l)
began_more s p [] b = absurd b
began_more s p (a ∷ l) b = b

pub chain_up : (x y : State) (i v : ℕ) (l : List ℕ) → ((a : ℕ) (h : List ℕ) → x.sealed a i v h ≡ true → y.sealed a i v h ≡ true) → Chain x i v l → Chain y i v l
chain_up x y i v [] u c = tt
chain_up x y i v (a ∷ l) u c = (u a l c.0, chain_up x y i v l u c.1)

-- bags

abbrev pub Holds : Bag → ℕ → Type 0
Holds empty v = ⊥
Holds (one w) v = w ≡ v
Holds (two w u) v = (w ≡ v) ⊎ (u ≡ v)
Holds (closed r) v = ⊥

-- a value need not come any more: a same one is held, two are, or all is decided
abbrev pub Covered : Plan → Bag → ℕ → Type 0
Covered P empty v = ⊥
Covered P (one w) v = P.same w v ≡ true
Covered P (two w u) v = Unit {0}
Covered P (closed r) v = Unit {0}

abbrev pub Sane : Plan → Bag → Type 0
Sane P empty = Unit {0}
Sane P (one w) = P.admitted w ≡ true
Sane P (two w u) = (P.admitted w ≡ true) × (P.admitted u ≡ true) × (P.same w u ≡ false)
Sane P (closed r) = Unit {0}

abbrev pub NonEmpty : Bag → Type 0
NonEmpty empty = ⊥
NonEmpty (one w) = Unit {0}
NonEmpty (two w u) = Unit {0}
NonEmpty (closed r) = Unit {0}

pub covered_put : (P : Plan) (b : Bag) (v : ℕ) → P.admitted v ≡ true → fresh P b v ≡ true → Covered P (put b v) v
covered_put P empty v a h = P.same_refl v a
covered_put P (one w) v a h = tt
covered_put P (two w u) v a h = tt
covered_put P (closed r) v a h = tt

pub covered_stays : (P : Plan) (b : Bag) (v u : ℕ) → Covered P b u → Covered P (put b v) u
covered_stays P empty v u h = absurd h
covered_stays P (one w) v u h = tt
covered_stays P (two w z) v u h = tt
covered_stays P (closed r) v u h = tt

pub covered_stale : (P : Plan) (b : Bag) (v : ℕ) → fresh P b v ≡ false → Covered P b v
covered_stale P empty v h = absurd (both_ways (fresh P empty v) h refl)
covered_stale P (one w) v h = not-false (P.same w v) h
covered_stale P (two w u) v h = tt
covered_stale P (closed r) v h = tt

pub covered_old : {A : Type 0} (P : Plan) (b : Bag) (v : ℕ) → Covered P b v → fresh P b v ≡ true → A
covered_old P empty v c h = absurd c
covered_old P (one w) v c h = absurd (both_ways (P.same w v) (not-true (P.same w v) h) c)
covered_old P (two w u) v c h = absurd (false≢true h)
covered_old P (closed r) v c h = absurd (false≢true h)

pub holds_put : (P : Plan) (b : Bag) (v u : ℕ) → fresh P b v ≡ true → Holds (put b v) u → Holds b u ⊎ (v ≡ u)
holds_put P empty v u f h = inr h
holds_put P (one w) v u f (inl h) = inl h
holds_put P (one w) v u f (inr h) = inr h
holds_put P (two w z) v u f h = inl h
holds_put P (closed r) v u f h = absurd h

pub sane_put : (P : Plan) (b : Bag) (v : ℕ) → P.admitted v ≡ true → fresh P b v ≡ true → Sane P b → Sane P (put b v)
sane_put P empty v a f h = a
sane_put P (one w) v a f h = (h, a, not-true (P.same w v) f)
sane_put P (two w z) v a f h = h
sane_put P (closed r) v a f h = h

pub filled : (b : Bag) (v : ℕ) → NonEmpty (put b v)
filled empty v = tt
filled (one w) v = tt
filled (two w u) v = tt
filled (closed r) v = tt

-- two bags of which each covers what the other holds decide alike
pub alike : (P : Plan) (b c : Bag) → is_closed b ≡ false → is_closed c ≡ false → Sane P b → Sane P c → ((v : ℕ) → Holds b v → Covered P c v) → ((v : ℕ) → Holds c v → Covered P b v) → Agree P (verdict b) (verdict c)
alike P empty empty k₁ k₂ s t f g = tt
alike P empty (one w) k₁ k₂ s t f g = g w refl
alike P empty (two w z) k₁ k₂ s t f g = tt
alike P empty (closed r) k₁ k₂ s t f g = absurd (true≢false k₂)
alike P (one v) empty k₁ k₂ s t f g = f v refl
alike P (one v) (one w) k₁ k₂ s t f g = g w refl
alike P (one v) (two w z) k₁ k₂ s t f g =
    absurd (both_ways (P.same w z) t.2 (P.same_trans w v z t.0 s t.1 (P.same_sym v w s t.0 (g w (inl refl))) (g z (inr refl))))
alike P (one v) (closed r) k₁ k₂ s t f g = absurd (true≢false k₂)
alike P (two v u) empty k₁ k₂ s t f g = tt
alike P (two v u) (one w) k₁ k₂ s t f g =
    absurd (both_ways (P.same v u) s.2 (P.same_trans v w u s.0 t s.1 (P.same_sym w v t s.0 (f v (inl refl))) (f u (inr refl))))
alike P (two v u) (two w z) k₁ k₂ s t f g = tt
alike P (two v u) (closed r) k₁ k₂ s t f g = absurd (true≢false k₂)
alike P (closed q) empty k₁ k₂ s t f g = absurd (true≢false k₁)
alike P (closed q) (one w) k₁ k₂ s t f g = absurd (true≢false k₁)
alike P (closed q) (two w z) k₁ k₂ s t f g = absurd (true≢false k₁)
alike P (closed q) (closed r) k₁ k₂ s t f g = absurd (true≢false k₁)
