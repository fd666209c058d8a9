-- What signing leaves: who has sealed what, and how many each signer has left.
use Rattle.std.proofs.Common.{◌≡◌, ℕ, ◌+◌, ◌-◌, ◌^◌, ◌<◌, ◌≤◌, Bool, true, false, cond, not, ◌&&◌, ◌||◌, eqb, leb, ◌⊎◌, List, [], ◌∷◌, ◌++◌, length, get_or, is_some, Some, None, Ok, Err, Option, sym, refl, ap, ◌∙◌, subst, inl, inr, arith}
use Rattle.std.specs.List.{AllByRecursion}
use Rattle.std.proofs.lemmas.Slice.Eq.{bytes_eq-Decides}
use Rattle.std.proofs.lemmas.List.{append-nil, get_or-set_same, get_or-set_other, length-set}
use Rattle.std.proofs.lemmas.Bool.{cases_Bool, eq-eqb, eqb-true, eqb-false, and_parts, and_from, or_cases, or_left, or_right, leb-true, le-leb, ne_eqb, cond-true, cond-false, both_ways}
use Rattle.refusals.specs.declared.refusal.Refusal.{Refusal}
use Rattle.refusals.specs.declared.refusal.Refusal.TheVariants.{Signer, Text, Room}
use Rattle.seals.specs.Meanings.{Triple, Meaning, known, is_of, seal_of, holds, left_of, granted, answered, lowered, triple, issued, signed}

-- whether the signer has sealed the text
abbrev pub has : List Triple → ℕ → List ℕ → Bool
has ts p t = is_some (seal_of ts p t)

has_cons : (e : Triple) (ts : List Triple) (p : ℕ) (t : List ℕ) → has (e ∷ ts) p t ≡ (is_of p t e || has ts p t)
has_cons e ts p t = go (is_of p t e)
  where
    go : (b : Bool) → is_some (cond b (Some e.seal) (seal_of ts p t)) ≡ (b || is_some (seal_of ts p t))
    go true = refl
    go false = refl

is_of_is : (p : ℕ) (t : List ℕ) (e : Triple) → is_of p t e ≡ true → (e.signer ≡ p) × (e.text ≡ t)
is_of_is p t e h = let k = and_parts _ _ h in (eqb-true _ _ k.0, (bytes_eq-Decides e.text t).0 k.1)

is_of_self : (p : ℕ) (t : List ℕ) (s : ℕ) → is_of p t (triple p t s) ≡ true
is_of_self p t s = and_from _ _ (eq-eqb p p refl) ((bytes_eq-Decides t t).1 refl)

-- more triples take no seal away
pub has_more : (ts us : List Triple) (p : ℕ) (t : List ℕ) → has ts p t ≡ true → has (ts ++ us) p t ≡ true
has_more [] us p t h = absurd (both_ways false refl h)
has_more (e ∷ ts) us p t h = has_cons e (ts ++ us) p t ∙ go (or_cases _ _ (sym (has_cons e ts p t) ∙ h)) (has_more ts us p t)
  where
    go : (is_of p t e ≡ true) ⊎ (has ts p t ≡ true) → (has ts p t ≡ true → has (ts ++ us) p t ≡ true) → (is_of p t e || has (ts ++ us) p t) ≡ true
    go (inl k) ih = or_left _ _ k
    go (inr k) ih = or_right _ _ (ih k)

pub holds_more : (ts us : List Triple) (p : ℕ) (t : List ℕ) (s : ℕ) → holds ts p t s ≡ true → holds (ts ++ us) p t s ≡ true
holds_more [] us p t s h = absurd (both_ways false refl h)
holds_more (e ∷ ts) us p t s h = go (or_cases (is_of p t e && eqb e.seal s) _ h) (holds_more ts us p t s)
  where
    go : ((is_of p t e && eqb e.seal s) ≡ true) ⊎ (holds ts p t s ≡ true) → (holds ts p t s ≡ true → holds (ts ++ us) p t s ≡ true) → holds (e ∷ ts ++ us) p t s ≡ true
    go (inl k) ih = or_left _ _ k
    go (inr k) ih = or_right _ _ (ih k)

-- a seal that checks was given
pub holds_has : (ts : List Triple) (p : ℕ) (t : List ℕ) (s : ℕ) → holds ts p t s ≡ true → has ts p t ≡ true
holds_has [] p t s h = h
holds_has (e ∷ ts) p t s h = has_cons e ts p t ∙ go (or_cases (is_of p t e && eqb e.seal s) _ h) (holds_has ts p t s)
  where
    go : ((is_of p t e && eqb e.seal s) ≡ true) ⊎ (holds ts p t s ≡ true) → (holds ts p t s ≡ true → has ts p t ≡ true) → (is_of p t e || has ts p t) ≡ true
    go (inl k) ih = or_left _ _ (and_parts (is_of p t e) (eqb e.seal s) k).0
    go (inr k) ih = or_right _ _ (ih k)

-- the seal that stands checks
seal_holds : (ts : List Triple) (p : ℕ) (t : List ℕ) (s : ℕ) → seal_of ts p t ≡ Some s → holds ts p t s ≡ true
seal_holds [] p t s h = absurd (cc)
seal_holds (e ∷ ts) p t s h = go (cases_Bool (is_of p t e)) (seal_holds ts p t s)
  where
    go : (is_of p t e ≡ true) ⊎ (is_of p t e ≡ false) → (seal_of ts p t ≡ Some s → holds ts p t s ≡ true) → holds (e ∷ ts) p t s ≡ true
    go (inl k) ih =
        let is : Some e.seal ≡ Some s = sym (cond-true _ _ _ k) ∙ h in
        let seal : e.seal ≡ s = cc in
        or_left _ _ (and_from _ _ k (eq-eqb _ _ seal))
    go (inr k) ih = or_right _ _ (ih (sym (cond-false _ _ _ k) ∙ h))

holds_last : (ts : List Triple) (p : ℕ) (t : List ℕ) (s : ℕ) → holds (ts ++ triple p t s ∷ []) p t s ≡ true
holds_last [] p t s = or_left _ _ (and_from _ _ (is_of_self p t s) (eq-eqb s s refl))
holds_last (e ∷ ts) p t s = or_right _ _ (holds_last ts p t s)

-- what one triple more adds is that triple
has_back : (ts : List Triple) (p : ℕ) (u : List ℕ) (s a : ℕ) (t : List ℕ) → has (ts ++ triple p u s ∷ []) a t ≡ true → (has ts a t ≡ true) ⊎ ((p ≡ a) × (u ≡ t))
has_back [] p u s a t h = go (or_cases _ _ (sym (has_cons (triple p u s) [] a t) ∙ h))
  where
    go : (is_of a t (triple p u s) ≡ true) ⊎ (false ≡ true) → (false ≡ true) ⊎ ((p ≡ a) × (u ≡ t))
    go (inl k) = inr (is_of_is a t (triple p u s) k)
    go (inr k) = inl k
has_back (e ∷ ts) p u s a t h = go (or_cases _ _ (sym (has_cons e (ts ++ triple p u s ∷ []) a t) ∙ h)) (has_back ts p u s a t)
  where
    on : (has ts a t ≡ true) ⊎ ((p ≡ a) × (u ≡ t)) → (has (e ∷ ts) a t ≡ true) ⊎ ((p ≡ a) × (u ≡ t))
    on (inl k) = inl (has_cons e ts a t ∙ or_right _ _ k)
    on (inr k) = inr k

    go : (is_of a t e ≡ true) ⊎ (has (ts ++ triple p u s ∷ []) a t ≡ true) → (has (ts ++ triple p u s ∷ []) a t ≡ true → (has ts a t ≡ true) ⊎ ((p ≡ a) × (u ≡ t)))
        → (has (e ∷ ts) a t ≡ true) ⊎ ((p ≡ a) × (u ≡ t))
    go (inl k) ih = inl (has_cons e ts a t ∙ or_left _ _ k)
    go (inr k) ih = on (ih k)

-- a seal is one of the triples'
pub holds_small : (ts : List Triple) (p : ℕ) (t : List ℕ) (s : ℕ) → AllByRecursion (λ e. e.seal < 2 ^ 32) ts → holds ts p t s ≡ true → s < 2 ^ 32
holds_small [] p t s a h = absurd (both_ways false refl h)
holds_small (e ∷ ts) p t s a h = go (or_cases (is_of p t e && eqb e.seal s) _ h) (holds_small ts p t s a.1)
  where
    go : ((is_of p t e && eqb e.seal s) ≡ true) ⊎ (holds ts p t s ≡ true) → (holds ts p t s ≡ true → s < 2 ^ 32) → s < 2 ^ 32
    go (inl k) ih = let q = eqb-true _ _ (and_parts _ _ k).1 in subst (λ (n : ℕ). n < 2 ^ 32) q a.0
    go (inr k) ih = ih k

-- The cases of signing: refused, answered from the list, or one triple more.
pub data Signs (m : Meaning) (p : ℕ) (t : List ℕ) (z : ℕ) : Type 0 where
  refused : (e : Refusal) → answered m p t z ≡ Err e → signed m p t z ≡ m → Signs m p t z
  again : (s : ℕ) → answered m p t z ≡ Ok s → seal_of m.triples p t ≡ Some s → signed m p t z ≡ m → Signs m p t z
  anew : answered m p t z ≡ Ok z → known p ≡ true → 1 ≤ left_of m p → signed m p t z ≡ issued m p t z → Signs m p t z

pub signs : (m : Meaning) (p : ℕ) (t : List ℕ) (z : ℕ) → Signs m p t z
signs m p t z = go (known p) (leb (length t) m.longest) (seal_of m.triples p t) (left_of m p) refl refl refl refl refl
  where
    room : (n : ℕ) (b : Bool) → known p ≡ true → left_of m p ≡ n → eqb n 0 ≡ b → answered m p t z ≡ cond b (Err Room) (Ok z) → signed m p t z ≡ cond (not b) (issued m p t z) m → Signs m p t z
    room n true k e b a h = refused Room a h
    room n false k e b a h = anew a k (let q = eqb-false n 0 b in omega arith) h

    go : (k l : Bool) (o : Option ℕ) (n : ℕ) → known p ≡ k → seal_of m.triples p t ≡ o → left_of m p ≡ n
        → answered m p t z ≡ cond k (cond l (granted o n z) (Err Text)) (Err Signer) → signed m p t z ≡ cond (k && (l && (not (is_some o) && not (eqb n 0)))) (issued m p t z) m → Signs m p t z
    go false l o n ek eo en a h = refused Signer a h
    go true false o n ek eo en a h = refused Text a h
    go true true (Some s) n ek eo en a h = again s a eo h
    go true true None n ek eo en a h = room n (eqb n 0) ek en refl a h

-- a scheme that refuses to seal stays as it was
pub refused_same : (m : Meaning) (p : ℕ) (t : List ℕ) (z : ℕ) (e : Refusal) → answered m p t z ≡ Err e → signed m p t z ≡ m
refused_same m p t z e h = go (signs m p t z)
  where
    go : Signs m p t z → signed m p t z ≡ m
    go (refused r a same) = same
    go (again s a o same) = same
    go (anew a k l new) = let is : Err e ≡ Ok z = sym h ∙ a in absurd (cc)

-- the triples after signing are those before, and perhaps more with the new seal
pub signed_grows : (m : Meaning) (p : ℕ) (t : List ℕ) (z : ℕ) → (us : List Triple) × ((signed m p t z).triples ≡ m.triples ++ us) × AllByRecursion (λ e. e.seal ≡ z) us
signed_grows m p t z = go (signs m p t z)
  where
    none : signed m p t z ≡ m → (us : List Triple) × ((signed m p t z).triples ≡ m.triples ++ us) × AllByRecursion (λ e. e.seal ≡ z) us
    none e = ([], ap (λ (x : Meaning). x.triples) e ∙ sym (append-nil m.triples), tt)

    go : Signs m p t z → (us : List Triple) × ((signed m p t z).triples ≡ m.triples ++ us) × AllByRecursion (λ e. e.seal ≡ z) us
    go (refused r a e) = none e
    go (again s a o e) = none e
    go (anew a k l e) = (triple p t z ∷ [], ap (λ (x : Meaning). x.triples) e, (refl, tt))

-- what was answered checks afterwards
pub signed_holds : (m : Meaning) (p : ℕ) (t : List ℕ) (z s : ℕ) → answered m p t z ≡ Ok s → holds (signed m p t z).triples p t s ≡ true
signed_holds m p t z s h = go (signs m p t z)
  where
    go : Signs m p t z → holds (signed m p t z).triples p t s ≡ true
    go (refused r a e) = let k : Ok s ≡ Err r = sym h ∙ a in absurd (cc)
    go (again u a o e) =
        let k : Ok u ≡ Ok s = sym a ∙ h in
        let q : u ≡ s = cc in
        ap (λ (x : Meaning). holds x.triples p t s) e ∙ seal_holds m.triples p t s (o ∙ ap Some q)
    go (anew a k l e) =
        let g : Ok z ≡ Ok s = sym a ∙ h in
        let q : z ≡ s = cc in
        ap (λ (x : Meaning). holds x.triples p t s) e ∙ ap (λ (n : ℕ). holds (m.triples ++ triple p t n ∷ []) p t s) q ∙ holds_last m.triples p t s

-- nobody gains a seal but the signer, and it on that text alone
pub signed_only : (m : Meaning) (p : ℕ) (u : List ℕ) (z a : ℕ) (t : List ℕ) → has (signed m p u z).triples a t ≡ true → (has m.triples a t ≡ true) ⊎ ((p ≡ a) × (u ≡ t))
signed_only m p u z a t h = go (signs m p u z)
  where
    at : (x : Meaning) → signed m p u z ≡ x → has x.triples a t ≡ true
    at x e = ap (λ (y : Meaning). has y.triples a t) (sym e) ∙ h

    go : Signs m p u z → (has m.triples a t ≡ true) ⊎ ((p ≡ a) × (u ≡ t))
    go (refused r w e) = inl (at m e)
    go (again s w o e) = inl (at m e)
    go (anew w k l e) = has_back m.triples p u z a t (at (issued m p u z) e)

-- a signer has at most one less left, and no other has less
left_issued : (m : Meaning) (p : ℕ) (t : List ℕ) (z a : ℕ) → known p ≡ true → length m.room ≡ 8 → (¬ (a ≡ p) → left_of (issued m p t z) a ≡ left_of m a) × (left_of m p ≤ left_of (issued m p t z) p + 1)
left_issued m p t z a k e =
    let both = and_parts (leb 1 p) (leb p 8) k in
    let low : 1 ≤ p = leb-true _ _ both.0 in
    let high : p ≤ 8 = leb-true _ _ both.1 in
    let here = cond-true (known p) (get_or (lowered m.room p) (p - 1) 0) 0 k ∙ get_or-set_same m.room (p - 1) (get_or m.room (p - 1) 0 - 1) 0 (omega arith) in
    let was = cond-true (known p) (get_or m.room (p - 1) 0) 0 k in
    (λ n. other n (cases_Bool (known a)), omega (arith, here, was))
  where
    other : ¬ (a ≡ p) → (known a ≡ true) ⊎ (known a ≡ false) → left_of (issued m p t z) a ≡ left_of m a
    other n (inr h) = cond-false _ _ _ h ∙ sym (cond-false _ _ _ h)
    other n (inl h) =
        let low : 1 ≤ p = leb-true _ _ (and_parts _ _ k).0 in
        let low' : 1 ≤ a = leb-true _ _ (and_parts _ _ h).0 in
        ap (λ (x : ℕ). cond (known a) x 0) (get_or-set_other m.room (p - 1) (a - 1) (get_or m.room (p - 1) 0 - 1) 0 (λ q. n (omega arith)))

pub signed_left : (m : Meaning) (p : ℕ) (t : List ℕ) (z a : ℕ) → length m.room ≡ 8 → (¬ (a ≡ p) → left_of (signed m p t z) a ≡ left_of m a) × (left_of m p ≤ left_of (signed m p t z) p + 1)
signed_left m p t z a r = go (signs m p t z)
  where
    none : signed m p t z ≡ m → (¬ (a ≡ p) → left_of (signed m p t z) a ≡ left_of m a) × (left_of m p ≤ left_of (signed m p t z) p + 1)
    none e = let k = ap (λ (x : Meaning). left_of x p) e in (λ n. ap (λ (x : Meaning). left_of x a) e, omega (arith, k))

    go : Signs m p t z → (¬ (a ≡ p) → left_of (signed m p t z) a ≡ left_of m a) × (left_of m p ≤ left_of (signed m p t z) p + 1)
    go (refused w v e) = none e
    go (again s v o e) = none e
    go (anew v k l e) =
        let i = left_issued m p t z a k r in
        let q = ap (λ (x : Meaning). left_of x p) e in
        (λ n. ap (λ (x : Meaning). left_of x a) e ∙ i.0 n, omega (arith, q, i.1))

-- signers and the longest text stay
pub signed_room : (m : Meaning) (p : ℕ) (t : List ℕ) (z : ℕ) → (length (signed m p t z).room ≡ length m.room) × ((signed m p t z).longest ≡ m.longest)
signed_room m p t z = go (signs m p t z)
  where
    same : (x : Meaning) → signed m p t z ≡ x → length x.room ≡ length m.room → x.longest ≡ m.longest
        → (length (signed m p t z).room ≡ length m.room) × ((signed m p t z).longest ≡ m.longest)
    same x e r l = (ap (λ (y : Meaning). length y.room) e ∙ r, ap (λ (y : Meaning). y.longest) e ∙ l)

    go : Signs m p t z → (length (signed m p t z).room ≡ length m.room) × ((signed m p t z).longest ≡ m.longest)
    go (refused w v e) = same m e refl refl
    go (again s v o e) = same m e refl refl
    go (anew v k l e) = same (issued m p t z) e (length-set m.room (p - 1) (get_or m.room (p - 1) 0 - 1)) refl

-- a known signer with some left is not refused a short text
pub signed_granted : (m : Meaning) (p : ℕ) (t : List ℕ) (z : ℕ) → known p ≡ true → length t ≤ m.longest → 1 ≤ left_of m p → (s : ℕ) × (answered m p t z ≡ Ok s)
signed_granted m p t z k l n = go (seal_of m.triples p t) refl
  where
    short : leb (length t) m.longest ≡ true
    short = le-leb (length t) m.longest l

    seal : answered m p t z ≡ granted (seal_of m.triples p t) (left_of m p) z
    seal = cond-true _ _ _ k ∙ cond-true _ _ _ short

    go : (o : Option ℕ) → seal_of m.triples p t ≡ o → (s : ℕ) × (answered m p t z ≡ Ok s)
    go (Some s) e = (s, seal ∙ ap (λ o. granted o (left_of m p) z) e)
    go None e = (z, seal ∙ ap (λ o. granted o (left_of m p) z) e ∙ cond-false _ _ _ (ne_eqb (left_of m p) 0 (λ q. absurd (omega arith))))
