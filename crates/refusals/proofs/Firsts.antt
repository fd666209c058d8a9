-- The smallest place that fails, a loop that stops there, and the library's first place in a list.
use Rattle.std.proofs.Common.{◌≡◌, ℕ, zero, suc, ◌+◌, ◌-◌, ◌<◌, ◌≤◌, Bool, true, false, ◌⊎◌, List, length, get_or, take, Some, None, Option, refl, sym, ap, ◌∙◌, inl, inr, add-one, arith}
use Rattle.std.specs.Prelude.{slice_index_or}
use Rattle.std.specs.List.{find, list_any, position, position_or_len}
use Rattle.std.specs.List.{list_all, range_with_len}
use Rattle.std.specs.Prelude.{not, is_some, ◌&&◌, ◌∷◌, [], ◌++◌}
use Rattle.std.proofs.iter.Rest.{range_with_len_last}
use Rattle.std.proofs.lemmas.List.{get_or_default, get_or-take, length-take-le}
use Rattle.std.proofs.lemmas.List.Folds.{find_at, list_all-append, list_any_at, list_any_none}
use Rattle.std.proofs.lemmas.List.FromFn.{length-range_with_len, get_or-range_with_len}
use Rattle.std.proofs.lemmas.List.Sums.{fails_before_first, passes_at_first}
use Rattle.std.proofs.lemmas.Option.{slice_get-get_or, slice_get_past}
use native.Mathlib.Decide.{ℕ_discrete}
use Rattle.std.proofs.lemmas.Bool.{cases_order, cases_lt}
use Rattle.refusals.specs.Places.{first, or_here}

pub first_none : (P : ℕ → Bool) → first P 0 ≡ None
unfolding first
first_none P = refl

-- one place more that says no
pub first_more : (P : ℕ → Bool) (i : ℕ) → first P i ≡ None → P i ≡ false → first P (i + 1) ≡ None
unfolding first
first_more P i e f = rw add-one (rw (e, f) refl)

-- the place where a loop stops is the answer at every length past it
pub first_stop : (P : ℕ → Bool) (i n : ℕ) → i < n → first P i ≡ None → P i ≡ true → first P n ≡ Some i
unfolding first
first_stop P i zero h e t = absurd (omega arith)
first_stop P i (suc n) h e t = by (cases_order i n) (λ l. first_stop P i n l e t)
  where
    by : (i ≡ n) ⊎ ((i < n) ⊎ (n < i)) → (i < n → first P n ≡ Some i) → or_here (first P n) (P n) n ≡ Some i
    by (inl q) ih = rw (← q) (rw (e, t) refl)
    by (inr (inl l)) ih = rw (ih l) refl
    by (inr (inr l)) ih = absurd (omega arith)

-- what is answered is below m, and P says yes there
pub first_found : (P : ℕ → Bool) (m k : ℕ) → first P m ≡ Some k → (k < m) × (P k ≡ true)
unfolding first
first_found P zero k e = absurd (cc)
first_found P (suc m) k e = by (first P m) refl (P m) refl e (first_found P m)
  where
    by : (o : Option ℕ) → first P m ≡ o → (b : Bool) → P m ≡ b → or_here o b m ≡ Some k → ((j : ℕ) → first P m ≡ Some j → (j < m) × (P j ≡ true)) → (k < suc m) × (P k ≡ true)
    by None f true g h ih = let q : m ≡ k = cc in (omega arith, rw q at g)
    by None f false g h ih = absurd (cc)
    by (Some j) f b g h ih = let q : j ≡ k = cc in let r = ih j f in (omega arith, rw q at r.1)

-- where none is found, none passes
pub none_at : (P : ℕ → Bool) (m k : ℕ) → first P m ≡ None → k < m → P k ≡ false
unfolding first
none_at P zero k e h = absurd (omega arith)
none_at P (suc m) k e h = go (first P m) (P m) refl refl e (ℕ_discrete k m) (λ f l. none_at P m k f l)
  where
    go : (o : Option ℕ) (b : Bool) → first P m ≡ o → P m ≡ b → or_here o b m ≡ None → Dec (k ≡ m) → (first P m ≡ None → k < m → P k ≡ false) → P k ≡ false
    go (Some j) b eo eb f d ih = absurd (cc)
    go None true eo eb f d ih = absurd (cc)
    go None false eo eb f (yes q) ih = ap P q ∙ eb
    go None false eo eb f (no q) ih = ih eo (omega arith)

pub none_from : (P : ℕ → Bool) (m : ℕ) → ((k : ℕ) → k < m → P k ≡ false) → first P m ≡ None
unfolding first
none_from P zero h = refl
none_from P (suc m) h = rw (none_from P m (λ k l. h k (omega arith))) (rw (h m (omega arith)) refl)

-- the first place in a list is the smallest place below its length
pub first_position : {X : Type 0} (p : X → Bool) (xs : List X) (d : X) → position p xs ≡ first (λ k. p (slice_index_or xs k d)) (length xs)
first_position p xs d = by (cases_order (position_or_len p xs) (length xs))
  where
    at : position_or_len p xs < length xs → position p xs ≡ first (λ k. p (slice_index_or xs k d)) (length xs)
    at l = rw (first_stop (λ k. p (slice_index_or xs k d)) (position_or_len p xs) (length xs) l (none_from _ (position_or_len p xs) (λ k h. fails_before_first p xs k d h)) (passes_at_first p xs d l)) (grind arith)

    past : length xs ≤ position_or_len p xs → position p xs ≡ first (λ k. p (slice_index_or xs k d)) (length xs)
    past l = rw (none_from (λ k. p (slice_index_or xs k d)) (length xs) (λ k h. fails_before_first p xs k d (omega arith))) (grind arith)

    by : (position_or_len p xs ≡ length xs) ⊎ ((position_or_len p xs < length xs) ⊎ (length xs < position_or_len p xs)) → position p xs ≡ first (λ k. p (slice_index_or xs k d)) (length xs)
    by (inl q) = past (omega arith)
    by (inr (inl l)) = at l
    by (inr (inr l)) = past (omega arith)

-- none is found where every place below n says no
pub all_below : (P : ℕ → Bool) (n : ℕ) → list_all (λ k. not (P k)) (range_with_len 0 n) ≡ not (is_some (first P n))
unfolding first
all_below P zero = refl
all_below P (suc n) =
    let all : suc n - 0 ≡ suc n = omega arith in
    let less : suc n - 1 ≡ n = omega arith in
    let rest : n - 0 ≡ n = omega arith in
    let last : range_with_len 0 (suc n) ≡ range_with_len 0 n ++ n ∷ [] = rw (all, less, rest) at (range_with_len_last 0 (suc n) (omega arith)) in
    ap (list_all (λ k. not (P k))) last ∙ (list_all-append (λ k. not (P k)) (range_with_len 0 n) (n ∷ []) ∙ rw (all_below P n) (by (first P n) (P n)))
  where
    by : (o : Option ℕ) (b : Bool) → (not (is_some o) && (not b && true)) ≡ not (is_some (or_here o b n))
    by (Some k) b = refl
    by None true = refl
    by None false = refl

-- tests that say the same below n
pub first_same : (P Q : ℕ → Bool) (n : ℕ) → ((k : ℕ) → k < n → P k ≡ Q k) → first P n ≡ first Q n
unfolding first
first_same P Q zero h = refl
first_same P Q (suc n) h = rw (first_same P Q n (λ k l. h k (omega arith))) (rw (h n (omega arith)) refl)

-- what `any` and `contains` answer of the first n elements
pub first_any : {X : Type 0} (p : X → Bool) (xs : List X) (n : ℕ) (d : X) → n ≤ length xs → list_any p (take n xs) ≡ is_some (first (λ k. p (get_or xs k d)) n)
first_any p xs n d h = by (first (λ k. p (get_or xs k d)) n) refl
  where
    long : length (take n xs) ≡ n
    long = length-take-le n xs h

    by : (o : Option ℕ) → first (λ k. p (get_or xs k d)) n ≡ o → list_any p (take n xs) ≡ is_some o
    by (Some k) e =
        let found = first_found (λ k. p (get_or xs k d)) n k e in
        list_any_at p (take n xs) k d (omega (arith, long, found.0)) (ap p (get_or-take n xs k d found.0) ∙ found.1)
    by None e = list_any_none p (take n xs) (λ k c l.
        let within : k < n = omega (arith, long, l) in
        ap p (get_or-take n xs k c within ∙ get_or_default xs k c d (omega arith)) ∙ none_at (λ k. p (get_or xs k d)) n k e within)

-- what `find` answers of the numbers below n
pub first_find : (P : ℕ → Bool) (n : ℕ) → find P (range_with_len 0 n) ≡ first P n
first_find P n = by (cases_lt i n)
  where
    ks : List ℕ
    ks = range_with_len 0 n

    i : ℕ
    i = position_or_len P ks

    long : length ks ≡ n
    long = length-range_with_len 0 n

    at : (k : ℕ) → k < n → get_or ks k 0 ≡ k
    at k l = let n = get_or-range_with_len 0 n k 0 l in omega arith

    none : (m : ℕ) → m ≤ n → m ≤ i → first P m ≡ None
    none m l h = none_from P m (λ k b. ap P (sym (at k (omega arith))) ∙ fails_before_first P ks k 0 (omega arith))

    by : (i < n) ⊎ (n ≤ i) → find P ks ≡ first P n
    by (inl l) =
        let within : i < length ks = omega (arith, long) in
        find_at P ks ∙ slice_get-get_or ks i 0 within ∙ ap Some (at i l) ∙ sym (first_stop P i n l (none i (omega arith) (omega arith)) (ap P (sym (at i l)) ∙ passes_at_first P ks 0 within))
    by (inr h) = find_at P ks ∙ slice_get_past ks i (omega (arith, long)) ∙ sym (none n (omega arith) h)
