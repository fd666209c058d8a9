-- Where a run begins: at a bench whose making was granted.
use Rattle.std.proofs.Common.{◌≡◌, ℕ, zero, suc, ◌+◌, ◌-◌, ◌<◌, ◌≤◌, Bool, true, false, cond, ◌&&◌, eqb, ltb, leb, ◌⊎◌, List, [], ◌∷◌, length, get_or, replicate, is_some, Some, Ok, Err, Result, sym, refl, ap, ◌∙◌, subst, inl, inr, arith}
use Rattle.std.proofs.lemmas.List.Sums.{sum_by-cons}
use Rattle.std.proofs.lemmas.Bool.{not-true, cases_Bool, and_parts, and_left, and_right, leb-true, ltb-false, cond-true, cond-false}
use Rattle.refusals.specs.declared.refusal.Refusal.{Refusal}
use Rattle.seals.specs.Meanings.{Triple, Meaning, seal_of, left_of, count_for, Tidy}
use Rattle.plans.specs.declared.plan.Appointment.{Appointment}
use Rattle.plans.specs.declared.plan.Plan.{Plan}
use Rattle.plans.specs.Readings.{latest}
use Rattle.plans.proofs.Bounds.{agenda_timely}
use Rattle.plans.specs.Setups.{Setup, setup_of, setup_in, sizes_fit, item_fits, items_fit, agenda_fits, planned}
use Rattle.plans.specs.Schemes.{has_room, is_unused, served, prepared}
use Rattle.processor.specs.declared.part.Bag.TheVariants.{Empty}
use Rattle.processor.specs.declared.part.Part.{Part}
use Rattle.processor.specs.Parts.{fresh_part}
use Rattle.bench.specs.Model.{Model}
use Rattle.bench.specs.Making.{fresh, made}
use Rattle.bench.specs.Reports.{no_part}
use Rattle.protocol.specs.Moves.{Start}
use Rattle.bench.proofs.Worlds.{World, plan_of, entry_of, bag_shown, bag_at}
use Rattle.bench.proofs.View.{view, Sound}
use Rattle.processor.proofs.Sealing.{nowhere}
use Rattle.processor.proofs.Outcomes.{no_ok, ok_same, cond_ok}

-- what a making asks of a setup
pub record Fits (s : Setup) : Type 0 where
  pub sizes : sizes_fit s.n s.f s.d s.e ≡ true
  pub items : agenda_fits s.n s.agenda ≡ true

-- and of a scheme, for n processors
record Serves (n : ℕ) (m : Meaning) : Type 0 where
  longest : leb 18 m.longest ≡ true
  room : has_room n m ≡ true
  unused : is_unused n m ≡ true

planned_fits : (n f d e : ℕ) (agenda : List Appointment) (s : Setup) → planned n f d e agenda ≡ Ok s → Fits s
planned_fits n f d e agenda s h =
    let a = cond_ok (sizes_fit n f d e) _ s _ h in
    let b = cond_ok (agenda_fits n agenda) _ s _ a.1 in
    subst Fits (ok_same _ s b.1) (record { sizes = a.0; items = b.0 })

served_serves : (m : Meaning) (r : Result Setup Refusal) (s : Setup) → served m r ≡ Ok s → (r ≡ Ok s) × Serves s.n m
served_serves m (Ok t) s h =
    let a = cond_ok (leb 18 m.longest && has_room t.n m) _ s _ h in
    let b = cond_ok (is_unused t.n m) (Ok t) s _ a.1 in
    let c = and_parts (leb 18 m.longest) (has_room t.n m) a.0 in
    (b.1, subst (λ (x : Setup). Serves x.n m) (ok_same t s b.1) (record { longest = c.0; room = c.1; unused = b.0 }))
served_serves m (Err r) s h = no_ok r s h

pub prepared_fits : (n f d e : ℕ) (agenda : List Appointment) (scheme : Meaning) (s : Setup) → prepared n f d e agenda scheme ≡ Ok s → Fits s
prepared_fits n f d e agenda scheme s h = planned_fits n f d e agenda s (served_serves scheme (planned n f d e agenda) s h).0

-- each reading of a plan that was made is at most 1,000,000
pub made_timely : (r : Result Plan Refusal) (n f d e : ℕ) (agenda : List Appointment) (scheme : Meaning) → setup_in r ≡ prepared n f d e agenda scheme → (p : Plan) → r ≡ Ok p → latest (setup_of p).agenda ≤ 1000000
made_timely r n f d e agenda scheme h p is = agenda_timely p.n (setup_of p).agenda (prepared_fits n f d e agenda scheme (setup_of p) (sym h ∙ ap setup_in is)).items

item_fits_at : (n : ℕ) (agenda : List Appointment) (k : ℕ) (none : Appointment) → items_fit n agenda ≡ true → k < length agenda → item_fits n (get_or agenda k none) ≡ true
item_fits_at n [] k none h l = absurd (omega arith)
item_fits_at n (a ∷ rest) zero none h l = (and_parts (item_fits n a) (items_fit n rest) h).0
item_fits_at n (a ∷ rest) (suc k) none h l = item_fits_at n rest k none (and_parts (item_fits n a) (items_fit n rest) h).1 (omega arith)

-- the numbers of a setup that fits
module _ (s : Setup) (h : Fits s) where
  pub sizes_bounds : (3 ≤ s.n) × (s.n ≤ 8) × (s.f + 2 ≤ s.n) × (1 ≤ s.d)
  sizes_bounds =
      let a = and_parts (leb 3 s.n) _ h.sizes in
      let b = and_parts (leb s.n 8) _ a.1 in
      let c = and_parts (leb (s.f + 2) s.n) _ b.1 in
      let d = and_parts (leb 1 s.d) _ c.1 in
      (leb-true _ _ a.0, leb-true _ _ b.0, leb-true _ _ c.0, leb-true _ _ d.0)

  pub items_fit_at : (length s.agenda ≤ 8) × (items_fit s.n s.agenda ≡ true)
  items_fit_at =
      let a = and_parts (leb 1 (length s.agenda)) _ h.items in
      let b = and_parts (leb (length s.agenda) 8) _ a.1 in
      (leb-true _ _ b.0, b.1)

  pub sender_seated : (k : ℕ) (none : Appointment) → k < length s.agenda → (1 ≤ (get_or s.agenda k none).sender) × ((get_or s.agenda k none).sender ≤ s.n)
  sender_seated k none l =
      let x = get_or s.agenda k none in
      let a = and_parts (leb 1 x.sender) _ (item_fits_at s.n s.agenda k none items_fit_at.1 l) in
      let b = and_parts (leb x.sender s.n) (leb x.reading 1000000) a.1 in
      (leb-true _ _ a.0, leb-true _ _ b.0)

-- a kind of value and a setup that fits
abbrev pub world_of : (admitted : ℕ → Bool) (same : ℕ → ℕ → Bool) → ((a : ℕ) → admitted a ≡ true → same a a ≡ true) → ((a b : ℕ) → same a b ≡ true → same b a ≡ true)
    → ((a b c : ℕ) → same a b ≡ true → same b c ≡ true → same a c ≡ true) → (s : Setup) → Fits s → World
world_of admitted same reflexive symmetric transitive s h = record {
  admitted = admitted;
  same = same;
  reflexive = reflexive;
  symmetric = symmetric;
  transitive = transitive;
  setup = s;
  n_low = (sizes_bounds s h).0;
  n_high = (sizes_bounds s h).1;
  spare = (sizes_bounds s h).2;
  d_low = (sizes_bounds s h).3;
  few = (items_fit_at s h).0;
  senders = sender_seated s h;
}

-- a signer with no triple has sealed nothing
none_sealed : (es : List Triple) (p : ℕ) (t : List ℕ) → count_for p es ≡ 0 → is_some (seal_of es p t) ≡ false
none_sealed [] p t h = refl
none_sealed (e ∷ es) p t h = go (cases_Bool (eqb e.signer p)) (sum_by-cons (λ (x : Triple). cond (eqb x.signer p) 1 0) e es) (none_sealed es p t)
  where
    go : (eqb e.signer p ≡ true) ⊎ (eqb e.signer p ≡ false) → count_for p (e ∷ es) ≡ cond (eqb e.signer p) 1 0 + count_for p es
        → (count_for p es ≡ 0 → is_some (seal_of es p t) ≡ false) → is_some (seal_of (e ∷ es) p t) ≡ false
    go (inl k) c ih = let b : ◌≡◌ {A = ℕ} (cond (eqb e.signer p) 1 0) 1 = cond-true _ 1 0 k in absurd (omega arith)
    go (inr k) c ih = ap is_some (cond-false _ (Some e.seal) (seal_of es p t) (and_left _ _ k)) ∙ ih (let b : ◌≡◌ {A = ℕ} (cond (eqb e.signer p) 1 0) 0 = cond-false _ 1 0 k in omega arith)

-- a list of one thing, also past its end
get_d_same : {X : Type 0} (n q : ℕ) (x : X) → get_or (replicate n x) q x ≡ x
get_d_same zero q x = refl
get_d_same (suc n) zero x = refl
get_d_same (suc n) (suc q) x = get_d_same n q x

entry_same : {X : Type 0} (n p : ℕ) (x : X) → entry_of x (replicate n x) p ≡ x
entry_same n zero x = refl
entry_same n (suc q) x = get_d_same n q x

-- the parts of a fresh bench
module _ (plan : Result Setup Refusal) where
  abbrev PartCases : ℕ → Type 0
  PartCases q = ((q < 8) × (get_or (fresh plan).parts q no_part ≡ fresh_part (suc q))) ⊎ ((8 ≤ q) × (get_or (fresh plan).parts q no_part ≡ no_part))

  part_fresh : (q : ℕ) → PartCases q
  part_fresh zero = inl (omega arith, refl)
  part_fresh (suc zero) = inl (omega arith, refl)
  part_fresh (suc (suc zero)) = inl (omega arith, refl)
  part_fresh (suc (suc (suc zero))) = inl (omega arith, refl)
  part_fresh (suc (suc (suc (suc zero)))) = inl (omega arith, refl)
  part_fresh (suc (suc (suc (suc (suc zero))))) = inl (omega arith, refl)
  part_fresh (suc (suc (suc (suc (suc (suc zero)))))) = inl (omega arith, refl)
  part_fresh (suc (suc (suc (suc (suc (suc (suc zero))))))) = inl (omega arith, refl)
  part_fresh (suc (suc (suc (suc (suc (suc (suc (suc q)))))))) = inr (omega arith, refl)

  part_at : (q : ℕ) → q < 8 → get_or (fresh plan).parts q no_part ≡ fresh_part (suc q)
  part_at q l = go (part_fresh q)
    where
      go : PartCases q → get_or (fresh plan).parts q no_part ≡ fresh_part (suc q)
      go (inl h) = h.1
      go (inr h) = let b = h.0 in absurd (omega arith)

  -- nobody has anything of any item
  bags_fresh : (p i : ℕ) → bag_at (entry_of no_part (fresh plan).parts p) i ≡ Empty
  bags_fresh zero i = entry_same 0 i Empty
  bags_fresh (suc q) i = go (part_fresh q)
    where
      go : PartCases q → bag_at (get_or (fresh plan).parts q no_part) i ≡ Empty
      go (inl h) = ap (λ (x : Part). bag_at x i) h.1 ∙ entry_same 8 i Empty
      go (inr h) = ap (λ (x : Part). bag_at x i) h.1 ∙ entry_same 0 i Empty

-- a bench whose making was granted: it is sound, and a run of the protocol begins there
module _ (W : World) (n f d e : ℕ) (agenda : List Appointment) (scheme : Meaning) (granted : prepared n f d e agenda scheme ≡ Ok W.setup) (tidy : Tidy scheme) where
  abbrev m : Model
  m = made n f d e agenda scheme

  serves : Serves W.setup.n scheme
  serves = (served_serves scheme (planned n f d e agenda) W.setup granted).1

  -- the tests of the making at signer p
  left_enough : (p : ℕ) → 1 ≤ p → p ≤ W.setup.n → 16 ≤ left_of scheme p
  left_enough p a b =
      let k : p - 1 + 1 ≡ p = omega arith in
      ltb-false _ _ (ap (λ (x : ℕ). ltb (left_of scheme x) 16) (sym k) ∙ nowhere (λ j. ltb (left_of scheme (j + 1)) 16) W.setup.n (p - 1) (not-true _ serves.room) (omega arith))

  none_yet : (p : ℕ) → 1 ≤ p → p ≤ W.setup.n → count_for p scheme.triples ≡ 0
  none_yet p low high =
      let k : p - 1 + 1 ≡ p = omega arith in
      let b = nowhere (λ j. ltb 0 (count_for (j + 1) scheme.triples)) W.setup.n (p - 1) (not-true _ serves.unused) (omega arith) in
      let c = ltb-false _ _ (ap (λ (x : ℕ). ltb 0 (count_for x scheme.triples)) (sym k) ∙ b) in
      omega arith

  pub sound_made : Sound W m
  sound_made = record {
    plan = granted;
    offsets = refl;
    turned = refl;
    parts = refl;
    own = λ q l. ap (λ (x : Part). x.own) (part_at m.core.plan q l);
    bags = λ q l. ap (λ (x : Part). length x.bags) (part_at m.core.plan q l);
    flying = λ k l. absurd (omega arith);
    left = λ p a b h. let l = left_enough p a b in omega arith;
    longest = leb-true _ _ serves.longest;
    room = tidy.eight;
    seals = tidy.seals;
  }

  pub start_made : Start (plan_of W) (view m)
  start_made = record {
    clock = refl;
    offsets = λ p. entry_same 8 p 0;
    turns = λ p. entry_same 8 p false;
    faults = refl;
    bags = λ p i. ap bag_shown (bags_fresh m.core.plan p i);
    seals = λ a i v l s. and_right _ _ (none_sealed scheme.triples a _ (none_yet a s.0 s.1));
    number = refl;
  }
