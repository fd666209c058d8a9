-- A processor with another part, or another bag, in the view of the protocol.
use Rattle.std.proofs.Common.{◌≡◌, ℕ, zero, suc, ◌-◌, ◌<◌, ◌≤◌, List, length, get_or, set, sym, refl, ap, ◌∙◌, arith}
use native.Mathlib.Decide.{ℕ_discrete}
use Rattle.std.proofs.lemmas.List.{get_or-set_same, get_or-set_other, length-set}
use Rattle.processor.specs.declared.part.Bag as Kept
use Rattle.processor.specs.declared.part.Bag.TheVariants.{Empty}
use Rattle.processor.specs.declared.part.Part.{Part}
use Rattle.processor.specs.Parts.{bag_of}
use Rattle.processor.specs.Bags.{with_bag}
use Rattle.bench.specs.Model.{Model}
use Rattle.bench.specs.Flights.{on_core, with_part, part_at}
use Rattle.bench.specs.Reports.{no_part}
use Rattle.protocol.specs.Moves.{OtherBags}
use Rattle.bench.proofs.Worlds.{World, entry_of, bag_shown, bag_at}
use Rattle.bench.proofs.View.{view, Sound}

-- a processor's entry is at its number less one
pub entry_at : {X : Type 0} (none : X) (xs : List X) (p : ℕ) → 1 ≤ p → entry_of none xs p ≡ get_or xs (p - 1) none
entry_at none xs p h = let e : p ≡ suc (p - 1) = omega arith in ap (entry_of none xs) e

-- a processor's entry after one was changed
pub entry_here : {X : Type 0} (none : X) (xs : List X) (q : ℕ) (x : X) → q < length xs → entry_of none (set xs q x) (suc q) ≡ x
entry_here none xs q x h = get_or-set_same xs q x none h

pub entry_other : {X : Type 0} (none : X) (xs : List X) (q : ℕ) (x : X) (p : ℕ) → ¬ (p ≡ suc q) → entry_of none (set xs q x) p ≡ entry_of none xs p
entry_other none xs q x zero n = refl
entry_other none xs q x (suc p) n = get_or-set_other xs q p x none (λ e. n (ap suc e))

-- the bag of an item, after one was changed too
pub bag_at_bag_of : (part : Part) (i : ℕ) → 1 ≤ i → bag_at part i ≡ bag_of part i
bag_at_bag_of part zero h = absurd (omega arith)
bag_at_bag_of part (suc i) h = let back : suc i - 1 ≡ i = omega arith in ap (λ j. get_or part.bags j Empty) (sym back)

with_bag_same : (part : Part) (i : ℕ) (b : Kept.Bag) → length part.bags ≡ 8 → 1 ≤ i → i ≤ 8 → bag_at (with_bag part i b) i ≡ b
with_bag_same part i b eight low high = bag_at_bag_of (with_bag part i b) i low ∙ get_or-set_same part.bags (i - 1) b Empty (omega arith)

with_bag_other : (part : Part) (i : ℕ) (b : Kept.Bag) (k : ℕ) → 1 ≤ i → ¬ (k ≡ i) → bag_at (with_bag part i b) k ≡ bag_at part k
with_bag_other part i b zero low n = refl
with_bag_other part i b (suc k) low n = get_or-set_other part.bags (i - 1) k b Empty (λ e. n (omega arith))

-- the processor at place q has another bag of item i
abbrev pub rebagged : Model → ℕ → ℕ → Kept.Bag → Model
rebagged m q i b = on_core m (with_part m.core q (with_bag (part_at m.core q) i b))

-- the processor at place q has another part
module _ (W : World) (m : Model) (S : Sound W m) (q : ℕ) (seat : q < 8) where
  pub part_here : (part : Part) → entry_of no_part (set m.core.parts q part) (suc q) ≡ part
  part_here part = entry_here no_part m.core.parts q part (let e = S.parts in omega arith)

  part_other : (part : Part) (p : ℕ) → ¬ (p ≡ suc q) → entry_of no_part (set m.core.parts q part) p ≡ entry_of no_part m.core.parts p
  part_other part p n = entry_other no_part m.core.parts q part p n

  part_sound : (part : Part) → part.own ≡ suc q → length part.bags ≡ 8 → Sound W (on_core m (with_part m.core q part))
  part_sound part own eight = record {
    plan = S.plan;
    offsets = S.offsets;
    turned = S.turned;
    parts = length-set m.core.parts q part ∙ S.parts;
    own = λ k h. (at k h (ℕ_discrete (suc k) (suc q))).0;
    bags = λ k h. (at k h (ℕ_discrete (suc k) (suc q))).1;
    flying = S.flying;
    left = S.left;
    longest = S.longest;
    room = S.room;
    seals = S.seals;
  }
    where
      at : (k : ℕ) → k < 8 → Dec (suc k ≡ suc q) → ((get_or (set m.core.parts q part) k no_part).own ≡ suc k) × (length (get_or (set m.core.parts q part) k no_part).bags ≡ 8)
      at k h (yes e) =
          let is = ap (entry_of no_part (set m.core.parts q part)) e ∙ part_here part in
          (ap (λ (x : Part). x.own) is ∙ own ∙ sym e, ap (λ (x : Part). length x.bags) is ∙ eight)
      at k h (no n) =
          let is = part_other part (suc k) n in
          (ap (λ (x : Part). x.own) is ∙ S.own k h, ap (λ (x : Part). length x.bags) is ∙ S.bags k h)

  -- its bag of item i is another
  module _ (i : ℕ) (b : Kept.Bag) (low : 1 ≤ i) (high : i ≤ 8) where
    pub bag_sound : Sound W (rebagged m q i b)
    bag_sound = part_sound (with_bag (part_at m.core q) i b) (S.own q seat) (length-set (part_at m.core q).bags (i - 1) b ∙ S.bags q seat)

    pub bag_here : (view (rebagged m q i b)).bag (suc q) i ≡ bag_shown b
    bag_here = ap (λ (x : Part). bag_shown (bag_at x i)) (part_here _) ∙ ap bag_shown (with_bag_same (part_at m.core q) i b (S.bags q seat) low high)

    pub bag_others : OtherBags (suc q) i (view m) (view (rebagged m q i b))
    bag_others = (
      λ p k n. ap (λ (x : Part). bag_shown (bag_at x k)) (part_other _ p n),
      λ p k n. ap bag_shown (at p k n (ℕ_discrete p (suc q))),
    )
      where
        at : (p k : ℕ) → ¬ (k ≡ i) → Dec (p ≡ suc q) → bag_at (entry_of no_part (rebagged m q i b).core.parts p) k ≡ bag_at (entry_of no_part m.core.parts p) k
        at p k n (no h) = ap (λ (x : Part). bag_at x k) (part_other _ p h)
        at p k n (yes h) =
            ap (λ (x : ℕ). bag_at (entry_of no_part (rebagged m q i b).core.parts x) k) h
            ∙ ap (λ (x : Part). bag_at x k) (part_here _)
            ∙ with_bag_other (part_at m.core q) i b k low n
            ∙ ap (λ (x : ℕ). bag_at (entry_of no_part m.core.parts x) k) (sym h)
