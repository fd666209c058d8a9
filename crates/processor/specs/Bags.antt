-- What an arriving value or a decision does to a bag.
use Rattle.std.specs.Prelude.{ℕ, ◌-◌, Bool, cond, ◌||◌, Ok, Err, Result, slice_set}
use Rattle.refusals.specs.declared.refusal.Refusal.{Refusal}
use Rattle.refusals.specs.declared.refusal.Refusal.TheVariants.{Same, Full, Closed as IsClosed}
use Rattle.processor.specs.declared.part.Bag.{Bag}
use Rattle.processor.specs.declared.part.Bag.TheVariants.{Empty, One, Two, Closed}
use Rattle.processor.specs.declared.part.Decision.{Decision}
use Rattle.processor.specs.declared.part.Decision.TheVariants.{Default, Value}
use Rattle.processor.specs.declared.part.Part.{Part}
use Rattle.processor.specs.Steps.{after_on}

-- what a bag decides: the value of one, the default of none or two, and what was decided before
abbrev pub decision_of : Bag → Decision
decision_of Empty = Default
decision_of (One a) = Value a
decision_of (Two a b) = Default
decision_of (Closed d) = d

-- the bag with an arriving value in it, unless it is closed (row 40), holds the same (row 41) or holds two (row 42)
abbrev pub joined : (ℕ → ℕ → Bool) → Bag → ℕ → Result Bag Refusal
joined same Empty v = Ok (One v)
joined same (One a) v = cond (same a v) (Err Same) (Ok (Two a v))
joined same (Two a b) v = cond (same a v || same b v) (Err Same) (Err Full)
joined same (Closed d) v = Err IsClosed

-- a value joins, or a refusal leaves the bag as it was
abbrev pub joins : (ℕ → ℕ → Bool) → Bag → ℕ → Result Unit Refusal × Bag
joins same b v = after_on b (joined same b v) (λ more. (Ok tt, more))

-- a decision closes the bag
abbrev pub closes : Bag → Decision × Bag
closes b = (decision_of b, Closed (decision_of b))

-- the part with another bag for the item
abbrev pub with_bag : Part → ℕ → Bag → Part
with_bag p item b = record { own = p.own; bags = slice_set p.bags (item - 1) b }
