-- What opening an item answers and leaves.
use Rattle.std.specs.Prelude.{ℕ, Bool, true, false, [], Ok, Result, ◌==◌}
use Rattle.refusals.specs.declared.refusal.Refusal.{Refusal}
use Rattle.refusals.specs.declared.refusal.Refusal.TheVariants.{Item, Moment, Sender, Opened, Value}
use Rattle.plans.specs.Setups.{Setup}
use Rattle.processor.specs.declared.owed.Owed.{Owed}
use Rattle.processor.specs.declared.part.Bag.{Bag}
use Rattle.processor.specs.declared.part.Bag.TheVariants.{Empty, One, Two, Closed}
use Rattle.processor.specs.declared.part.Part.{Part}
use Rattle.processor.specs.Parts.{bag_of}
use Rattle.processor.specs.Broadcasts.{owed_for}
use Rattle.processor.specs.Steps.{passes, after, after_on}
use Rattle.processor.specs.Agendas.{appointed}
use Rattle.processor.specs.Bags.{with_bag}

abbrev pub is_empty : Bag → Bool
is_empty Empty = true
is_empty (One a) = false
is_empty (Two a b) = false
is_empty (Closed d) = false

-- the item is one of the agenda's (row 11), it is its moment (row 15), the processor is its sender (row 17) and has
-- nothing in the bag (row 18), and the value is admitted (row 19)
abbrev pub opening : (ℕ → Bool) → Setup → ℕ → ℕ → ℕ → Part → Result Unit Refusal
opening admitted s reading item v p =
    after (appointed s item Item) (λ a.
    after (passes (reading == a.reading) Moment) (λ _.
    after (passes (p.own == a.sender) Sender) (λ _.
    after (passes (is_empty (bag_of p item)) Opened) (λ _.
    passes (admitted v) Value))))

-- open: the value is in the own bag, and the broadcast with no links is owed; or the first row that applies
abbrev pub opened : (ℕ → Bool) → Setup → ℕ → ℕ → ℕ → Part → Result Owed Refusal × Part
opened admitted s reading item v p = after_on p (opening admitted s reading item v p) (λ _. (Ok (owed_for item v p.own []), with_bag p item (One v)))
