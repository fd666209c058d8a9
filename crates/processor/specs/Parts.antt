-- The state of one processor.
use Rattle.std.specs.Prelude.{ℕ, ◌-◌, cond, ◌&&◌, replicate, Some, None, Option, nat_le, slice_index_or}
use Rattle.processor.specs.declared.part.Bag.{Bag}
use Rattle.processor.specs.declared.part.Bag.TheVariants.{Empty, One, Two, Closed}
use Rattle.processor.specs.declared.part.Decision.{Decision}
use Rattle.processor.specs.declared.part.Part.{Part}

-- a processor that has accepted nothing
abbrev pub fresh_part : ℕ → Part
fresh_part own = record { own = own; bags = replicate 8 Empty }

-- the decision that closed a bag, if one did
abbrev pub record_in : Bag → Option Decision
record_in Empty = None
record_in (One v) = None
record_in (Two v w) = None
record_in (Closed d) = Some d

-- the bag of an item, items being numbered from 1
abbrev pub bag_of : Part → ℕ → Bag
bag_of p item = slice_index_or p.bags (item - 1) Empty

-- the decision recorded for an item, if there is one
abbrev pub record_of : Part → ℕ → Option Decision
record_of p item = cond (nat_le 1 item && nat_le item 8) (record_in (bag_of p item)) None
