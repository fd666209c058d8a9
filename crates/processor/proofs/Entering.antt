-- A refused value leaves the part as it was.
use Rattle.std.proofs.Common.{◌≡◌, ℕ, ◌-◌, ap}
use Rattle.std.proofs.lemmas.List.{set-get_or}
use Rattle.processor.specs.declared.part.Bag.TheVariants.{Empty}
use Rattle.processor.specs.declared.part.Part.{Part}
use Rattle.processor.specs.Parts.{bag_of}
use Rattle.processor.specs.Bags.{with_bag}

-- a bag put back where it was
pub same_bag : (p : Part) (item : ℕ) → with_bag p item (bag_of p item) ≡ p
same_bag p item = ap (λ bs. let q : Part = record { own = p.own; bags = bs } in q) (set-get_or p.bags (item - 1) Empty)
