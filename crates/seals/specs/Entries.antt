-- What the entries of a book stand for.
use Rattle.std.specs.Prelude.{ℕ, List, map, take}
use Rattle.seals.specs.Meanings.{Triple}
use Rattle.seals.specs.declared.entry.Entry.{Entry}

abbrev pub triple_of : Entry → Triple
triple_of e = record { signer = e.signer; text = take e.size e.text; seal = e.seal }

-- the triples of the first n entries
abbrev pub triples_of : ℕ → List Entry → List Triple
triples_of n es = map triple_of (take n es)
