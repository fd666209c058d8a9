-- A book keeps what every scheme keeps.
use Rattle.std.specs.Prelude.{◌≡◌, ◌^◌, ◌<◌, ◌≤◌, List, [], ◌∷◌, map, length, take}
use Rattle.std.proofs.Common.{◌∙◌, arith, length-take}
use Rattle.std.specs.List.{AllByRecursion}
use Rattle.std.proofs.lemmas.List.{length-map, length-take-le}
use Rattle.seals.specs.Meanings.{Tidy}
use Rattle.seals.specs.Entries.{triple_of}
use Rattle.seals.specs.Books.{book_of}
use Rattle.seals.specs.declared.entry.Entry.{Entry}
use Rattle.seals.specs.declared.book.Book.{Book}

texts_short : (es : List Entry) → AllByRecursion (λ e. length e.text ≤ 24) (map triple_of es)
texts_short [] = tt
texts_short (e ∷ es) = (omega (arith, length-take e.size e.text, e.short), texts_short es)

seals_small : (es : List Entry) → AllByRecursion (λ e. e.seal < 2 ^ 32) (map triple_of es)
seals_small [] = tt
seals_small (e ∷ es) = (e.small, seals_small es)

pub book_tidy : (b : Book) → Tidy (book_of b)
book_tidy b = record {
  once = b.once;
  signers = b.signers;
  texts = texts_short (take b.used b.entries);
  seals = seals_small (take b.used b.entries);
  eight = b.eight;
  least = omega arith;
  most = omega arith;
}

-- there are as many triples as used entries
pub used_triples : (b : Book) → length (book_of b).triples ≡ b.used
used_triples b = length-map (take b.used b.entries) triple_of ∙ length-take-le b.used b.entries (omega (arith, b.places, b.space))
