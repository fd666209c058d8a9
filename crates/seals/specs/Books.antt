-- What a book means.
use Rattle.std.specs.Prelude.{ℕ, [], replicate}
use Rattle.seals.specs.Meanings.{Meaning}
use Rattle.seals.specs.Entries.{triples_of}
use Rattle.seals.specs.declared.book.Book.{Book}

abbrev pub book_of : Book → Meaning
book_of b = record { triples = triples_of b.used b.entries; room = b.left; longest = 24 }

-- nothing is issued, each of the eight signers has `each` left, and the longest text has 24 bytes
abbrev pub fresh : ℕ → Meaning
fresh each = record { triples = []; room = replicate 8 each; longest = 24 }
