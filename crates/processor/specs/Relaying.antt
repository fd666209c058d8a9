-- What `relay` answers and leaves.
use Rattle.std.specs.Prelude.{ℕ, ◌+◌, cond, List, [], ◌∷◌, ◌++◌, Ok, Err, Result, nat_le}
use Rattle.refusals.specs.declared.refusal.Refusal.{Refusal}
use Rattle.refusals.specs.declared.refusal.Refusal.TheVariants.{Frame}
use Rattle.seals.specs.Meanings.{Meaning, answered, signed}
use Rattle.frames.specs.declared.link.Link.{Link}
use Rattle.frames.specs.Bytes.{Fields, fields, encode, placed, size_of}
use Rattle.frames.specs.Texts.{numbers_of, text_for}
use Rattle.processor.specs.declared.owed.Owed.{Owed}
use Rattle.processor.specs.declared.relaying.Unsent.{Unsent}
use Rattle.processor.specs.Broadcasts.{links_in}

-- the numbers of the links so far, and then the own
abbrev pub own_numbers : Owed → List ℕ
own_numbers o = numbers_of (links_in o) ++ o.own ∷ []

-- the text that the own link seals: the item, the value, how many links that makes, and their numbers
abbrev pub own_text : Owed → List ℕ
own_text o = text_for o.item o.value (own_numbers o)

-- the links so far, and then the own with its seal
abbrev pub own_links : Owed → ℕ → List Link
own_links o seal = links_in o ++ record { processor = o.own; seal = seal } ∷ []

-- the frame with the own link
abbrev pub frame_of : Owed → ℕ → Fields
frame_of o seal = fields o.item o.value (own_links o seal)

-- after the scheme's answer: the frame with the very seal that it gave is written, or nothing is altered
abbrev pub sealed : Owed → ℕ → Meaning → List ℕ → Result ℕ Refusal → Result ℕ Refusal × Meaning × List ℕ
sealed o z m out (Ok seal) = (Ok (size_of (o.count + 1)), signed m o.own (own_text o) z, placed (encode (frame_of o seal)) out)
sealed o z m out (Err e) = (Err e, m, out)

-- sealed, with z for the number of a new seal, and written; row 30 for more than six links
abbrev pub sent : ℕ → Owed → Meaning → List ℕ → Result ℕ Refusal × Meaning × List ℕ
sent z o m out = cond (nat_le o.count 6) (sealed o z m out (answered m o.own (own_text o) z)) (Err Frame, m, out)

-- with a refusal goes the broadcast, which is still owed
abbrev pub or_owed : Owed → Result ℕ Refusal × Meaning × List ℕ → Result ℕ Unsent × Meaning × List ℕ
or_owed o (Ok n, m, out) = (Ok n, m, out)
or_owed o (Err e, m, out) = (Err (record { refusal = e; owed = o }), m, out)

-- what `relay` answers, and leaves of the scheme and the buffer
abbrev pub relayed : ℕ → Owed → Meaning → List ℕ → Result ℕ Unsent × Meaning × List ℕ
relayed z o m out = or_owed o (sent z o m out)
