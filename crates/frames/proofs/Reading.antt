-- What the reader hands out is what the bytes say.
use Rattle.std.proofs.Common.{◌≡◌, ℕ, ◌+◌, ◌*◌, ◌<◌, ◌≤◌, true, List, length, get_or, drop, Ok, Result, sym, ap, ◌∙◌, arith, length-drop}
use Rattle.std.proofs.ByRecursion.{All-from_get_or}
use Rattle.std.proofs.lemmas.Bool.{and_from, le-leb, eq-eqb, cond-true}
use Rattle.refusals.specs.declared.refusal.Refusal.{Refusal}
use Rattle.frames.specs.Bytes.{Fields, fields, links_of, encode, decoded, decode, shaped}
use Rattle.frames.specs.Views.{count_of, Whole}
use Rattle.frames.proofs.Linking.{length_links_of}
use Rattle.frames.proofs.Numbers.{number_eight}
use Rattle.frames.proofs.Trips.{written_read}

-- the item, the value and the rest, where the bytes have the shape of a frame
module _ (bs : List ℕ) (v : ℕ) (rest : List ℕ) (long : 10 ≤ length bs) (is : rest ≡ drop 10 bs) (some : 1 ≤ get_or bs 9 0) (few : get_or bs 9 0 ≤ 8) (whole : length rest ≡ 5 * get_or bs 9 0) (e : v ≡ get_or bs 1 0 * 72057594037927936 + get_or bs 2 0 * 281474976710656 + get_or bs 3 0 * 1099511627776 + get_or bs 4 0 * 4294967296 + get_or bs 5 0 * 16777216 + get_or bs 6 0 * 65536 + get_or bs 7 0 * 256 + get_or bs 8 0) where
  abbrev got : Fields
  got = fields (get_or bs 0 0) v (links_of (count_of rest) rest)

  size : length bs ≡ 10 + 5 * get_or bs 9 0
  size = omega (arith, whole, ap length is, length-drop 10 bs)

  count : count_of rest ≡ get_or bs 9 0
  count = omega arith

  same_fields : got ≡ decoded bs
  unfolding decoded
  same_fields =
      let value = e ∙ sym (number_eight bs (omega arith)) in
      (λ i. fields (get_or bs 0 0) (value i) (links_of (count i) (is i)))

  is_shaped : shaped bs ≡ true
  is_shaped = and_from _ _ (le-leb _ _ some) (and_from _ _ (le-leb _ _ few) (eq-eqb _ _ size))

  pub read_facts : ((i : ℕ) → get_or bs i 0 < 256) → ◌≡◌ {A = Result Fields Refusal} (Ok got) (decode bs) × Whole got × (encode got ≡ bs)
  read_facts bytes =
      let links = length_links_of (count_of rest) rest in (
        ap Ok same_fields ∙ sym (cond-true _ _ _ is_shaped),
        record { some = omega (arith, count); few = omega (arith, count) },
        ap encode same_fields ∙ written_read bs long size (All-from_get_or (λ b. b < 256) bs 0 (λ i h. bytes i)),
      )
