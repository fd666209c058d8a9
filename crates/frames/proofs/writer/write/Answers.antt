use Rattle.std.proofs.Common.{◌≡◌, ◌≤◌, ◌++◌, true, length, sym, refl, ap, ◌∙◌, arith, rules}
use Rattle.std.specs.List.{flat_map}
use Rattle.std.proofs.lemmas.Bool.{cond-true}
use Rattle.frames.specs.Bytes.{fields, header, encode, decode, fits, link_bytes, placed, size_of}
use Rattle.frames.proofs.Linking.{length_links}
use Rattle.frames.proofs.Placing.{placed_again, take_placed}
use Rattle.frames.proofs.Trips.{read_written}
use Rattle.frames.proofs.writer.write.Goals as goal

pub returns : goal.returns
unfolding encode
returns c =
    let e = c.args.buf.now in
    let ls = c.args.links.now in
    let s = length ls in
    let f = fields c.args.item c.args.value ls in
    let head = header c.args.item c.args.value s in
    let b = c.write_header.new.buf in
    let inside : (1 ≤ s) × (s ≤ 8) = search rules in
    let fine : fits e f ≡ true = search rules in
    let ten = take_placed head e b c.write_header.ensures 10 refl in
    let wrote : c.write_links.new.buf ≡ placed (encode f) e = c.write_links.ensures.bytes ∙ ap (λ h. placed (h ++ flat_map link_bytes ls) b) ten ∙ placed_again head e b c.write_header.ensures (flat_map link_bytes ls) in
    record {
      answer = sym (cond-true _ _ _ fine);
      bytes = wrote ∙ sym (cond-true _ _ _ fine);
      again = ap decode (take_placed (encode f) e c.write_links.new.buf wrote (size_of s) (omega (arith, length_links ls))) ∙ read_written f (omega arith) inside.0 inside.1 c.write_links.ensures.small;
    }
