use Rattle.std.proofs.Common.{◌≡◌, ◌+◌, ◌≤◌, ◌++◌, length, sym, refl, ap, ◌∙◌, arith}
use Rattle.std.proofs.lemmas.Bool.{cond-true, le-leb}
use Rattle.frames.specs.Bytes.{header, placed}
use Rattle.frames.specs.Texts.{text_for}
use Rattle.frames.proofs.Placing.{put_next, take_placed}
use Rattle.frames.proofs.texts.link_text.Goals as goal

pub returns : goal.returns
unfolding text_for
returns c =
    let ps = c.args.processors.now in
    let head = header c.args.item c.args.value (length ps) in
    let out = c.args.out.now in
    let few = le-leb (length ps) 8 (omega arith) in
    let copied = c.copy_from_slice.ensures.after in
    let size : length (head ++ ps) ≡ 10 + length ps = omega arith in
    let room : 10 + length ps ≤ 18 = omega arith in
    let wrote = put_next head out c.write_header.new.buf c.write_header.ensures c.copy_from_slice.new.self 10 _ refl (omega (arith, ap length copied)) ∙ ap (λ l. placed (head ++ l) out) copied in
    record {
      answer = sym (cond-true _ _ _ few);
      bytes = wrote ∙ sym (cond-true _ _ _ few);
      front = (room, take_placed (head ++ ps) out _ wrote (10 + length ps) size);
    }
