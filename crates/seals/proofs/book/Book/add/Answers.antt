-- The invariants hold of one entry more.
use Rattle.std.proofs.Common.{◌≡◌, true, ◌∙◌, sym, subst, arith, length-set}
use Rattle.seals.specs.Meanings.{single, all_known, triple}
use Rattle.seals.specs.Books.{book_of}
use Rattle.seals.proofs.Adds.{single_push, all_known_push, grown, room_more}
use Rattle.seals.proofs.book.Book.add.Goals as goal

pub invariant_of-self : goal.invariant_of-self
invariant_of-self c =
    let b = c.args.self.now in
    let es = (book_of b).triples in
    let x = triple c.args.signer c.args.text.now c.args.seal in
    let room = room_more b c.args.signer c.requires.signer c.requires.room in
    let more = grown b c.new.result x (omega (arith, room.0)) c.new.ensures in
    record {
      places = length-set _ _ _ ∙ b.places;
      eight = length-set _ _ _ ∙ b.eight;
      space = room.1;
      once = subst (λ l. single l ≡ true) (sym more) (single_push es x b.once c.requires.fresh);
      signers = subst (λ l. all_known l ≡ true) (sym more) (all_known_push es x b.signers c.requires.signer);
    }
