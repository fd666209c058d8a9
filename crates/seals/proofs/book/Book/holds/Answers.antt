use Rattle.std.proofs.Common.{◌&&◌, eqb, take, rules, ◌∙◌}
use Rattle.std.proofs.lemmas.Iterator.{YieldsList-from_slice}
use Rattle.std.proofs.lemmas.Iterator.Search.{any_from_yields_List}
use borrow.Author.Tests.{tests}
use Rattle.seals.specs.Meanings.{is_of}
use Rattle.seals.specs.Entries.{triple_of}
use Rattle.seals.specs.declared.entry.Entry.{Entry}
use Rattle.seals.proofs.Searches.{seal_held}
use Rattle.seals.proofs.book.Book.holds.Goals as goal

pub returns : goal.returns
returns c =
    let b = c.args.self.now in
    let es = take b.used b.entries in
    any_from_yields_List (λ (e : Entry). is_of c.args.signer c.args.text.now (triple_of e) && eqb e.seal c.args.seal) _ _ c.any.result c.any.ensures.ran (YieldsList-from_slice es cc) (λ x r q k. search (rules, tests)) ∙ seal_held c.args.signer c.args.text.now c.args.seal es
