use Rattle.std.proofs.Common.{◌≡◌, take, rules, ap, ◌∙◌}
use Rattle.std.proofs.lemmas.Iterator.{YieldsList-from_slice}
use Rattle.std.proofs.lemmas.Iterator.Search.{find_from_yields_List}
use Rattle.std.specs.Option.{option_map}
use borrow.Author.Tests.{tests}
use Rattle.seals.specs.Meanings.{is_of}
use Rattle.seals.specs.Entries.{triple_of}
use Rattle.seals.specs.declared.entry.Entry.{Entry}
use Rattle.seals.proofs.Searches.{seal_found}
use Rattle.seals.proofs.book.Book.find.Goals as goal

pub returns : goal.returns
returns c =
    let es = take c.args.self.now.used c.args.self.now.entries in
    let first = find_from_yields_List (λ (e : Entry). is_of c.args.signer c.args.text.now (triple_of e)) _ _ c.find.result c.find.ensures.ran (YieldsList-from_slice es cc) (λ x r q k. search (rules, tests)) in
    let read : c.map.result ≡ option_map (λ (e : Entry). e.seal) (option_map (λ x. x.now) c.find.result) = search rules in
    read ∙ ap (option_map (λ (e : Entry). e.seal)) first ∙ seal_found c.args.signer c.args.text.now es
