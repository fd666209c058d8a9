use Rattle.std.proofs.Common.{◌||◌, sym, ap, ◌∙◌}
use Rattle.std.proofs.lemmas.Bool.{ne_eqb}
use Rattle.frames.specs.Texts.{numbers_of}
use Rattle.processor.specs.Broadcasts.{links_in}
use Rattle.processor.specs.Naming.{is_in}
use Rattle.processor.proofs.Named.{in_links}
use Rattle.processor.proofs.owed.Owed.names.Goals as goal

pub returns-else-self-p : goal.returns-else-self-p
returns-else-self-p c =
    let o = c.args.self.now in
    let p = c.args.p in
    c.has_link_of.ensures ∙ in_links p (links_in o) ∙ ap (λ b. b || is_in (numbers_of (links_in o)) p) (sym (ne_eqb _ _ c.if-self-p.false))
