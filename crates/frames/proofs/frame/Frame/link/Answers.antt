use Rattle.std.proofs.Common.{◌≡◌, ◌≤◌, ◌-◌, true, [], length, get_or, Some, sym, ap, ◌∙◌, arith, rules}
use Rattle.std.proofs.lemmas.Bool.{cond-true}
use Rattle.frames.specs.Bytes.{link_of}
use Rattle.frames.specs.Texts.{is_link}
use Rattle.frames.specs.Views.{count_of, fields_of}
use Rattle.frames.proofs.Linking.{length_links_of, link_of_chunk}
use Rattle.frames.proofs.frame.Frame.link.Goals as goal

pub bounds-parts-k : goal.bounds-parts-k
bounds-parts-k c =
    let bs = c.args.self.now.links.now in
    let within : (1 ≤ c.args.k) × (c.args.k ≤ length (fields_of c.args.self.now).links) = search rules in
    omega (arith, c.parts.ensures.count, length_links_of (count_of bs) bs)

pub returns : goal.returns
returns c =
    let bs = c.args.self.now.links.now in
    let k = c.args.k in
    let s = length_links_of (count_of bs) bs in
    let is : is_link (fields_of c.args.self.now) k ≡ true = search rules in
    let within : (1 ≤ c.args.k) × (c.args.k ≤ length (fields_of c.args.self.now).links) = search rules in
    let link = c.from.ensures ∙ ap (λ parts. link_of (get_or parts (k - 1) [])) c.parts.ensures.bytes ∙ link_of_chunk (count_of bs) (k - 1) bs [] (omega arith) in
    ap Some link ∙ sym (cond-true _ _ _ is)
