use Rattle.std.proofs.Common.{◌≡◌, ℕ, ◌+◌, ◌<◌, ◌++◌, ◌∷◌, [], length, get_or, replicate, take, sym, ap, ◌∙◌, arith}
use Rattle.std.proofs.lemmas.List.{length-map, length-take-le, take_all, take_more, map_push}
use Rattle.frames.specs.declared.link.Link.{Link}
use Rattle.frames.specs.Bytes.{link_of, placed}
use Rattle.frames.specs.Texts.{no_link, numbers_of}
use Rattle.frames.specs.Views.{count_of, fields_of}
use Rattle.frames.proofs.Linking.{length_links_of, link_of_chunk}
use Rattle.frames.proofs.Placing.{set_next}
use Rattle.frames.proofs.frame.Frame.processors.Goals as goal

pub bounds-numbers-k : goal.bounds-numbers-k
bounds-numbers-k c = omega (arith, c.parts-part-items.ensures.count)

pub loop-k-preserved : goal.loop-k-preserved
loop-k-preserved c =
    let bs = c.args.self.now.links.now in
    let ls = (fields_of c.args.self.now).links in
    let k = c.loop-k.k in
    let number : Link → ℕ = λ l. l.processor in
    let within : k < count_of bs = omega (arith, c.parts-part-items.ensures.count) in
    let s = length_links_of (count_of bs) bs in
    let ps = numbers_of (take k ls) in
    let n : length ps ≡ k = length-map (take k ls) number ∙ length-take-le k ls (omega arith) in
    let link : c.from.result ≡ get_or ls k no_link = c.from.ensures ∙ ap (λ parts. link_of (get_or parts k [])) c.parts-part-items.ensures.bytes ∙ link_of_chunk (count_of bs) k bs [] within in
    let more : numbers_of (take (k + 1) ls) ≡ ps ++ c.from.result.processor ∷ [] = ap numbers_of (take_more ls k no_link (omega arith)) ∙ map_push number (take k ls) (get_or ls k no_link) ∙ ap (λ (l : Link). ps ++ l.processor ∷ []) (sym link) in
    set_next ps (replicate 8 0) c.loop-k.numbers c.loop-k.invariant c.from.result.processor k n (omega arith) ∙ ap (λ l. placed l (replicate 8 0)) (sym more)

pub returns : goal.returns
returns c =
    let bs = c.args.self.now.links.now in
    let ls = (fields_of c.args.self.now).links in
    c.loop-k.invariant ∙ ap (λ l. placed (numbers_of l) (replicate 8 0)) (take_all c.loop-k.k ls (omega (arith, length_links_of (count_of bs) bs, c.parts-part-items.ensures.count)))
