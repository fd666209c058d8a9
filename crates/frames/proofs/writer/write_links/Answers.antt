use Rattle.std.proofs.Common.{◌≡◌, ◌+◌, ◌^◌, ◌<◌, ◌++◌, length, get_or, take, sym, ap, ◌∙◌, arith, length-append}
use Rattle.std.specs.List.{flat_map}
use Rattle.std.proofs.ByRecursion.{All-more}
use Rattle.std.proofs.lemmas.List.{flat_map_more, length-take-le, take_more}
use Rattle.frames.specs.declared.link.Link.{Link}
use Rattle.frames.specs.Bytes.{link_bytes, placed, size_of}
use Rattle.frames.specs.Texts.{no_link}
use Rattle.frames.proofs.Linking.{length_links}
use Rattle.frames.proofs.Placing.{put_next}
use Rattle.frames.proofs.writer.write_links.Goals as goal

pub loop-k-preserved : goal.loop-k-preserved
loop-k-preserved c =
    let e = c.args.buf.now in
    let ls = c.args.links.now in
    let k = c.loop-k.k in
    let head = take 10 e in
    let front = head ++ flat_map link_bytes (take k ls) in
    let link = get_or ls k no_link in
    let long : length front ≡ size_of k = omega (arith, length-append head (flat_map link_bytes (take k ls)), length_links (take k ls), length-take-le k ls (omega arith), length-take-le 10 e (omega arith)) in
    let wrote = c.write_link.ensures.bytes in
    let more : front ++ link_bytes link ≡ head ++ flat_map link_bytes (take (k + 1) ls) = flat_map_more link_bytes head (take k ls) link ∙ ap (λ l. head ++ flat_map link_bytes l) (sym (take_more ls k no_link c.loop-k-test.true)) in (
      All-more (λ (l : Link). (l.processor < 256) × (l.seal < 2 ^ 32)) ls k no_link c.loop-k-test.true c.loop-k.invariant.0 c.write_link.ensures.small,
      put_next front e c.loop-k.buf c.loop-k.invariant.1 c.write_link.new.part (size_of k) _ long (omega (arith, ap length wrote)) ∙ ap (λ l. placed l e) (ap (λ l. front ++ l) wrote ∙ more),
    )
