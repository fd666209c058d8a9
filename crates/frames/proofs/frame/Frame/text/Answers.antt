use Rattle.std.proofs.Common.{◌≡◌, ℕ, ◌+◌, ◌≤◌, true, List, length, take, Some, sym, ap, ◌∙◌, subst, arith, rules, MatchOption}
use Rattle.std.proofs.lemmas.List.{length-map, length-take-le, take-append-le, take-map}
use Rattle.std.proofs.lemmas.Bool.{cond-true, le-leb}
use Rattle.frames.specs.declared.link.Link.{Link}
use Rattle.frames.specs.Bytes.{placed}
use Rattle.frames.specs.Texts.{is_link, numbers_of, text_for}
use Rattle.frames.specs.Views.{count_of, fields_of}
use Rattle.frames.proofs.Linking.{length_links_of}
use Rattle.frames.proofs.frame.Frame.text.Goals as goal

pub returns : goal.returns
returns c =
    let f = c.args.self.now in
    let ls = (fields_of f).links in
    let k = c.args.k in
    let number : Link → ℕ = λ l. l.processor in
    let is : is_link (fields_of f) k ≡ true = search rules in
    let within : k ≤ length ls = search rules in
    let given = take k c.processors-numbers.result in
    let first : given ≡ numbers_of (take k ls) = ap (take k) c.processors-numbers.ensures ∙ take-append-le k (numbers_of ls) _ (omega (arith, length-map ls number)) ∙ take-map number k ls in
    let size : length given ≡ k = ap length first ∙ length-map (take k ls) number ∙ length-take-le k ls within in
    let few = le-leb (length given) 8 (omega (arith, length_links_of (count_of f.links.now) f.links.now)) in
    let At : List ℕ → Type 0 = λ ps. MatchOption c.link_text.result (c.link_text.new.out ≡ c.args.out.now) (λ n. (n ≤ 18) × (take n c.link_text.new.out ≡ text_for f.item f.value ps)) in
    record {
      answer = c.link_text.ensures.answer ∙ cond-true _ _ _ few ∙ ap (λ n. Some (10 + n)) size ∙ sym (cond-true _ _ _ is);
      bytes = c.link_text.ensures.bytes ∙ cond-true _ _ _ few ∙ ap (λ ps. placed (text_for f.item f.value ps) c.args.out.now) first ∙ sym (cond-true _ _ _ is);
      front = subst At first c.link_text.ensures.front;
    }
