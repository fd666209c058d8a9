use Rattle.std.proofs.Common.{◌≡◌, ℕ, ◌+◌, Bool, not, ltb, ◌∙◌, arith, rules}
use borrow.Author.Tests.{tests}
use Rattle.std.proofs.lemmas.Iterator.{YieldsList-from_range}
use Rattle.std.proofs.lemmas.Iterator.Search.{all_from_yields_List}
use Rattle.std.specs.List.{list_all, range_with_len}
use Rattle.refusals.proofs.Firsts.{all_below}
use Rattle.seals.specs.Meanings.{count_for}
use Rattle.plans.proofs.fits.is_unused.Goals as goal

pub returns : goal.returns
returns g c =
    let has_one : ℕ → Bool = λ k. ltb 0 (count_for (k + 1) (g.S.Scheme.meaning c.args.scheme.now).triples) in
    let chain : c.all.result ≡ list_all (λ k. not (has_one k)) (range_with_len 0 c.args.n) = all_from_yields_List (λ k. not (has_one k)) _ _ _ c.all.ensures.ran (YieldsList-from_range 0 c.args.n c.args.n (cc) (omega arith)) (λ x b q k. search (rules, tests)) in
    chain ∙ all_below has_one c.args.n
