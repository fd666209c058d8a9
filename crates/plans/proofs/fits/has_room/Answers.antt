use Rattle.std.proofs.Common.{◌≡◌, ℕ, ◌+◌, Bool, not, ltb, ◌∙◌, arith, rules}
use borrow.Author.Tests.{tests}
use Rattle.std.proofs.lemmas.Iterator.{YieldsList-from_range}
use Rattle.std.proofs.lemmas.Iterator.Search.{all_from_yields_List}
use Rattle.std.specs.List.{list_all, range_with_len}
use Rattle.refusals.proofs.Firsts.{all_below}
use Rattle.seals.specs.Meanings.{left_of}
use Rattle.plans.proofs.fits.has_room.Goals as goal

pub returns : goal.returns
returns g c =
    let lacks : ℕ → Bool = λ k. ltb (left_of (g.S.Scheme.meaning c.args.scheme.now) (k + 1)) 16 in
    let chain : c.all.result ≡ list_all (λ k. not (lacks k)) (range_with_len 0 c.args.n) = all_from_yields_List (λ k. not (lacks k)) _ _ _ c.all.ensures.ran (YieldsList-from_range 0 c.args.n c.args.n (cc) (omega arith)) (λ x b q k. search (rules, tests)) in
    chain ∙ all_below lacks c.args.n
