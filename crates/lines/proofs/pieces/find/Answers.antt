-- The first separator, where `position` finds one.
use Rattle.std.proofs.Common.{◌==◌, rules}
use Rattle.std.proofs.lemmas.Iterator.{YieldsList-from_slice}
use Rattle.std.proofs.lemmas.Iterator.Search.{position_from_yields_List}
use Rattle.lines.proofs.Cutting.{cut_found}
use Rattle.lines.proofs.pieces.find.Goals as goal

pub returns : goal.returns
returns c =
    cut_found c.args.separator c.args.bytes.now c.position.result
    (position_from_yields_List (λ b. b == c.args.separator) _ _ c.position.result c.position.ensures.ran (YieldsList-from_slice c.args.bytes.now c.iter.ensures.rest) (λ x b q k. search rules))
