use Rattle.std.proofs.Common.{rules}
use Rattle.script.proofs.player.one_to_64.Goals as goal

pub returns : goal.returns
returns c k below = let (p, q, called) = c.from_fn.ensures.items.at k 0 below in search rules
