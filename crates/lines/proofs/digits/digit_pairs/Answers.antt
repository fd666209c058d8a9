-- Two more digits.
use Rattle.std.proofs.Common.{◌∙◌}
use Rattle.lines.proofs.Reading.{two_digits}
use Rattle.lines.proofs.digits.digit_pairs.Goals as goal

pub loop-rest-preserved : goal.loop-rest-preserved
loop-rest-preserved c =
    c.loop-rest.invariant
    ∙ two_digits c.loop-rest.rest.now _ _ _ c.in-Some.ensures c.in_ok-push.ensures.items
