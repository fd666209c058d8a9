-- One word more.
use Rattle.std.proofs.Common.{length-set, ◌∙◌}
use Rattle.lines.proofs.Reading.{one_number, one_tail}
use Rattle.lines.proofs.words.Words.numbers.Goals as goal

pub loop-n-preserved : goal.loop-n-preserved
loop-n-preserved g c = record {
  len = length-set _ _ _ ∙ c.loop-n.invariant.len;
  so_far = one_number g.row.N c.loop-n.n-index c.loop-n.n-items c.in_ok-n.field-0 _ _ _ c.loop-n-test.true c.loop-n.invariant.len c.in_ok-n.ensures.value c.in_ok-n.ensures.after c.loop-n.invariant.so_far;
  after = one_tail g.row.N c.loop-n.n-index _ _ _ c.loop-n-test.true c.in_ok-n.ensures.after c.loop-n.invariant.after;
}
