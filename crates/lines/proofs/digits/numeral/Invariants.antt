-- The digits that are left give the number, and there is room for one more.
use Rattle.std.proofs.Common.{◌≡◌, ◌^◌, ◌<◌, drop}
use Rattle.lines.specs.Digits.{digit_in, numeral_of}
use Rattle.lines.proofs.digits.numeral.Given as goal

abbrev pub invariant-loop-b : goal.invariant-loop-b
invariant-loop-b g l = record {
  left : numeral_of g.row.BASE (digit_in g.row.BASE) 0 l.digits ≡ numeral_of g.row.BASE (digit_in g.row.BASE) l.value (drop l.b-index l.digits);
  room : l.value < g.row.BASE ^ l.b-index;
}
