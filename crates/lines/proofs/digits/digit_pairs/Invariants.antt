-- The bytes so far and the digits that are left give the byte string.
use Rattle.std.proofs.Common.{◌≡◌, ◌++◌, length, vec_items}
use Rattle.std.specs.Option.{option_map}
use Rattle.lines.specs.Digits.{bytes_of}
use Rattle.lines.proofs.digits.digit_pairs.Given as goal

abbrev pub invariant-loop-rest : goal.invariant-loop-rest
invariant-loop-rest l = bytes_of l.digits ≡ option_map (λ xs. vec_items l.bytes ++ xs) (bytes_of l.rest)

abbrev pub decreases-loop-rest : goal.decreases-loop-rest
decreases-loop-rest l = length l.rest
