-- The words that are left give the numbers after those so far.
use Rattle.std.proofs.Common.{◌≡◌, ℕ, ◌-◌, List, ◌++◌, length, take}
use Rattle.std.specs.Option.{option_map}
use Rattle.lines.specs.Cut.{tails}
use Rattle.lines.specs.Digits.{numbers_of}
use Rattle.lines.specs.Left.{ahead}
use Rattle.lines.proofs.words.Words.numbers.Given as goal

abbrev pub invariant-loop-n : goal.invariant-loop-n
invariant-loop-n g l = record {
  len : length l.n-items ≡ g.row.N;
  so_far : option_map (λ (xs : List ℕ). take l.n-index l.n-items ++ xs) (numbers_of (g.row.N - l.n-index) (ahead l.self)) ≡ numbers_of g.row.N (ahead l.initial.self);
  after : tails (g.row.N - l.n-index) (ahead l.self) ≡ tails g.row.N (ahead l.initial.self);
}
