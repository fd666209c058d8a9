-- Counting marks.
use Rattle.std.proofs.Common.{◌≡◌, ℕ, zero, suc, ◌+◌, ◌≤◌, Bool, true, false, List, [], ◌∷◌, length, get_or, set, arith}
use Rattle.bench.specs.Calls.{count_true}

pub count_le : (xs : List Bool) → count_true xs ≤ length xs
count_le [] = omega arith
count_le (true ∷ xs) = let h = count_le xs in omega arith
count_le (false ∷ xs) = let h = count_le xs in omega arith

-- a mark that is taken away
pub count_cleared : (xs : List Bool) (q : ℕ) → get_or xs q false ≡ true → count_true (set xs q false) + 1 ≡ count_true xs
count_cleared [] q e = absurd (cc)
count_cleared (true ∷ xs) zero e = omega arith
count_cleared (false ∷ xs) zero e = absurd (cc)
count_cleared (x ∷ xs) (suc q) e = let h = count_cleared xs q e in omega arith
