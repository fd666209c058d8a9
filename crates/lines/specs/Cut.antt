-- What bytes are cut into. Assumes nothing.
use Rattle.std.specs.Prelude.{◌≡◌, ℕ, zero, suc, ◌+◌, ◌<◌, Bool, true, false, cond, List, [], ◌∷◌, length, Some, None, Option, ◌==◌}
use Rattle.std.specs.List.{between}

-- a byte before the first piece
abbrev pub onto : ℕ → List (List ℕ) → List (List ℕ)
onto b [] = (b ∷ []) ∷ []
onto b (p ∷ ps) = (b ∷ p) ∷ ps

-- the pieces between the separators, one more than there are separators
abbrev pub pieces : ℕ → List ℕ → List (List ℕ)
pieces sep [] = [] ∷ []
pieces sep (b ∷ bs) = cond (b == sep) ([] ∷ pieces sep bs) (onto b (pieces sep bs))

-- the first piece ends at an index, where a separator is, or has no end
abbrev pub CutAt : ℕ → List ℕ → Option ℕ → Type 0
CutAt sep bs None = pieces sep bs ≡ bs ∷ []
CutAt sep bs (Some i) = (i < length bs) × (pieces sep bs ≡ between 0 i bs ∷ pieces sep (between (i + 1) (length bs) bs))

-- the pieces of the bytes that are left, if any are
abbrev pub pieces_of : ℕ → Option (List ℕ) → List (List ℕ)
pieces_of sep None = []
pieces_of sep (Some bs) = pieces sep bs

abbrev pub head : List (List ℕ) → Option (List ℕ)
head [] = None
head (p ∷ ps) = Some p

abbrev pub tail : List (List ℕ) → List (List ℕ)
tail [] = []
tail (p ∷ ps) = ps

abbrev pub tails : ℕ → List (List ℕ) → List (List ℕ)
tails zero ps = ps
tails (suc n) ps = tails n (tail ps)

abbrev pub is_nil : List (List ℕ) → Bool
is_nil [] = true
is_nil (p ∷ ps) = false
