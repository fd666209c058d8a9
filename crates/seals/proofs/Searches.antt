-- What a book is asked of its triples, said of its entries.
use Rattle.std.proofs.Common.{◌≡◌, ℕ, Bool, true, false, cond, ◌&&◌, ◌||◌, eqb, List, [], ◌∷◌, map, Some, refl, ap}
use Rattle.std.specs.List.{find, list_any}
use Rattle.std.specs.Option.{option_map}
use Rattle.seals.specs.Meanings.{is_of, seal_of, holds}
use Rattle.seals.specs.Entries.{triple_of}
use Rattle.seals.specs.declared.entry.Entry.{Entry}

pub seal_found : (p : ℕ) (t : List ℕ) (es : List Entry) → option_map (λ (e : Entry). e.seal) (find (λ e. is_of p t (triple_of e)) es) ≡ seal_of (map triple_of es) p t
seal_found p t [] = refl
seal_found p t (e ∷ es) = go (is_of p t (triple_of e)) (seal_found p t es)
  where
    go : (b : Bool) → option_map (λ (x : Entry). x.seal) (find (λ x. is_of p t (triple_of x)) es) ≡ seal_of (map triple_of es) p t
        → option_map (λ (x : Entry). x.seal) (cond b (Some e) (find (λ x. is_of p t (triple_of x)) es)) ≡ cond b (Some e.seal) (seal_of (map triple_of es) p t)
    go true ih = refl
    go false ih = ih

pub seal_held : (p : ℕ) (t : List ℕ) (s : ℕ) (es : List Entry) → list_any (λ e. is_of p t (triple_of e) && eqb e.seal s) es ≡ holds (map triple_of es) p t s
seal_held p t s [] = refl
seal_held p t s (e ∷ es) = ap (λ b. (is_of p t (triple_of e) && eqb e.seal s) || b) (seal_held p t s es)
