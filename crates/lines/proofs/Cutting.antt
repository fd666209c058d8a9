-- How bytes are cut at a separator. Assumes nothing.
use native.Mathlib.Nat.{sub-zero}
use Rattle.std.proofs.Common.{◌≡◌, ℕ, ◌+◌, ◌==◌, cond, Bool, false, eqb, ltb, List, [], ◌∷◌, length, take, drop, Some, None, refl, ap, sym, ◌∙◌, subst, Option, position, arith}
use Rattle.std.specs.List.{onto_first, position_or_len, slice_split}
use Rattle.std.proofs.lemmas.Bool.{cond_both, ltb-true, ltb-false}
use Rattle.std.proofs.lemmas.List.{take_rest}
use Rattle.std.proofs.lemmas.List.Elements.{All-from_get_or}
use Rattle.std.proofs.lemmas.List.Splits.{slice_split_first, slice_split_none}
use Rattle.std.proofs.lemmas.List.Sums.{fails_before_first}
use Rattle.lines.specs.Cut.{CutAt, pieces, onto, is_nil}

onto_same : (b : ℕ) (ps : List (List ℕ)) → onto b ps ≡ onto_first b ps
onto_same b [] = refl
onto_same b (p ∷ ps) = refl

-- the pieces are what the library's `split` gives
pieces_split : (sep : ℕ) (bs : List ℕ) → pieces sep bs ≡ slice_split (λ b. b == sep) bs
pieces_split sep [] = refl
pieces_split sep (b ∷ bs) =
    ap (λ ps. cond (b == sep) ([] ∷ ps) (onto b ps)) (pieces_split sep bs)
    ∙ ap (λ ps. cond (b == sep) ([] ∷ slice_split (λ c. c == sep) bs) ps) (onto_same b (slice_split (λ c. c == sep) bs))

-- the first piece ends at the first separator
cut_at : (sep : ℕ) (bs : List ℕ) → CutAt sep bs (position (λ b. b == sep) bs)
cut_at sep bs =
    let is_sep : ℕ → Bool = λ b. b == sep in
    let n = position_or_len is_sep bs in
    cond_both (ltb n (length bs)) (Some n) None (CutAt sep bs)
    (λ yes. (ltb-true _ _ yes, rw sub-zero (rw take_rest (pieces_split sep bs ∙ slice_split_first is_sep bs 0 (ltb-true _ _ yes) ∙ ap (λ ps. take n bs ∷ ps) (sym (pieces_split sep (drop (n + 1) bs)))))))
    (λ no. pieces_split sep bs ∙ slice_split_none is_sep bs (All-from_get_or (λ x. is_sep x ≡ false) bs 0 (λ k h. fails_before_first is_sep bs k 0 (let most = ltb-false _ _ no in omega (arith, most)))))

-- the same at what a search answered
pub cut_found : (sep : ℕ) (bs : List ℕ) (o : Option ℕ) → o ≡ position (λ b. b == sep) bs → CutAt sep bs o
cut_found sep bs o is = subst (CutAt sep bs) (sym is) (cut_at sep bs)

onto_some : (b : ℕ) (ps : List (List ℕ)) → is_nil (onto b ps) ≡ false
onto_some b [] = refl
onto_some b (p ∷ ps) = refl

-- there is always a piece
pub pieces_some : (sep : ℕ) (bs : List ℕ) → is_nil (pieces sep bs) ≡ false
pieces_some sep [] = refl
pieces_some sep (b ∷ bs) = cond_both (eqb b sep) ([] ∷ pieces sep bs) (onto b (pieces sep bs)) (λ ps. is_nil ps ≡ false) (λ _. refl) (λ _. onto_some b (pieces sep bs))
