-- Bytes that are written one after the other to the front of a buffer.
use Rattle.std.proofs.Common.{◌≡◌, ℕ, ◌+◌, ◌<◌, List, [], ◌∷◌, ◌++◌, length, take, drop, set, sym, refl, ap, ◌∙◌, arith, length-append}
use borrow.Rule.Slice.PartMut.{put_mid}
use Rattle.std.proofs.lemmas.List.{append_assoc, take_at, drop_at, drop-drop, drop_more, set_at, length_push}
use Rattle.frames.specs.Bytes.{placed}

-- a buffer that had e, and has xs at its front now
module _ (xs e buf : List ℕ) (is : buf ≡ placed xs e) where
  rest : (ys : List ℕ) → drop (length ys) (drop (length xs) buf) ≡ drop (length (xs ++ ys)) e
  rest ys = ap (λ l. drop (length ys) (drop (length xs) l)) is ∙ ap (drop (length ys)) (drop_at xs _ _ refl) ∙ drop-drop (length ys) (length xs) e ∙ ap (λ m. drop m e) (sym (length-append xs ys))

  pub take_placed : (n : ℕ) → length xs ≡ n → take n buf ≡ xs
  take_placed n p = ap (take n) is ∙ take_at xs (drop (length xs) e) n p

  -- a part of the buffer, written next
  pub put_next : (ys : List ℕ) (a n : ℕ) → length xs ≡ a → length ys ≡ n → put_mid a n buf ys ≡ placed (xs ++ ys) e
  put_next ys a n p q =
      let front = take_placed a p in
      let after : drop n (drop a buf) ≡ drop (length (xs ++ ys)) e = (λ i. drop (sym q i) (drop (sym p i) buf)) ∙ rest ys in
      (λ i. front i ++ (ys ++ after i)) ∙ sym (append_assoc xs ys _)

  -- one byte, written next
  pub set_next : (x a : ℕ) → length xs ≡ a → a < length e → set buf a x ≡ placed (xs ++ x ∷ []) e
  set_next x a p h = ap (λ l. set l a x) (is ∙ ap (λ l. xs ++ l) (drop_more e (length xs) 0 (omega arith))) ∙ set_at xs _ _ x a p ∙ sym (append_assoc xs (x ∷ []) (drop (length xs + 1) e)) ∙ ap (λ m. (xs ++ x ∷ []) ++ drop m e) (sym (length_push xs x))

  -- written once more, with more after it
  pub placed_again : (ys : List ℕ) → placed (xs ++ ys) buf ≡ placed (xs ++ ys) e
  placed_again ys = ap (λ l. (xs ++ ys) ++ l) (ap (λ m. drop m buf) (length-append xs ys) ∙ sym (drop-drop (length ys) (length xs) buf) ∙ rest ys)
