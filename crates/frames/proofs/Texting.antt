-- Texts of different items, values or links differ.
use Rattle.std.proofs.Common.{◌≡◌, ℕ, ◌+◌, ◌^◌, ◌<◌, List, [], ◌∷◌, ◌++◌, length, sym, refl, ap, ◌∙◌, arith}
use Rattle.std.specs.Int.Digits.{number_from_digits}
use Rattle.std.proofs.lemmas.List.{length-append}
use Rattle.frames.specs.Bytes.{big_endian, header}
use Rattle.frames.specs.Texts.{text_for}
use Rattle.frames.proofs.Numbers.{number_be}

-- lists of one length, joined to others, come apart again
split : (a b c d : List ℕ) → length a ≡ length b → a ++ c ≡ b ++ d → (a ≡ b) × (c ≡ d)
split [] [] c d n e = (refl, e)
split [] (y ∷ b) c d n e = absurd (omega arith)
split (x ∷ a) [] c d n e = absurd (omega arith)
split (x ∷ a) (y ∷ b) c d n e =
    let h : x ≡ y = cc in
    let t : a ++ c ≡ b ++ d = cc in
    let r = split a b c d (omega arith) t in
    let z = r.0 in
    (cc, r.1)

pub length_text : (i v : ℕ) (ps : List ℕ) → length (text_for i v ps) ≡ 10 + length ps
unfolding text_for
length_text i v ps = let e = length-append (header i v (length ps)) ps in omega arith

pub text_same : (i v : ℕ) (ps : List ℕ) (j w : ℕ) (qs : List ℕ) → v < 2 ^ 64 → w < 2 ^ 64 → text_for i v ps ≡ text_for j w qs → (i ≡ j) × (v ≡ w) × (ps ≡ qs)
unfolding text_for
text_same i v ps j w qs hv hw e =
    let item : i ≡ j = cc in
    let rest : (big_endian 8 v ++ length ps ∷ []) ++ ps ≡ (big_endian 8 w ++ length qs ∷ []) ++ qs = cc in
    let s = split (big_endian 8 v ++ length ps ∷ []) (big_endian 8 w ++ length qs ∷ []) ps qs refl rest in
    let t = split (big_endian 8 v) (big_endian 8 w) (length ps ∷ []) (length qs ∷ []) refl s.0 in
    (item, sym (number_be 8 v hv) ∙ ap (number_from_digits 256) t.0 ∙ number_be 8 w hw, s.1)
