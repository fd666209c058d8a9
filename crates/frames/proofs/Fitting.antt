-- What is read from bytes fits its types.
use Rattle.std.proofs.Common.{◌≡◌, ℕ, zero, suc, ◌^◌, ◌<◌, true, false, ◌⊎◌, List, [], ◌∷◌, length, get_or, take, drop, Ok, Err, sym, ◌∙◌, subst, inl, inr, arith, length-take}
use native.Mathlib.Nat.{pow-le-pow_right}
use Rattle.std.proofs.lemmas.Int.Digits.{number_lt}
use Rattle.std.specs.Int.Digits.{number_from_digits, AllBelowBase}
use Rattle.std.proofs.ByRecursion.{All-take, All-drop}
use Rattle.std.proofs.lemmas.Bool.{cases_Bool, cond-true, cond-false}
use Rattle.refusals.specs.declared.refusal.Refusal.{Refusal}
use Rattle.frames.specs.Bytes.{Fields, Small, links_of, shaped, decoded, decode}

-- a frame that was read: a value of eight bytes, and links as their types hold them
pub record Read (f : Fields) : Type 0 where
  pub value : f.value < 2 ^ 64
  pub small : Small f.links

number_fits : (k : ℕ) (bs : List ℕ) → AllBelowBase 256 bs → number_from_digits 256 (take k bs) < 256 ^ k
number_fits k bs u =
    let l = length-take k bs in
    let a = number_lt 256 (take k bs) (All-take (λ b. b < 256) k bs u) in
    let b = pow-le-pow_right {n = 256} (omega arith) {i = length (take k bs)} {j = k} (omega arith) in
    omega (arith, a, b)

links_small : (n : ℕ) (bs : List ℕ) → AllBelowBase 256 bs → Small (links_of n bs)
links_small zero bs u = tt
links_small (suc n) bs u = ((head bs u, number_fits 4 (drop 1 bs) (All-drop (λ b. b < 256) 1 bs u)), links_small n (drop 5 bs) (All-drop (λ b. b < 256) 5 bs u))
  where
    head : (xs : List ℕ) → AllBelowBase 256 xs → get_or xs 0 0 < 256
    head [] h = omega arith
    head (x ∷ xs) h = h.0

-- what was decoded
pub decode_is : (bs : List ℕ) (f : Fields) → decode bs ≡ Ok f → decoded bs ≡ f
decode_is bs f e = go (cases_Bool (shaped bs))
  where
    go : (shaped bs ≡ true) ⊎ (shaped bs ≡ false) → decoded bs ≡ f
    go (inl h) = let k : Ok (decoded bs) ≡ Ok f = sym (cond-true _ _ _ h) ∙ e in cc
    go (inr h) = let k : Err Refusal.Frame ≡ Ok f = sym (cond-false _ _ _ h) ∙ e in absurd (cc)

pub decode_read : (bs : List ℕ) (f : Fields) → AllBelowBase 256 bs → decode bs ≡ Ok f → Read f
unfolding decoded
decode_read bs f u e = subst Read (decode_is bs f e) (record {
  value = number_fits 8 (drop 1 bs) (All-drop (λ b. b < 256) 1 bs u);
  small = links_small (get_or bs 9 0) (drop 10 bs) (All-drop (λ b. b < 256) 10 bs u);
})
