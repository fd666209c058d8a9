-- What one triple more leaves true.
use Rattle.std.proofs.Common.{◌≡◌, ℕ, ◌+◌, ◌-◌, ◌<◌, ◌≤◌, Bool, true, false, cond, not, leb, List, [], ◌∷◌, ◌++◌, map, length, get_or, take, set, is_some, Some, None, Decides, sum, Option, sym, refl, ap, ◌∙◌, arith}
use Rattle.std.proofs.lemmas.Slice.Eq.{bytes_eq-Decides}
use Rattle.std.proofs.lemmas.List.{take_more_set, map_push}
use Rattle.std.proofs.lemmas.List.Sums.{get_or-le-sum_by, sum_by-set}
use Rattle.std.proofs.lemmas.Bool.{true≢false, leb-true, and_parts, and_from, not-true, not_from_false, cond-false, cond-true}
use Rattle.std.proofs.lemmas.Bool.Decides.{same_from_decides, Decides-and, Decides-eqb, Decides-like}
use Rattle.seals.specs.Meanings.{Triple, is_of, seal_of, single, known, all_known, left_of, lowered}
use Rattle.seals.specs.Entries.{triple_of, triples_of}
use Rattle.seals.specs.Books.{book_of}
use Rattle.seals.specs.declared.entry.Entry.{Entry}
use Rattle.seals.specs.declared.book.Book.{Book}

none_from : (o : Option ℕ) → is_some o ≡ false → o ≡ None
none_from None e = refl
none_from (Some s) e = absurd (true≢false e)

cond_none : (b : Bool) (s : ℕ) (o : Option ℕ) → cond b (Some s) o ≡ None → (b ≡ false) × (o ≡ None)
cond_none true s o e = absurd (true≢false (ap is_some e))
cond_none false s o e = (refl, e)

is_of_decides : (p : ℕ) (t : List ℕ) (e : Triple) → Decides (is_of p t e) ((e.signer ≡ p) × (e.text ≡ t))
is_of_decides p t e = Decides-and _ _ (Decides-eqb e.signer p) (bytes_eq-Decides e.text t)

-- x has the signer and text of e just where e has those of x
is_of_sym : (x e : Triple) → is_of e.signer e.text x ≡ is_of x.signer x.text e
is_of_sym x e = same_from_decides _ _ (is_of_decides e.signer e.text x) (Decides-like _ (λ h. (sym h.0, sym h.1)) (λ h. (sym h.0, sym h.1)) (is_of_decides x.signer x.text e))

seal_of_push : (es : List Triple) (x : Triple) (p : ℕ) (t : List ℕ) → seal_of es p t ≡ None → is_of p t x ≡ false → seal_of (es ++ x ∷ []) p t ≡ None
seal_of_push [] x p t n h = cond-false _ _ _ h
seal_of_push (e ∷ es) x p t n h =
    let k = cond_none (is_of p t e) e.seal (seal_of es p t) n in
    cond-false _ _ _ k.0 ∙ seal_of_push es x p t k.1 h

pub single_push : (es : List Triple) (x : Triple) → single es ≡ true → seal_of es x.signer x.text ≡ None → single (es ++ x ∷ []) ≡ true
single_push [] x h n = refl
single_push (e ∷ es) x h n =
    let k = cond_none (is_of x.signer x.text e) e.seal (seal_of es x.signer x.text) n in
    let parts = and_parts (not (is_some (seal_of es e.signer e.text))) (single es) h in
    let old = none_from _ (not-true _ parts.0) in
    let new = seal_of_push es x e.signer e.text old (is_of_sym x e ∙ k.0) in
    and_from _ _ (not_from_false _ (ap is_some new)) (single_push es x parts.1 k.1)

pub all_known_push : (es : List Triple) (x : Triple) → all_known es ≡ true → known x.signer ≡ true → all_known (es ++ x ∷ []) ≡ true
all_known_push [] x h k = and_from _ _ k refl
all_known_push (e ∷ es) x h k =
    let parts = and_parts (known e.signer) (all_known es) h in
    and_from _ _ parts.0 (all_known_push es x parts.1 k)

-- where a signer has some left, there is a place, and taking it keeps the count
pub room_more : (b : Book) (p : ℕ) → known p ≡ true → 0 < left_of (book_of b) p → (b.used < 512) × (b.used + 1 + sum (lowered b.left p) ≤ 512)
room_more b p k some =
    let has : 0 < get_or b.left (p - 1) 0 = omega (arith, cond-true (known p) (get_or b.left (p - 1) 0) 0 k) in
    let in' : p - 1 < length b.left = let parts = and_parts (leb 1 p) (leb p 8) k in omega (arith, b.eight, leb-true 1 p parts.0, leb-true p 8 parts.1) in
    (omega (arith, b.space, get_or-le-sum_by (λ x. x) b.left (p - 1) 0 in'), omega (arith, b.space, sum_by-set (λ x. x) b.left (p - 1) (get_or b.left (p - 1) 0 - 1) 0 in'))

-- the triples after an entry is written past the used ones
pub grown : (b : Book) (e : Entry) (x : Triple) → b.used < length b.entries → triple_of e ≡ x → triples_of (b.used + 1) (set b.entries b.used e) ≡ (book_of b).triples ++ x ∷ []
grown b e x within is = ap (map triple_of) (take_more_set b.entries b.used e within) ∙ map_push triple_of (take b.used b.entries) e ∙ ap (λ y. (book_of b).triples ++ y ∷ []) is
