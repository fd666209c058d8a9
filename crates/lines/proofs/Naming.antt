-- A word that a table does not have. Assumes nothing.
use Rattle.std.proofs.Common.{◌≡◌, ℕ, ◌<◌, Bool, true, false, ◌&&◌, ltb, List, [], ◌∷◌, Some, None, IsUtf8, sym, refl, ap, ◌∙◌, subst, inl, inr, Option, ⊎_elim}
use Rattle.std.specs.List.{AllByRecursion}
use Rattle.std.specs.Str.{bytes_eq}
use Rattle.std.proofs.ByRecursion.{IsAscii-from_all}
use Rattle.std.proofs.lemmas.Slice.Eq.{bytes_eq-Decides}
use Rattle.std.proofs.lemmas.Bool.{and_parts, cases_Bool, cond-false, ltb-true}
use Rattle.std.proofs.lemmas.Str.{IsUtf8-from_ascii}
use Rattle.lines.specs.declared.line.KindWord.{KindWord}
use Rattle.lines.specs.declared.line.SchemeWord.{SchemeWord}
use Rattle.lines.specs.declared.line.UnknownWord.{UnknownWord}
use Rattle.lines.specs.Cut.{head, tail}
use Rattle.lines.specs.Digits.{and_then}
use Rattle.lines.specs.Grammar.{NamedIn, WordList, forms, kinds, line_form, named, schemes}
use Rattle.lines.specs.Left.{NoText, Parsed}

unlike : (a b : List ℕ) → (b ≡ a → ⊥) → bytes_eq a b ≡ false
unlike a b differs = ⊎_elim (λ same. absurd (differs (sym ((bytes_eq-Decides a b).0 same)))) (λ apart. apart) (cases_Bool (bytes_eq a b))

not_named : {A : Type 0} (es : List (List ℕ × A)) (w : List ℕ) → AllByRecursion (λ e. w ≡ e.0 → ⊥) es → named es w ≡ None
not_named [] w none = refl
not_named (e ∷ es) w none = cond-false _ _ _ (unlike e.0 w none.0) ∙ not_named es w none.1

-- a text that is none of a table's words
pub unknown : {A : Type 0} (es : List (List ℕ × A)) (w : List ℕ) (words : WordList) → Some w ≡ head words → AllByRecursion (λ e. w ≡ e.0 → ⊥) es → None ≡ and_then (head words) (named es)
unknown es w words is none = sym (ap (λ o. and_then o (named es)) (sym is) ∙ not_named es w none)

abbrev plain : List ℕ → Bool
plain [] = true
plain (b ∷ bs) = ltb b 128 && plain bs

abbrev plain_words : {A : Type 0} → List (List ℕ × A) → Bool
plain_words [] = true
plain_words (e ∷ es) = plain e.0 && plain_words es

plain_all : (bs : List ℕ) → plain bs ≡ true → AllByRecursion (λ b. b < 128) bs
plain_all [] p = tt
plain_all (b ∷ bs) p = let q = and_parts _ _ p in (ltb-true b 128 q.0, plain_all bs q.1)

no_plain_word : {A : Type 0} (es : List (List ℕ × A)) (w : List ℕ) → plain_words es ≡ true → (IsUtf8 w → ⊥) → AllByRecursion (λ e. w ≡ e.0 → ⊥) es
no_plain_word [] w p no_text = tt
no_plain_word (e ∷ es) w p no_text =
    let q = and_parts (plain e.0) (plain_words es) p in
    (λ same. no_text (subst IsUtf8 (sym same) (IsUtf8-from_ascii e.0 (IsAscii-from_all e.0 (plain_all e.0 q.0)))), no_plain_word es w q.1 no_text)

-- no word, or one that is no text
pub no_text : {A : Type 0} (es : List (List ℕ × A)) (words : WordList) → plain_words es ≡ true → NoText words → None ≡ and_then (head words) (named es)
no_text es [] p none = refl
no_text es (w ∷ ws) p none = unknown es w (w ∷ ws) refl (no_plain_word es w p (none w refl))

-- a word that says what a table has under it
pub named_word : {A E : Type 0} (es : List (List ℕ × A)) (words : WordList) (o : Option A) → plain_words es ≡ true → Parsed {A = A} {E = E} (NamedIn es) words o → o ≡ and_then (head words) (named es)
named_word es words o p (inl (none, is)) = is ∙ no_text es words p none
named_word es words o p (inr (w, r, first, named_r, is)) = is ∙ named_r ∙ ap (λ h. and_then h (named es)) first

pub kind_word : (words : WordList) (o : Option KindWord) → Parsed {A = KindWord} {E = UnknownWord} (NamedIn kinds) words o → o ≡ and_then (head words) (named kinds)
kind_word words o is = named_word kinds words o refl is

pub scheme_word : (words : WordList) (o : Option SchemeWord) → Parsed {A = SchemeWord} {E = UnknownWord} (NamedIn schemes) words o → o ≡ and_then (head words) (named schemes)
scheme_word words o is = named_word schemes words o refl is

-- a line whose first word names no form
pub no_form : (words : WordList) → None ≡ and_then (head words) (named forms) → None ≡ line_form words
no_form words none = ap (λ o. and_then o (λ form. form (tail words))) none
