-- What a script prints, one line more.
use Rattle.std.proofs.Common.{◌≡◌, ℕ, ◌+◌, ◌-◌, ◌≤◌, arith, true, false, List, [], ◌∷◌, ◌++◌, sym, refl, ap, ◌∙◌, subst, add-one}
use Rattle.std.proofs.lemmas.List.{append_assoc}
use Rattle.std.proofs.lemmas.Bool.{true≢false, false≢true}
use Rattle.bench.specs.Model.{Model}
use Rattle.bench.specs.Reports.{reports}
use Rattle.lines.specs.Cut.{tail, is_nil}
use Rattle.lines.specs.Grammar.{read_line}
use Rattle.script.specs.declared.answer.Answer.{Answer}
use Rattle.script.specs.declared.setting.Heard.{Heard}
use Rattle.script.specs.Printing.{printed}
use Rattle.script.specs.Settings.{Set, heard}
use Rattle.script.specs.Calls.{Values, answered}
use Rattle.script.specs.Transcript.{Prints, ending, line_of, item_lines, report, Runs, Heeds, Opens}

-- the report of one item more
pub lines_none : (m : Model) → item_lines m 0 ≡ []
unfolding item_lines
lines_none m = refl

lines_more : (m : Model) (i : ℕ) → item_lines m (i + 1) ≡ item_lines m i ++ line_of (i + 1) (reports (i + 1) m.core)
unfolding item_lines
lines_more m i = rw add-one refl

pub lines_next : (m : Model) (i : ℕ) → 1 ≤ i → item_lines m (i + 1 - 1) ≡ item_lines m (i - 1) ++ line_of i (reports i m.core)
lines_next m i h =
    let here : i + 1 - 1 ≡ i - 1 + 1 = omega arith in
    let again : i - 1 + 1 ≡ i = omega arith in
    ap (item_lines m) here ∙ lines_more m (i - 1) ∙ ap (λ k. item_lines m (i - 1) ++ line_of k (reports k m.core)) again

-- Where what is printed from a on, after `out`, is printed from the start on, the same holds one line later.
pub step : {A : Type 0} (R : A → List (List ℕ) → List ℕ → Type 0) {start a b : A} (all ps qs : List (List ℕ)) (first out out' said : List ℕ)
    → ((o : List ℕ) → R a ps o → Prints (R start all) first (out ++ o)) → out' ≡ out ++ said → ((o : List ℕ) → R b qs o → R a ps (said ++ o))
    → (o : List ℕ) → R b qs o → Prints (R start all) first (out' ++ o)
step R {start} {a} {b} all ps qs first out out' said so_far pushed one o h =
    subst (λ l. Prints (R start all) first l) (sym (append_assoc out said o) ∙ ap (λ l. l ++ o) (sym pushed)) (so_far (said ++ o) (one o h))

-- a line, whose answer is a, with some number for a new seal
pub run_more : (v : Values) (m m' : Model) (line : List ℕ) (ps qs : List (List ℕ)) (a : Answer) → ps ≡ line ∷ qs → is_nil qs ≡ false
    → ((z : ℕ) × ((a, m') ≡ answered v z (read_line line) m)) → (o : List ℕ) → Runs v m' qs o → Runs v m ps (printed a ++ o)
run_more v m m' line ps [] a is more called o h = absurd (true≢false more)
run_more v m m' line ps (next ∷ rest) a is more (z, eq) o h =
    let P : Answer × Model → Type 0 = λ x. Runs v x.1 (next ∷ rest) o → Runs v m (line ∷ next ∷ rest) (printed x.0 ++ o) in
    subst (λ l. Runs v m l (printed a ++ o)) (sym is) (subst P (sym eq) (λ k. (z, o, refl, k)) h)

-- the end
pub run_end : (v : Values) (m : Model) (ps : List (List ℕ)) → is_nil (tail ps) ≡ true → Runs v m ps (ending ps ++ report m)
run_end v m [] over = refl
run_end v m (last ∷ []) over = refl
run_end v m (line ∷ next ∷ more) over = absurd (false≢true over)

-- a line before the start that is heard as x
pub open_more : (s : Set) (line : List ℕ) (ps qs : List (List ℕ)) (x : Heard × Set) → ps ≡ line ∷ qs → is_nil qs ≡ false → x ≡ heard (read_line line) s
    → (o : List ℕ) → Heeds x (λ t rest. Opens t qs rest) qs o → Opens s ps o
open_more s line ps [] x is more eq o h = absurd (true≢false more)
open_more s line ps (next ∷ rest) x is more eq o h =
    subst (λ l. Opens s l o) (sym is) (subst (λ y. Heeds y (λ t rest'. Opens t (next ∷ rest) rest') (next ∷ rest) o) eq h)

-- the end
pub open_end : (s : Set) (ps : List (List ℕ)) → is_nil (tail ps) ≡ true → Opens s ps (ending ps)
open_end s [] over = refl
open_end s (last ∷ []) over = refl
open_end s (line ∷ next ∷ more) over = absurd (false≢true over)
