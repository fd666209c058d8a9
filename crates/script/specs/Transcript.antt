-- What a script prints, line by line.
use Rattle.std.specs.Prelude.{◌≡◌, true, false, ℕ, zero, suc, min, List, [], ◌∷◌, ◌++◌, length, Some, None, Ok, Err, codes, MatchBool, Option, Result, nat_lt}
use Rattle.refusals.specs.declared.refusal.Refusal.{Refusal}
use Rattle.seals.specs.Meanings.{Meaning}
use Rattle.seals.specs.Books.{fresh}
use Rattle.bench.specs.declared.report.Report.{Report}
use Rattle.bench.specs.Model.{Model}
use Rattle.bench.specs.Making.{made, refusal_in}
use Rattle.bench.specs.Reports.{reports}
use Rattle.lines.specs.Cut.{pieces, tail, is_nil}
use Rattle.lines.specs.Grammar.{read_line}
use Rattle.kinds.specs.Codes.{is_setpoint, same_setpoint, is_step, same_step}
use Rattle.lines.specs.declared.line.KindWord.{KindWord}
use Rattle.lines.specs.declared.line.KindWord.TheVariants.{Setpoint, Step}
use Rattle.lines.specs.declared.line.SchemeWord.{SchemeWord}
use Rattle.lines.specs.declared.line.SchemeWord.TheVariants.{Ledger, Deck}
use Rattle.plans.specs.declared.plan.Sizes.{Sizes}
use Rattle.script.specs.declared.setting.Heard.{Heard}
use Rattle.script.specs.declared.setting.Heard.TheVariants.{Kept, OutOfOrder, Start}
use Rattle.script.specs.declared.answer.Answer.TheVariants.{Done, Refused}
use Rattle.script.specs.Printing.{printed, item_line}
use Rattle.script.specs.Settings.{Set, unset, heard}
use Rattle.script.specs.Calls.{Values, values, answered}

-- The text is cut at its newlines. Each piece but the last is a line; what stands after the last newline is none.

-- row 60
abbrev pub bad_line : List ℕ
bad_line = codes "no 60\n"

-- a line without a newline
abbrev pub unended : List ℕ → List ℕ
unended [] = []
unended (b ∷ bs) = bad_line

-- what stands after the last newline
abbrev pub ending : List (List ℕ) → List ℕ
ending [] = []
ending (last ∷ more) = unended last

-- a line is taken, which a newline ended; or there is none, and what stands there instead is answered
abbrev pub Taken : Option (List ℕ) → List (List ℕ) → List (List ℕ) → List ℕ → List ℕ → Type 0
Taken (Some line) ps qs out now = (ps ≡ line ∷ qs) × (is_nil qs ≡ false) × (now ≡ out)
Taken None ps qs out now = (is_nil (tail ps) ≡ true) × (now ≡ out ++ ending ps)

-- what is printed from here on
abbrev pub Prints : (List ℕ → Type 0) → List ℕ → List ℕ → Type 0
Prints P out now = (said : List ℕ) × (now ≡ out ++ said) × P said

-- after a refused start every line is out of order
abbrev pub out_of_order : List (List ℕ) → List ℕ
out_of_order [] = []
out_of_order (last ∷ []) = unended last
out_of_order (line ∷ next ∷ more) = bad_line ++ out_of_order (next ∷ more)

-- the line of an item, if it is in the agenda
abbrev pub line_of : ℕ → Result Report Refusal → List ℕ
line_of i (Ok r) = item_line i r
line_of i (Err r) = []

-- the lines of the items up to k
unfoldable pub item_lines : Model → ℕ → List ℕ
item_lines m zero = []
item_lines m (suc k) = item_lines m k ++ line_of (suc k) (reports (suc k) m.core)

-- an agenda has at most eight items
abbrev pub report : Model → List ℕ
report m = item_lines m 8

-- a started run: each line prints its answer, where some z is the number of a new seal; last comes the report
abbrev pub Runs : Values → Model → List (List ℕ) → List ℕ → Type 0
Runs v m [] out = out ≡ report m
Runs v m (last ∷ []) out = out ≡ unended last ++ report m
Runs v m (line ∷ next ∷ more) out =
    (z : ℕ) × (rest : List ℕ) × (out ≡ printed (answered v z (read_line line) m).0 ++ rest) × Runs v (answered v z (read_line line) m).1 (next ∷ more) rest

-- `start` prints `ok` and the run goes on, or the refusal of the making and every later line is out of order
abbrev pub Begins : Values → Option Refusal → Model → List (List ℕ) → List ℕ → Type 0
Begins v None m more out = (rest : List ℕ) × (out ≡ printed Done ++ rest) × Runs v m more rest
Begins v (Some r) m more out = out ≡ printed (Refused r) ++ out_of_order more

-- a fresh ledger, and a deck of which each signer is dealt 64 seals, have nothing sealed and 64 left for each signer
abbrev pub fresh_scheme : SchemeWord → Meaning
fresh_scheme Ledger = fresh 64
fresh_scheme Deck = fresh (min 64 64)

-- the kinds of value
abbrev pub values_of : KindWord → Values
values_of Setpoint = values is_setpoint same_setpoint
values_of Step = values is_step same_step

abbrev pub Started : Values → Model → List (List ℕ) → List ℕ → Type 0
Started v m more out = Begins v (refusal_in m.core.plan) m more out

abbrev pub bench_of : Sizes → Set → SchemeWord → Model
bench_of z s scheme = made z.n z.f z.d z.e s.agenda (fresh_scheme scheme)

-- a line before the start: it prints nothing, or row 60, or starts the run
abbrev pub Heeds : Heard × Set → (Set → List ℕ → Type 0) → List (List ℕ) → List ℕ → Type 0
Heeds (Kept, s) go more out = go s out
Heeds (OutOfOrder, s) go more out = (rest : List ℕ) × (out ≡ bad_line ++ rest) × go s rest
Heeds (Start z kind scheme, s) go more out = Started (values_of kind) (bench_of z s scheme) more out

-- the lines before the start; without a granted start there is no report
abbrev pub Opens : Set → List (List ℕ) → List ℕ → Type 0
Opens s [] out = out ≡ []
Opens s (last ∷ []) out = out ≡ unended last
Opens s (line ∷ next ∷ more) out = Heeds (heard (read_line line) s) (λ t rest. Opens t (next ∷ more) rest) (next ∷ more) out

-- a text of over 16 KiB prints row 60 alone
abbrev pub Transcript : List ℕ → List ℕ → Type 0
Transcript text out = MatchBool (nat_lt 16384 (length text)) (out ≡ bad_line) (Opens unset (pieces 10 text) out)
