-- The lines of a script, each by its words. Assumes nothing.
use Rattle.std.specs.Prelude.{◌≡◌, ℕ, Result, cond, List, [], ◌∷◌, Some, None, codes, Option}
use Rattle.std.specs.Result.{result_ok}
use Rattle.std.specs.Str.{bytes_eq}
use Rattle.lines.specs.declared.line.KindWord.{KindWord}
use Rattle.lines.specs.declared.line.KindWord.TheVariants.{Setpoint, Step}
use Rattle.lines.specs.declared.line.SchemeWord.{SchemeWord}
use Rattle.lines.specs.declared.line.SchemeWord.TheVariants.{Ledger, Deck}
use Rattle.lines.specs.Cut.{head, is_nil, pieces, tail}
use Rattle.lines.specs.Digits.{and_then, byte_string, number_of, value_of}

-- what a line says
pub data LineRead : Type 0 where
  bench_line : ℕ → ℕ → ℕ → ℕ → LineRead
  item_line : ℕ → ℕ → LineRead
  start_line : KindWord → SchemeWord → LineRead
  set_line : ℕ → ℕ → LineRead
  turn_line : ℕ → LineRead
  advance_line : ℕ → LineRead
  seal_line : ℕ → List ℕ → LineRead
  open_line : ℕ → ℕ → ℕ → LineRead
  inject_line : ℕ → ℕ → List ℕ → LineRead
  deliver_line : ℕ → ℕ → LineRead
  decide_line : ℕ → ℕ → LineRead

-- what a table has under a word
abbrev pub named : {A : Type 0} → List (List ℕ × A) → List ℕ → Option A
named [] w = None
named (e ∷ es) w = cond (bytes_eq e.0 w) (Some e.1) (named es w)

-- the table has the result under the word, or nothing where there is an error
abbrev pub NamedIn : {A E : Type 0} → List (List ℕ × A) → List ℕ → Result A E → Type 0
NamedIn table w r = result_ok r ≡ named table w

abbrev pub kinds : List (List ℕ × KindWord)
kinds = (codes "setpoint", Setpoint) ∷ (codes "step", Step) ∷ []

abbrev pub schemes : List (List ℕ × SchemeWord)
schemes = (codes "ledger", Ledger) ∷ (codes "deck", Deck) ∷ []

-- the words of a line that are still to come
abbrev pub WordList : Type 0
WordList = List (List ℕ)

-- a line, or a part of one, from the words that are still to come; none where they are unreadable
abbrev pub Form : Type 0
Form = WordList → Option LineRead

-- the next word, read in one way, and then the form that follows it
abbrev pub word : {A : Type 0} → (List ℕ → Option A) → (A → Form) → Form
word reading next ws = and_then (and_then (head ws) reading) (λ x. next x (tail ws))

abbrev pub number : (ℕ → Form) → Form
number = word number_of

-- the line ends here
abbrev pub end : LineRead → Form
end line ws = cond (is_nil ws) (Some line) None

abbrev pub bench_form : Form
bench_form = number (λ n. number (λ f. number (λ d. number (λ e. end (bench_line n f d e)))))

abbrev pub item_form : Form
item_form = number (λ sender. number (λ reading. end (item_line sender reading)))

abbrev pub start_form : Form
start_form = word (named kinds) (λ kind. word (named schemes) (λ scheme. end (start_line kind scheme)))

abbrev pub set_form : Form
set_form = number (λ processor. number (λ offset. end (set_line processor offset)))

abbrev pub turn_form : Form
turn_form = number (λ processor. end (turn_line processor))

abbrev pub advance_form : Form
advance_form = number (λ ticks. end (advance_line ticks))

abbrev pub seal_form : Form
seal_form = number (λ processor. word byte_string (λ text. end (seal_line processor text)))

abbrev pub open_form : Form
open_form = number (λ processor. number (λ item. word value_of (λ value. end (open_line processor item value))))

abbrev pub inject_form : Form
inject_form = number (λ from. number (λ to. word byte_string (λ bytes. end (inject_line from to bytes))))

abbrev pub deliver_form : Form
deliver_form = number (λ flight. number (λ processor. end (deliver_line flight processor)))

abbrev pub decide_form : Form
decide_form = number (λ processor. number (λ item. end (decide_line processor item)))

abbrev pub forms : List (List ℕ × Form)
forms = (codes "bench", bench_form)
    ∷ (codes "item", item_form)
    ∷ (codes "start", start_form)
    ∷ (codes "set", set_form)
    ∷ (codes "turn", turn_form)
    ∷ (codes "advance", advance_form)
    ∷ (codes "seal", seal_form)
    ∷ (codes "open", open_form)
    ∷ (codes "inject", inject_form)
    ∷ (codes "deliver", deliver_form)
    ∷ (codes "decide", decide_form)
    ∷ []

-- the first word names the form of the words after it
abbrev pub line_form : Form
line_form = word (named forms) (λ form. form)

-- a line, whose words have one space (32) between each two
unfoldable pub read_line : List ℕ → Option LineRead
read_line line = line_form (pieces 32 line)
