-- The bytes that are printed.
use Rattle.std.specs.Prelude.{ℕ, zero, suc, ◌+◌, ◌/◌, ◌%◌, cond, List, [], ◌∷◌, ◌++◌, Some, None, codes, decimal, Option, nat_lt, slice_index_or}
use Rattle.refusals.specs.Rows.{row_of, told_by}
use Rattle.processor.specs.declared.part.Decision.{Decision}
use Rattle.processor.specs.declared.part.Decision.TheVariants.{Default, Value}
use Rattle.bench.specs.declared.report.Report.{Report}
use Rattle.script.specs.declared.answer.Answer.{Answer}
use Rattle.script.specs.declared.answer.Answer.TheVariants.{Done, Number, Decided, Dropped, Refused}

-- the row, and the link or flight told, if any
abbrev pub row_text : ℕ → Option ℕ → List ℕ
row_text row None = decimal row ++ codes "\n"
row_text row (Some place) = decimal row ++ (codes " " ++ (decimal place ++ codes "\n"))

-- an upper-case hexadecimal digit
abbrev pub hex_digit : ℕ → ℕ
hex_digit d = cond (nat_lt d 10) (48 + d) (55 + d)

-- the last k hexadecimal digits, the most significant first
unfoldable pub hex : ℕ → ℕ → List ℕ
hex zero v = []
hex (suc k) v = hex k (v / 16) ++ (hex_digit (v % 16) ∷ [])

abbrev pub decision_word : Option Decision → List ℕ
decision_word None = codes "none"
decision_word (Some Default) = codes "default"
decision_word (Some (Value v)) = hex 16 v

abbrev pub printed : Answer → List ℕ
printed Done = codes "ok\n"
printed (Number n) = codes "ok " ++ (decimal n ++ codes "\n")
printed (Decided d) = codes "ok " ++ (decision_word (Some d) ++ codes "\n")
printed (Dropped r) = codes "drop " ++ row_text (row_of r) (told_by r)
printed (Refused r) = codes "no " ++ row_text (row_of r) (told_by r)

-- the decisions of the first q processors, each after a space
abbrev pub decision_words : List (Option Decision) → ℕ → List ℕ
decision_words ds zero = []
decision_words ds (suc q) = decision_words ds q ++ (codes " " ++ decision_word (slice_index_or ds q None))

abbrev pub item_line : ℕ → Report → List ℕ
item_line item r = codes "item " ++ (decimal item ++ (codes " broadcasts " ++ (decimal r.broadcasts ++ (codes " decisions" ++ (decision_words r.decisions r.n ++ codes "\n")))))
