-- The lines of a started run.
use Rattle.std.specs.Prelude.{ℕ, Bool, cond, Some, None, Ok, Err, Option, Result}
use Rattle.refusals.specs.declared.refusal.Refusal.{Refusal}
use Rattle.refusals.specs.declared.refusal.Refusal.TheVariants.{Line}
use Rattle.bench.specs.Model.{Model}
use Rattle.bench.specs.Calls.{lifted, turns, sets, advances}
use Rattle.refusals.specs.Rows.{is_drop}
use Rattle.processor.specs.declared.part.Decision.{Decision}
use Rattle.bench.specs.Seals.{seals}
use Rattle.bench.specs.Sending.{opens, injects, delivers, decides}
use Rattle.lines.specs.Grammar.{LineRead, bench_line, item_line, start_line, set_line, turn_line, advance_line, seal_line, open_line, inject_line, deliver_line, decide_line}
use Rattle.script.specs.declared.answer.Answer.{Answer}
use Rattle.script.specs.declared.answer.Answer.TheVariants.{Done, Number, Decided, Dropped, Refused}

-- the answer of a call, or the refusal
abbrev pub answer_or : Result Answer Refusal → Answer
answer_or (Ok a) = a
answer_or (Err r) = Refused r

-- the answer of a call that gives nothing, and of one that gives a number
abbrev pub done_or : Result Unit Refusal → Answer
done_or (Ok u) = Done
done_or (Err r) = Refused r

abbrev pub number_or : Result ℕ Refusal → Answer
number_or (Ok n) = Number n
number_or (Err r) = Refused r

abbrev pub answering : {R : Type 0} → (R → Answer) → R × Model → Answer × Model
answering answer x = (answer x.0, x.1)

-- the answer of a call that gives a decision
abbrev pub decision_or : Result Decision Refusal → Answer
decision_or (Ok d) = Decided d
decision_or (Err r) = Refused r

-- the answer of a call in which a frame is received: it may be dropped
abbrev pub flight_or : Result ℕ Refusal → Answer
flight_or (Ok n) = Number n
flight_or (Err r) = cond (is_drop r) (Dropped r) (Refused r)

-- a kind of value
pub record Values : Type 0 where
  pub admitted : ℕ → Bool
  pub same : ℕ → ℕ → Bool

abbrev pub values : (ℕ → Bool) → (ℕ → ℕ → Bool) → Values
values admitted same = record { admitted = admitted; same = same }

-- what a line answers and leaves, where z is the number of a new seal
abbrev pub called : Values → ℕ → LineRead → Model → Answer × Model
called v z (bench_line n f d e) m = (Refused Line, m)
called v z (item_line sender reading) m = (Refused Line, m)
called v z (start_line kind scheme) m = (Refused Line, m)
called v z (set_line p offset) m = answering done_or (lifted (sets p offset) m)
called v z (turn_line p) m = answering done_or (lifted (turns p) m)
called v z (advance_line k) m = answering number_or (lifted (advances k) m)
called v z (seal_line p text) m = answering number_or (seals z p text m)
called v z (open_line p item value) m = answering number_or (opens v.admitted z p item value m)
called v z (inject_line from to bytes) m = answering flight_or (injects v.admitted v.same z from to bytes m)
called v z (deliver_line flight p) m = answering flight_or (delivers v.admitted v.same z flight p m)
called v z (decide_line p item) m = answering decision_or (lifted (decides p item) m)

-- an unreadable line is row 60
abbrev pub answered : Values → ℕ → Option LineRead → Model → Answer × Model
answered v z None m = (Refused Line, m)
answered v z (Some line) m = called v z line m
