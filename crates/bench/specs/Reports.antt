-- What became of an item.
use Rattle.std.specs.Prelude.{ℕ, cond, List, [], ◌∷◌, Ok, Err, count_by, Option, Result, nat_eq, slice_index_or}
use Rattle.refusals.specs.declared.refusal.Refusal.{Refusal}
use Rattle.refusals.specs.declared.refusal.Refusal.TheVariants.{Item}
use Rattle.plans.specs.Setups.{Setup}
use Rattle.processor.specs.Agendas.{is_item}
use Rattle.processor.specs.Parts.{record_of}
use Rattle.processor.specs.declared.part.Part.{Part}
use Rattle.processor.specs.declared.part.Decision.{Decision}
use Rattle.bench.specs.declared.report.Report.{Report}
use Rattle.bench.specs.Model.{Core}

-- the flights of the item
abbrev pub broadcasts : Core → ℕ → ℕ
broadcasts c item = count_by (λ fl. nat_eq fl.item item) c.flights

abbrev pub no_part : Part
no_part = record { own = 0; bags = [] }

-- the decision recorded for the item by the part at place q
abbrev pub recorded_in : List Part → ℕ → ℕ → Option Decision
recorded_in parts item q = record_of (slice_index_or parts q no_part) item

abbrev pub recorded : Core → ℕ → ℕ → Option Decision
recorded c item q = recorded_in c.parts item q

-- the records of the eight places
abbrev pub decisions_in : List Part → ℕ → List (Option Decision)
decisions_in parts item = recorded_in parts item 0 ∷ recorded_in parts item 1 ∷ recorded_in parts item 2 ∷ recorded_in parts item 3 ∷ recorded_in parts item 4 ∷ recorded_in parts item 5 ∷ recorded_in parts item 6 ∷ recorded_in parts item 7 ∷ []

-- of which the first n are taken
abbrev pub decisions : Core → ℕ → List (Option Decision)
decisions c item = decisions_in c.parts item

abbrev pub report_of : Setup → Core → ℕ → Report
report_of s c item = record { n = s.n; broadcasts = broadcasts c item; decisions = decisions c item }

abbrev pub by_plan : {R : Type 0} → Result Setup Refusal → (Setup → Result R Refusal) → Result R Refusal
by_plan (Ok s) next = next s
by_plan (Err r) next = Err r

-- report: the refusal of the making, row 11, or the report
abbrev pub reports : ℕ → Core → Result Report Refusal
reports item c = by_plan c.plan (λ s. cond (is_item s item) (Ok (report_of s c item)) (Err Item))
