-- The place of a processor: processor p is at place p - 1.
use Rattle.std.specs.Prelude.{ℕ, ◌-◌, false, cond, Ok, Err, Result, slice_index_or}
use Rattle.refusals.specs.declared.refusal.Refusal.{Refusal}
use Rattle.refusals.specs.declared.refusal.Refusal.TheVariants.{Processor, Faulty}
use Rattle.plans.specs.Setups.{Setup}
use Rattle.processor.specs.Controllers.{is_processor}
use Rattle.bench.specs.Model.{Core}

-- row 10: it is 1 to n
abbrev pub place_of : Setup → ℕ → Result ℕ Refusal
place_of s p = cond (is_processor s p) (Ok (p - 1)) (Err Processor)

-- row 12: the processor at place q has not turned
abbrev pub correct_at : Core → ℕ → Result ℕ Refusal
correct_at c q = cond (slice_index_or c.turned q false) (Err Faulty) (Ok q)
