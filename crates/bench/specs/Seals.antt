-- What sealing for a faulty processor answers and leaves.
use Rattle.std.specs.Prelude.{ℕ, cond, List, Err, Result}
use Rattle.refusals.specs.declared.refusal.Refusal.{Refusal}
use Rattle.refusals.specs.declared.refusal.Refusal.TheVariants.{Processor, Sound}
use Rattle.seals.specs.Meanings.{answered, signed}
use Rattle.processor.specs.Controllers.{is_processor}
use Rattle.bench.specs.Model.{Model}
use Rattle.bench.specs.Calls.{after, has_turned}

-- the scheme's own answer, where z is the number of a new seal
abbrev pub signs : ℕ → ℕ → List ℕ → Model → Result ℕ Refusal × Model
signs z p text m = (answered m.scheme p text z, record { core = m.core; scheme = signed m.scheme p text z })

-- seal: p is a processor (row 10) that has turned (row 13); whatever the scheme says is passed on
abbrev pub seals : ℕ → ℕ → List ℕ → Model → Result ℕ Refusal × Model
seals z p text m =
    after m.core.plan m (λ s.
    cond (is_processor s p) (cond (has_turned m.core p) (signs z p text m) (Err Sound, m)) (Err Processor, m))
