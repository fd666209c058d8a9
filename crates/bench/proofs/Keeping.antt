-- A bench that was made keeps the promise.
use Rattle.std.proofs.Common.{◌≡◌, ℕ, Bool, true, List}
use Rattle.seals.specs.Meanings.{Meaning, Tidy}
use Rattle.plans.specs.declared.plan.Appointment.{Appointment}
use Rattle.bench.specs.Making.{made}
use Rattle.bench.specs.Promise.{Promised}
use Rattle.bench.proofs.Making.{world_of, prepared_fits, sound_made, start_made}
use Rattle.bench.proofs.Promising.{promise}
use Rattle.bench.proofs.Stepping.{step_tied, short}
use Rattle.bench.proofs.Settled.{settle_granted, arrives}
use Rattle.bench.proofs.Refusing.{unaltered}

pub made_promised : (admitted : ℕ → Bool) (same : ℕ → ℕ → Bool) → ((a : ℕ) → admitted a ≡ true → same a a ≡ true) → ((a b : ℕ) → same a b ≡ true → same b a ≡ true)
    → ((a b c : ℕ) → same a b ≡ true → same b c ≡ true → same a c ≡ true)
    → (n f d e : ℕ) (agenda : List Appointment) (scheme : Meaning) → Tidy scheme → Promised admitted same (made n f d e agenda scheme)
made_promised admitted same reflexive symmetric transitive n f d e agenda scheme tidy s granted =
    let W = world_of admitted same reflexive symmetric transitive s (prepared_fits n f d e agenda scheme s granted) in
    promise W (made n f d e agenda scheme) (sound_made W n f d e agenda scheme granted tidy) (start_made W n f d e agenda scheme granted tidy)
    (step_tied W) (settle_granted W) (short W) (arrives W) (unaltered admitted same)
