-- A frame that is not accepted is dropped, by one of rows 30 to 42.
use Rattle.std.proofs.Common.{◌≡◌, ℕ, ◌+◌, Bool, true, not, ◌||◌, eqb, ltb, leb, List, length, get_or, Some, None, Ok, Err, Option, refl}
use Rattle.refusals.specs.Places.{first}
use Rattle.refusals.specs.Rows.{is_drop}
use Rattle.refusals.specs.declared.refusal.Refusal.{Refusal}
use Rattle.refusals.specs.declared.refusal.Refusal.TheVariants.{Frame, Row, Code, Long, First, Link, Own, Forged, Early, Late, Closed, Same, Full}
use Rattle.seals.specs.Meanings.{Triple}
use Rattle.frames.specs.Bytes.{Fields, shaped, decoded, decode}
use Rattle.frames.specs.Texts.{link_at, numbers_of}
use Rattle.plans.specs.declared.plan.Appointment.{Appointment}
use Rattle.plans.specs.Setups.{Setup}
use Rattle.processor.specs.declared.part.Bag.{Bag}
use Rattle.processor.specs.declared.part.Bag.TheVariants as Bags
use Rattle.processor.specs.declared.part.Part.{Part}
use Rattle.processor.specs.Bags.{joined}
use Rattle.processor.specs.Chains.{unless_at, is_wrong, numbered, linked, is_sealed, chained}
use Rattle.processor.specs.Receiving.{known, coded, brief, is_of, begun, headed, timely, tested, owes, arrived, received}
use Rattle.processor.specs.Parts.{bag_of}
use Rattle.processor.specs.Windows.{window_of}
use Rattle.processor.proofs.Outcomes.{Only, only_ok, only_err, only_cond, only_passes, only_after, only_after_on, only_appointed}

abbrev pub Dropped : Refusal → Type 0
Dropped e = is_drop e ≡ true

drops_unless : (row : ℕ → Refusal) (o : Option ℕ) → ((k : ℕ) → is_drop (row k) ≡ true) → Only Dropped (unless_at row o)
drops_unless row None d = only_ok Dropped tt
drops_unless row (Some k) d = only_err Dropped (row (k + 1)) (d (k + 1))

drops_joined : (same : ℕ → ℕ → Bool) (b : Bag) (v : ℕ) → Only Dropped (joined same b v)
drops_joined same Bags.Empty v = only_ok Dropped (Bags.One v)
drops_joined same (Bags.One a) v = only_cond Dropped (same a v) (Err Same) (Ok (Bags.Two a v)) (only_err Dropped Same refl) (only_ok Dropped (Bags.Two a v))
drops_joined same (Bags.Two a b) v = only_cond Dropped (same a v || same b v) (Err Same) (Err Full) (only_err Dropped Same refl) (only_err Dropped Full refl)
drops_joined same (Bags.Closed d) v = only_err Dropped Closed refl

module _ (admitted : ℕ → Bool) (same : ℕ → ℕ → Bool) (s : Setup) (ts : List Triple) (reading : ℕ) where
  drops_headed : (f : Fields) → Only Dropped (headed admitted s f)
  drops_headed f =
      only_after Dropped (known s f) _ (only_appointed Dropped s f.item Row refl) (λ a.
      only_after Dropped (coded admitted f) _ (only_passes Dropped (admitted f.value) Code refl) (λ _.
      only_after Dropped (brief s f) _ (only_passes Dropped (leb (length f.links) (s.f + 1)) Long refl) (λ _.
      only_after Dropped (begun a f) _ (only_passes Dropped (is_of a.sender (link_at f 1)) First refl) (λ _. only_ok Dropped a))))

  drops_chained : (own : ℕ) (f : Fields) → Only Dropped (chained s.n ts own f)
  drops_chained own f =
      let ps = numbers_of f.links in
      only_after Dropped (linked s.n own ps) _
      (only_after Dropped (numbered s.n ps) _ (drops_unless Link (first (is_wrong s.n ps) (length ps)) (λ k. refl))
      (λ _. drops_unless Own (first (λ k. eqb (get_or ps k 0) own) (length ps)) (λ k. refl)))
      (λ _. drops_unless Forged (first (λ k. not (is_sealed ts f (k + 1))) (length f.links)) (λ k. refl))

  drops_timely : (a : Appointment) (f : Fields) → Only Dropped (timely s a reading f)
  drops_timely a f =
      let w = window_of s a.reading (length f.links) in
      only_cond Dropped (ltb reading w.0) (Err Early) _ (only_err Dropped Early refl)
      (only_cond Dropped (leb w.1 reading) (Err Late) (Ok tt) (only_err Dropped Late refl) (only_ok Dropped tt))

  drops_tested : (own : ℕ) (f : Fields) → Only Dropped (tested admitted s ts own reading f)
  drops_tested own f =
      only_after Dropped (headed admitted s f) _ (drops_headed f) (λ a.
      only_after Dropped (chained s.n ts own f) _ (drops_chained own f) (λ _. drops_timely a f))

  drops_arrived : (f : Fields) (p : Part) → Only Dropped (arrived admitted same s ts reading f p).0
  drops_arrived f p =
      only_after_on Dropped p (tested admitted s ts p.own reading f) _ (drops_tested p.own f) (λ _.
      only_after_on Dropped p (joined same (bag_of p f.item) f.value) _ (drops_joined same (bag_of p f.item) f.value) (λ b. only_ok Dropped (owes s p.own f)))

  pub received_drops : (bytes : List ℕ) (p : Part) → Only Dropped (received admitted same s ts reading bytes p).0
  received_drops bytes p =
      only_after_on Dropped p (decode bytes) _
      (only_cond Dropped (shaped bytes) (Ok (decoded bytes)) (Err Frame) (only_ok Dropped (decoded bytes)) (only_err Dropped Frame refl))
      (λ f. drops_arrived f p)
