use Rattle.std.proofs.Common.{◌≡◌, ℕ, ◌<◌, get_or, sym, ap, ◌∙◌, arith}
use Rattle.std.specs.Prelude.{map}
use Rattle.std.proofs.lemmas.List.{get_or-map}
use Rattle.processor.specs.Parts.{record_of}
use Rattle.bench.specs.declared.seats.Seat.{Seat}
use Rattle.bench.specs.Reports.{no_part, decisions_in}
use Rattle.bench.proofs.seats.Seats.decisions.Goals as goal

pub returns : goal.returns
returns c =
    let seats = c.self.inside.seats in
    let parts = map (λ s. s.part) seats in
    let of-seat : (k : ℕ) (d : Seat) → k < 8 → record_of (get_or seats k d).part c.args.item ≡ record_of (get_or parts k no_part) c.args.item = λ k d h. ap (λ p. record_of p c.args.item) (sym (get_or-map (λ s. s.part) seats k d no_part (omega (arith, c.self.invariant)))) in
    let e1 = c.decision.ensures ∙ of-seat 0 _ (omega arith) in
    let e2 = c.decision-2.ensures ∙ of-seat 1 _ (omega arith) in
    let e3 = c.decision-3.ensures ∙ of-seat 2 _ (omega arith) in
    let e4 = c.decision-4.ensures ∙ of-seat 3 _ (omega arith) in
    let e5 = c.decision-5.ensures ∙ of-seat 4 _ (omega arith) in
    let e6 = c.decision-6.ensures ∙ of-seat 5 _ (omega arith) in
    let e7 = c.decision-7.ensures ∙ of-seat 6 _ (omega arith) in
    let e8 = c.decision-8.ensures ∙ of-seat 7 _ (omega arith) in
    rw (e1, e2, e3, e4, e5, e6, e7, e8) (ap (λ v. decisions_in v.parts c.args.item) c.self.view_is)
