-- Counting those that have turned, and a flight's lowest goal that has not, over the seats.
use Rattle.std.proofs.Common.{◌≡◌, ℕ, ◌+◌, ◌<◌, Bool, true, false, cond, not, ◌&&◌, List, length, get_or, refl, sym, ap, ◌∙◌, arith}
use Rattle.std.specs.Prelude.{map, count_by}
use Rattle.std.specs.List.{position, zip}
use Rattle.std.proofs.lemmas.List.{get_or-map}
use Rattle.std.proofs.lemmas.List.Recursion.{is_count_by}
use Rattle.std.proofs.lemmas.Slice.Zip.{length-zip, get_or-zip}
use Rattle.refusals.specs.Places.{first}
use Rattle.refusals.proofs.Firsts.{first_position, first_same}
use Rattle.bench.specs.declared.flight.Flight.{Flight}
use Rattle.bench.specs.declared.seats.Seat.{Seat}
use Rattle.bench.specs.Calls.{count_true, wants, goal_of}
use Rattle.bench.specs.Reports.{no_part}

pub counted : (xs : List Seat) → count_by (λ x. x.turned) xs ≡ count_true (map (λ x. x.turned) xs)
counted xs = sym (is_count_by (λ ys. count_true (map (λ x. x.turned) ys)) (λ x. x.turned) refl (λ x ys. more x.turned (count_true (map (λ y. y.turned) ys))) xs)
  where
    more : (b : Bool) (n : ℕ) → cond b 1 0 + n ≡ cond b (1 + n) n
    more true n = refl
    more false n = omega arith

pub no_seat : Seat
no_seat = record { offset = 0; turned = false; part = no_part }

-- the lowest goal that has not turned
pub first_wanted : (xs : List Seat) (fl : Flight) → length fl.goals ≡ 8 → length xs ≡ 8 → position (λ x. x.0 && not x.1.turned) (zip fl.goals xs) ≡ goal_of (map (λ x. x.turned) xs) fl
first_wanted xs fl g t =
    let both = zip fl.goals xs in
    let eight : length both ≡ 8 = simp length-zip (rw (g, t) refl) in
    let test : ℕ → Bool = λ k. (get_or both k (false, no_seat)).0 && not (get_or both k (false, no_seat)).1.turned in
    let same : (k : ℕ) → k < 8 → test k ≡ wants (map (λ x. x.turned) xs) fl k
    = λ k h. ap (λ x. x.0 && not x.1.turned) (get_or-zip fl.goals xs k (false, no_seat) (omega arith) (omega arith)) ∙ ap (λ b. get_or fl.goals k false && not b) (sym (get_or-map (λ x. x.turned) xs k no_seat false (omega arith))) in
    first_position (λ x. x.0 && not x.1.turned) both (false, no_seat) ∙ (ap (first test) eight ∙ first_same test (wants (map (λ x. x.turned) xs) fl) 8 same)
