-- inject and deliver are quiet moves of the protocol, and are refused by no row of 50 and above.
use Rattle.std.proofs.Common.{◌≡◌, ℕ, suc, ◌≤◌, Bool, true, false, cond, leb, List, Ok, Err, Result, sym, refl, ap, ◌∙◌, subst, arith}
use Rattle.std.specs.Int.Digits.{AllBelowBase}
use Rattle.std.proofs.lemmas.Bool.{and_parts, leb-true, cond-true}
use Rattle.refusals.specs.Rows.{row_of, is_drop}
use Rattle.refusals.specs.declared.refusal.Refusal.{Refusal}
use Rattle.bench.specs.Model.{Model}
use Rattle.bench.specs.Calls.{seat, after}
use Rattle.bench.specs.Flights.{bytes_of, ends_way, arrives, receives}
use Rattle.bench.specs.Sending.{route, injects, flight_at, delivers}
use Rattle.bench.specs.Settling.{ended}
use Rattle.protocol.specs.Moves.{keeps, relays}
use Rattle.protocol.specs.Calls.{Inside, rest, further}
use Rattle.protocol.specs.Agreement.{Made}
use Rattle.bench.proofs.Worlds.{World, plan_of, newest_first}
use Rattle.bench.proofs.View.{flight_of, view, Sound, SealsFit}
use Rattle.bench.proofs.Tied.{unmoved}
use Rattle.processor.proofs.Outcomes.{Only, only_ok, only_err}
use Rattle.frames.proofs.Fitting.{decode_read}
use Rattle.bench.proofs.Receiving as Came
use Rattle.bench.proofs.Receiving.{Receipt, receive_tied}
use Rattle.bench.proofs.Delivering.{comes_tied}
use Rattle.bench.proofs.Steps.{planned}
use Rattle.bench.proofs.Seating.{Seated, place_fits, place_correct, seat_is, route_is, flight_is, Low, seat_low, route_low, flight_low}

-- quiet moves, and no refusal by a row of 50 or above
abbrev pub Quietly : World → Model → Result ℕ Refusal → Model → Type 0
Quietly W m a l = Sound W l × Inside (plan_of W) (view m) (view l) × Only Low a

drop_low : (r : Refusal) → is_drop r ≡ true → Low r
drop_low r d = let h : row_of r ≤ 42 = leb-true _ _ (and_parts (leb 30 (row_of r)) (leb (row_of r) 42) d).1 in omega arith

module _ (W : World) (m : Model) (S : Sound W m) (M : Made (plan_of W) (view m)) (z : ℕ) where
  stops : (r : Refusal) (a : Result ℕ Refusal) (l : Model) → Low r → ◌≡◌ {A = Result ℕ Refusal × Model} (Err r, m) (a, l) → Quietly W m a l
  stops r a l low h =
      let e₀ : Err r ≡ a = ap (λ x. x.0) h in
      let e₁ : m ≡ l = ap (λ x. x.1) h in
      (subst (Sound W) e₁ S, unmoved W m l (sym e₁), subst (Only Low) e₀ (only_err Low r low))

  pub inject_tied : (from to : ℕ) (bytes : List ℕ) → AllBelowBase 256 bytes → (a : Result ℕ Refusal) (l : Model) → injects W.admitted W.same z from to bytes m ≡ (a, l)
      → SealsFit l.scheme → Quietly W m a l
  inject_tied from to bytes typed a l e seals = by_route (route W.setup m.core from to) refl (sym (planned W m S m _) ∙ e)
    where
      quiet : (q : ℕ) → Receipt W m q bytes a l → Inside (plan_of W) (view m) (view l) × Only Low a
      quiet q (Came.drops r e₁ d same miss) = (unmoved W m l same, subst (Only Low) (sym e₁) (only_err Low r (drop_low r d)))
      quiet q (Came.takes f n d e₁ K) = (further rest (keeps (suc q) f.item f.value (newest_first f) K) tt, subst (Only Low) (sym e₁) (only_ok Low n))
      quiet q (Came.passes f n d e₁ R) = (further rest (relays (suc q) f.item f.value (newest_first f) R) tt, subst (Only Low) (sym e₁) (only_ok Low n))

      by_route : (o : Result ℕ Refusal) → route W.setup m.core from to ≡ o → after o m (λ q. receives W.admitted W.same W.setup z q bytes m) ≡ (a, l) → Quietly W m a l
      by_route (Err r) eo h = stops r a l (route_low W.setup m.core from to r eo) h
      by_route (Ok q) eo h =
          let at = route_is W.setup m.core from to q eo in
          let R = receive_tied W m S M q (place_fits W m to q at) (place_correct W m to q at) bytes (λ f d. decode_read bytes f typed d) z a l h seals in
          let Q = quiet q R.1 in
          (R.0, Q.0, Q.1)

  pub deliver_tied : (k p : ℕ) (a : Result ℕ Refusal) (l : Model) → delivers W.admitted W.same z k p m ≡ (a, l) → SealsFit l.scheme → Quietly W m a l
  deliver_tied k p a l e seals = by_seat (seat W.setup m.core p) refl (sym (planned W m S m _) ∙ e)
    where
      answer_low : (i q : ℕ) (b : Result ℕ Refusal) → ends_way b ≡ true → Only Low b
      answer_low i q (Ok n) h = only_ok Low n
      answer_low i q (Err r) h = only_err Low r (drop_low r h)

      by_flight : (q : ℕ) → Seated W.setup m.core p q → (o : Result ℕ Refusal) → flight_at m.core k q ≡ o
          → after o m (λ i. arrives W.admitted W.same W.setup z i q m) ≡ (a, l) → Quietly W m a l
      by_flight q H (Err r) eo h = stops r a l (flight_low m.core k q r eo) h
      by_flight q H (Ok i) eo h =
          let x = receives W.admitted W.same W.setup z q (bytes_of (flight_of m.core i)) m in
          let same-scheme : x.1.scheme ≡ l.scheme = ends_scheme (ends_way x.0) i q x ∙ ap (λ y. y.1.scheme) h in
          let C = comes_tied W m S M i q (flight_is m.core k q i eo).1 (place_fits W m p q H) (place_correct W m p q H) z (subst (λ y. SealsFit y) (sym same-scheme) seals) in
          let e₀ : x.0 ≡ a = ap (λ y. y.0) h in
          let e₁ : ended i q x ≡ l = sym (cond-true _ _ _ C.2) ∙ ap (λ y. y.1) h in
          (subst (Sound W) e₁ C.0, subst (λ (y : Model). Inside (plan_of W) (view m) (view y)) e₁ C.1, subst (Only Low) e₀ (answer_low i q x.0 C.2))
        where
          ends_scheme : (b : Bool) (i₁ q₁ : ℕ) (x₁ : Result ℕ Refusal × Model) → x₁.1.scheme ≡ (cond b (ended i₁ q₁ x₁) x₁.1).scheme
          ends_scheme true i₁ q₁ x₁ = refl
          ends_scheme false i₁ q₁ x₁ = refl

      by_seat : (o : Result ℕ Refusal) → seat W.setup m.core p ≡ o
          → after o m (λ q. after (flight_at m.core k q) m (λ i. arrives W.admitted W.same W.setup z i q m)) ≡ (a, l) → Quietly W m a l
      by_seat (Err r) eo h = stops r a l (seat_low W.setup m.core p r eo) h
      by_seat (Ok q) eo h = by_flight q (seat_is W.setup m.core p q eo) (flight_at m.core k q) refl h
