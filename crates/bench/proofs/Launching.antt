-- What is owed is sealed and flies: the broadcast of the protocol.
use Rattle.std.proofs.Common.{◌≡◌, ℕ, zero, suc, ◌+◌, ◌^◌, ◌<◌, ◌≤◌, min, Bool, true, false, cond, ◌||◌, eqb, ltb, leb, ◌⊎◌, List, [], ◌∷◌, ◌++◌, reverse, length, get_or, take, drop, replicate, Ok, sym, refl, ap, ◌∙◌, subst, inl, inr, arith}
use mathlib.Core.List.{reverse-cons}
use native.Mathlib.Decide.{ℕ_discrete}
use Rattle.std.specs.List.{flat_map}
use Rattle.std.proofs.lemmas.List.{reverse-reverse, map_push, length_push, length-append, take_at, get_or_append_left, get_or_push, reverse-append}
use Rattle.std.proofs.ByRecursion.{All-push}
use Rattle.std.proofs.lemmas.Bool.{eq-eqb, and_parts, and_from, leb-true, le-leb, lt-ltb, cond-true, or_parts, or_from, not_from_false, not-true, cases_lt, eqb-false, ne_eqb, both_ways, ltb-true}
use Rattle.seals.specs.Meanings.{Triple, Meaning, holds, answered, signed, left_of}
use Rattle.frames.specs.declared.link.Link.{Link}
use Rattle.frames.specs.Bytes.{Fields, fields, Small, link_bytes, header, encode, decode, size_of, placed}
use Rattle.frames.specs.Texts.{numbers_of, text_for}
use Rattle.frames.proofs.Trips.{read_written}
use Rattle.frames.proofs.Linking.{length_links}
use Rattle.plans.specs.Setups.{Setup}
use Rattle.processor.specs.declared.owed.Owed.{Owed}
use Rattle.processor.specs.declared.part.Part.{Part}
use Rattle.processor.specs.Broadcasts.{owed_for}
use Rattle.processor.specs.Naming.{is_in, is_named}
use Rattle.processor.specs.Chains.{sealed}
use Rattle.processor.specs.Relaying.{own_text, frame_of, or_owed, sealed as sealing}
use Rattle.bench.specs.declared.flight.Flight as Sent
use Rattle.bench.specs.Model.{Core, Model}
use Rattle.bench.specs.Calls.{no_flight}
use Rattle.bench.specs.Flights.{with_part, on_core, goes_to, goals_for, flight_for, flies, becomes, launches, keeps, bytes_of}
use Rattle.protocol.specs.Model.{fly, author_of, Seat, NotIn}
use Rattle.protocol.specs.Moves.{Broadcasts, OldWays}
use Rattle.protocol.specs.Agreement.{tally, flights_of}
use Rattle.protocol.proofs.Counts.{tally_same}
use Rattle.bench.proofs.Worlds.{World, plan_of, entry_of, has_sealed, newest_first}
use Rattle.bench.proofs.View.{older, fields_in, flight_shown, flight_of, view, Flying, Sound, flying_more, SealsFit}
use Rattle.frames.proofs.Fitting.{Read, decode_is}
use Rattle.seals.proofs.Signing.{has, has_more, holds_has, holds_small, signed_grows, signed_holds, signed_only, signed_left, signed_room}
use Rattle.frames.proofs.Texting.{text_same}
use Rattle.processor.proofs.Sealing.{link_by, sealed_more, sealed_push}
use Rattle.bench.proofs.Naming.{not_in_newest, newest_not_in, links_owed}

-- the frame that goes out after some links
abbrev pub longer : ℕ → ℕ → ℕ → List Link → ℕ → Fields
longer i v own ls seal = fields i v (ls ++ link_by own seal ∷ [])

length_encode : (f : Fields) → length (encode f) ≡ size_of (length f.links)
unfolding encode
length_encode f = let e = length-append (header f.item f.value (length f.links)) (flat_map link_bytes f.links) in let k = length_links f.links in omega arith

-- a frame that was written to the front of 45 bytes
frame_bytes : (f : Fields) (n : ℕ) → n ≡ size_of (length f.links) → n ≤ 45 → take (min n 45) (placed (encode f) (replicate 45 0)) ≡ encode f
frame_bytes f n e h = let k = length_encode f in take_at (encode f) (drop (length (encode f)) (replicate 45 0)) (min n 45) (omega arith)

-- the flight of what own owes at time t, once it is sealed
abbrev pub flight_sent : Setup → ℕ → ℕ → ℕ → ℕ → List Link → ℕ → Sent.Flight
flight_sent s t i v own ls seal = let o = owed_for i v own ls in flight_for s t o (size_of (o.count + 1)) (placed (encode (frame_of o seal)) (replicate 45 0))

-- the model once it flies, with z for the number of a new seal
abbrev pub flown : World → Model → ℕ → ℕ → ℕ → List Link → ℕ → ℕ → Model
flown W m q i v ls z seal = record {
  core = flies m.core (flight_sent W.setup m.core.time i v (suc q) ls seal);
  scheme = signed m.scheme (suc q) (own_text (owed_for i v (suc q) ls)) z;
}

-- and once the part of the processor at place q has changed too
abbrev pub launched : World → Model → ℕ → ℕ → ℕ → List Link → ℕ → ℕ → Part → Model
launched W m q i v ls z seal part = let k = flown W m q i v ls z seal in on_core k (with_part k.core q part)

-- with a place for the flight and a seal given, that is what comes of it
pub launch_is : (W : World) (m : Model) (q i v : ℕ) (ls : List Link) (z seal : ℕ) (part : Part) → length ls ≤ 6 → length m.core.flights < 120
    → answered m.scheme (suc q) (own_text (owed_for i v (suc q) ls)) z ≡ Ok seal
    → keeps q part (launches W.setup z (owed_for i v (suc q) ls) m) ≡ (Ok (length m.core.flights + 1), launched W m q i v ls z seal part)
launch_is W m q i v ls z seal part few room given =
    ap (keeps q part) (cond-true _ _ _ (lt-ltb (length m.core.flights) 120 room))
    ∙ ap (λ x. keeps q part (becomes W.setup o m (or_owed o x))) (cond-true _ _ _ (le-leb (length ls) 6 few) ∙ ap (sealing o z m.scheme (replicate 45 0)) given)
  where
    o : Owed
    o = owed_for i v (suc q) ls

module _ (i v own : ℕ) (ls : List Link) (few : length ls ≤ 6) where
  numbers_longer : (s : ℕ) → newest_first (longer i v own ls s) ≡ own ∷ reverse (numbers_of ls)
  numbers_longer s = ap reverse (map_push (λ (l : Link). l.processor) ls (link_by own s)) ∙ reverse-append (numbers_of ls) (own ∷ [])

  pub own_text_is : own_text (owed_for i v own ls) ≡ text_for i v (reverse (own ∷ reverse (numbers_of ls)))
  own_text_is =
      ap (λ (l : List Link). text_for i v (numbers_of l ++ own ∷ [])) (links_owed i v own ls few)
      ∙ ap (λ (l : List ℕ). text_for i v (l ++ own ∷ [])) (sym (reverse-reverse (numbers_of ls)))
      ∙ ap (text_for i v) (sym (reverse-cons own (reverse (numbers_of ls))))

  frame_longer : (s : ℕ) → frame_of (owed_for i v own ls) s ≡ longer i v own ls s
  frame_longer s = ap (λ (l : List Link). fields i v (l ++ link_by own s ∷ [])) (links_owed i v own ls few)

  length_longer : (s : ℕ) → length (longer i v own ls s).links ≡ length ls + 1
  length_longer s = length_push ls (link_by own s)

  sent_bytes : (su : Setup) (t s : ℕ) → bytes_of (flight_sent su t i v own ls s) ≡ encode (longer i v own ls s)
  sent_bytes su t s =
      let n = size_of (length ls + 1) in
      let e = length_longer s in
      ap (λ (f : Fields). take (min n 45) (placed (encode f) (replicate 45 0))) (frame_longer s) ∙ frame_bytes (longer i v own ls s) n (omega arith) (omega arith)

  -- what was sent reads back
  module _ (su : Setup) (t s : ℕ) (value : v < 2 ^ 64) (byte : own < 256) (seal : s < 2 ^ 32) (small : Small ls) where
    longer_small : Small (longer i v own ls s).links
    longer_small = All-push (λ (l : Link). (l.processor < 256) × (l.seal < 2 ^ 32)) ls (link_by own s) small (byte, seal)

    sent_reads : decode (bytes_of (flight_sent su t i v own ls s)) ≡ Ok (longer i v own ls s)
    sent_reads =
        let e = length_longer s in
        ap decode (sent_bytes su t s) ∙ read_written (longer i v own ls s) value (omega arith) (omega arith) longer_small

    sent_fields : fields_in (flight_sent su t i v own ls s) ≡ longer i v own ls s
    sent_fields = decode_is _ _ sent_reads

    sent_shown : flight_shown (flight_sent su t i v own ls s) ≡ fly i v (reverse (numbers_of ls)) own t
    sent_shown =
        ap (λ (f : Fields). fly i f.value (older (newest_first f)) own t) sent_fields
        ∙ ap (λ (l : List ℕ). fly i v (older l) own t) (numbers_longer s)

-- the goals of a broadcast are the processors that it does not name

abbrev GoalCases : Setup → Owed → ℕ → Type 0
GoalCases su o p = ((1 ≤ p) × (p ≤ 8) × (entry_of false (goals_for su o) p ≡ goes_to su o p)) ⊎ ((entry_of false (goals_for su o) p ≡ false) × ((p < 1) ⊎ (8 < p)))

goal_cases : (su : Setup) (o : Owed) (p : ℕ) → GoalCases su o p
goal_cases su o zero = inr (refl, inl (omega arith))
goal_cases su o (suc zero) = inl (omega arith, omega arith, refl)
goal_cases su o (suc (suc zero)) = inl (omega arith, omega arith, refl)
goal_cases su o (suc (suc (suc zero))) = inl (omega arith, omega arith, refl)
goal_cases su o (suc (suc (suc (suc zero)))) = inl (omega arith, omega arith, refl)
goal_cases su o (suc (suc (suc (suc (suc zero))))) = inl (omega arith, omega arith, refl)
goal_cases su o (suc (suc (suc (suc (suc (suc zero)))))) = inl (omega arith, omega arith, refl)
goal_cases su o (suc (suc (suc (suc (suc (suc (suc zero))))))) = inl (omega arith, omega arith, refl)
goal_cases su o (suc (suc (suc (suc (suc (suc (suc (suc zero)))))))) = inl (omega arith, omega arith, refl)
goal_cases su o (suc (suc (suc (suc (suc (suc (suc (suc (suc p))))))))) = inr (refl, inr (omega arith))

module _ (W : World) (i v own : ℕ) (ls : List Link) (few : length ls ≤ 6) where
  named : (p : ℕ) → is_named (owed_for i v own ls) p ≡ (eqb own p || is_in (numbers_of ls) p)
  named p = ap (λ (l : List Link). eqb own p || is_in (numbers_of l) p) (links_owed i v own ls few)

  goes : (p : ℕ) → Seat (plan_of W) p → NotIn p (own ∷ reverse (numbers_of ls)) → entry_of false (goals_for W.setup (owed_for i v own ls)) p ≡ true
  goes p s n = go (goal_cases W.setup (owed_for i v own ls) p)
    where
      go : GoalCases W.setup (owed_for i v own ls) p → entry_of false (goals_for W.setup (owed_for i v own ls)) p ≡ true
      go (inl h) = h.2 ∙ and_from _ _ (le-leb p W.setup.n s.1) (not_from_false _ (named p ∙ or_from _ _ (ne_eqb own p (λ e. n.0 (sym e))) (newest_not_in p (numbers_of ls) n.1)))
      go (inr h) = let a = s.0 in let b = s.1 in let c = W.n_high in let d = h.1 in absurd (omega arith)

  goes_only : (p : ℕ) → entry_of false (goals_for W.setup (owed_for i v own ls)) p ≡ true → Seat (plan_of W) p × NotIn p (own ∷ reverse (numbers_of ls))
  goes_only p e = go (goal_cases W.setup (owed_for i v own ls) p)
    where
      go : GoalCases W.setup (owed_for i v own ls) p → Seat (plan_of W) p × NotIn p (own ∷ reverse (numbers_of ls))
      go (inl h) =
          let k = and_parts (leb p W.setup.n) _ (sym h.2 ∙ e) in
          let n = or_parts _ _ (sym (named p) ∙ not-true _ k.1) in
          ((h.0, leb-true _ _ k.0), ((λ q. eqb-false own p n.0 (sym q)), not_in_newest p (numbers_of ls) n.1))
      go (inr h) = absurd (both_ways _ h.0 e)

-- what holds once the broadcast flies
module _ (W : World) (m : Model) (S : Sound W m) (q i v : ℕ) (ls : List Link) (z seal : ℕ) (few : length ls ≤ 6) (value : v < 2 ^ 64) (seat : q < 8) (small : Small ls)
    (given : answered m.scheme (suc q) (own_text (owed_for i v (suc q) ls)) z ≡ Ok seal) (seals : SealsFit (signed m.scheme (suc q) (own_text (owed_for i v (suc q) ls)) z)) where
  abbrev ns : List ℕ
  ns = reverse (numbers_of ls)

  abbrev scheme' : Meaning
  scheme' = signed m.scheme (suc q) (own_text (owed_for i v (suc q) ls)) z

  abbrev aloft : Model
  aloft = flown W m q i v ls z seal

  abbrev fl : Sent.Flight
  fl = flight_sent W.setup m.core.time i v (suc q) ls seal

  text : own_text (owed_for i v (suc q) ls) ≡ text_for i v (reverse (suc q ∷ ns))
  text = own_text_is i v (suc q) ls few

  own_holds : holds scheme'.triples (suc q) (text_for i v (reverse (suc q ∷ ns))) seal ≡ true
  own_holds = ap (λ (t : List ℕ). holds scheme'.triples (suc q) t seal) (sym text) ∙ signed_holds m.scheme (suc q) (own_text (owed_for i v (suc q) ls)) z seal given

  seal_small : seal < 2 ^ 32
  seal_small = holds_small scheme'.triples (suc q) _ seal seals own_holds

  shown : flight_shown fl ≡ fly i v ns (suc q) m.core.time
  shown = sent_shown i v (suc q) ls few W.setup m.core.time seal value (omega arith) seal_small small

  sealed_of : (a k w : ℕ) (h : List ℕ) → w < 2 ^ 64 → has scheme'.triples a (text_for k w (reverse (a ∷ h))) ≡ true → has_sealed scheme'.triples a k w h ≡ true
  sealed_of a k w h b e = and_from _ _ (lt-ltb w (2 ^ 64) b) e

  pub sends : Broadcasts (plan_of W) (suc q) i v ns (view m) (view aloft)
  sends = record {
    seal = sealed_of (suc q) i v ns value (holds_has scheme'.triples (suc q) _ seal own_holds);
    grows = λ a k w h e. grow a k w h e;
    only = λ a k w h e. from a k w h (and_parts _ _ e);
    number = let n = length_push m.core.flights fl in omega arith;
    new = ap flight_shown (get_or_push m.core.flights fl no_flight (length m.core.flights) refl) ∙ shown;
    flights = λ k h. ap flight_shown (get_or_append_left m.core.flights (fl ∷ []) no_flight k h);
    goals = λ p s n. ap (λ (x : Sent.Flight). entry_of false x.goals p) (get_or_push m.core.flights fl no_flight (length m.core.flights) refl) ∙ goes W i v (suc q) ls few p s n;
    no_more = λ p e. goes_only W i v (suc q) ls few p (sym (ap (λ (x : Sent.Flight). entry_of false x.goals p) (get_or_push m.core.flights fl no_flight (length m.core.flights) refl)) ∙ e);
  }
    where
      grow : (a k w : ℕ) (h : List ℕ) → has_sealed m.scheme.triples a k w h ≡ true → has_sealed scheme'.triples a k w h ≡ true
      grow a k w h e =
          let b = and_parts (ltb w (2 ^ 64)) (has m.scheme.triples a (text_for k w (reverse (a ∷ h)))) e in
          let g = signed_grows m.scheme (suc q) (own_text (owed_for i v (suc q) ls)) z in
          and_from _ _ b.0 (ap (λ (ts : List Triple). has ts a (text_for k w (reverse (a ∷ h)))) g.1 ∙ has_more m.scheme.triples g.0 a _ b.1)

      from : (a k w : ℕ) (h : List ℕ) → (ltb w (2 ^ 64) ≡ true) × (has scheme'.triples a (text_for k w (reverse (a ∷ h))) ≡ true)
          → (has_sealed m.scheme.triples a k w h ≡ true) ⊎ ((a ≡ suc q) × (k ≡ i) × (w ≡ v) × (h ≡ ns))
      from a k w h e = by (signed_only m.scheme (suc q) (own_text (owed_for i v (suc q) ls)) z a (text_for k w (reverse (a ∷ h))) e.1)
        where
          by : (has m.scheme.triples a (text_for k w (reverse (a ∷ h))) ≡ true) ⊎ ((suc q ≡ a) × (own_text (owed_for i v (suc q) ls) ≡ text_for k w (reverse (a ∷ h))))
              → (has_sealed m.scheme.triples a k w h ≡ true) ⊎ ((a ≡ suc q) × (k ≡ i) × (w ≡ v) × (h ≡ ns))
          by (inl g) = inl (and_from _ _ e.0 g)
          by (inr g) =
              let r = text_same i v (reverse (suc q ∷ ns)) k w (reverse (a ∷ h)) value (ltb-true _ _ e.0) (sym text ∙ g.1) in
              let l : suc q ∷ ns ≡ a ∷ h = sym (reverse-reverse (suc q ∷ ns)) ∙ ap reverse r.2 ∙ reverse-reverse (a ∷ h) in
              let l₁ : h ≡ ns = cc in
              inr (sym g.0, sym r.0, sym r.1, l₁)

  pub sends_ways : OldWays (view m) (view aloft)
  sends_ways k p h = ap (λ (x : Sent.Flight). entry_of false x.goals p) (get_or_append_left m.core.flights (fl ∷ []) no_flight k h)

  -- the new flight is as every flight
  new_flying : sealed m.scheme.triples (fields i v ls) ≡ Ok tt → Flying scheme'.triples fl
  new_flying chain =
      let is = sent_fields i v (suc q) ls few W.setup m.core.time seal value (omega arith) seal_small small in
      let numbers = numbers_longer i v (suc q) ls few seal in
      let g = signed_grows m.scheme (suc q) (own_text (owed_for i v (suc q) ls)) z in
      let old = ap (λ (ts : List Triple). sealed ts (fields i v ls)) g.1 ∙ sealed_more m.scheme.triples g.0 i v ls chain in
      record {
        goals = refl;
        whole = sent_reads i v (suc q) ls few W.setup m.core.time seal value (omega arith) seal_small small ∙ ap Ok (sym is);
        item = ap (λ (f : Fields). f.item) is;
        read = subst Read (sym is) (record { value = value; small = longer_small i v (suc q) ls few W.setup m.core.time seal value (omega arith) seal_small small });
        author = ap newest_first is ∙ numbers ∙ ap (λ (l : List ℕ). suc q ∷ older l) (sym (ap newest_first is ∙ numbers));
        genuine = ap (sealed scheme'.triples) is ∙ sealed_push scheme'.triples i v ls (suc q) seal old own_holds;
      }

  flying_flown : sealed m.scheme.triples (fields i v ls) ≡ Ok tt → (k : ℕ) → k < length (m.core.flights ++ fl ∷ []) → Flying scheme'.triples (get_or (m.core.flights ++ fl ∷ []) k no_flight)
  flying_flown chain k h = go (cases_lt k (length m.core.flights))
    where
      go : (k < length m.core.flights) ⊎ (length m.core.flights ≤ k) → Flying scheme'.triples (get_or (m.core.flights ++ fl ∷ []) k no_flight)
      go (inl l) =
          let g = signed_grows m.scheme (suc q) (own_text (owed_for i v (suc q) ls)) z in
          let old = flying_more m.scheme.triples g.0 (flight_of m.core k) (S.flying k l) in
          subst (Flying scheme'.triples) (sym (get_or_append_left m.core.flights (fl ∷ []) no_flight k l)) (rw g.1 old)
      go (inr l) =
          let n = length_push m.core.flights fl in
          let at : length m.core.flights ≡ k = omega arith in
          subst (Flying scheme'.triples) (sym (get_or_push m.core.flights fl no_flight k at)) (new_flying chain)

  flights_flown : (a : ℕ) → flights_of (view aloft) a ≡ cond (eqb (suc q) a) 1 0 + flights_of (view m) a
  flights_flown a =
      let by : Core → ℕ → Bool = λ d k. eqb (author_of (flight_shown (flight_of d k))) a in
      let n : length (m.core.flights ++ fl ∷ []) ≡ suc (length m.core.flights) = (let e = length_push m.core.flights fl in omega arith) in
      let here = ap (λ (x : Sent.Flight). eqb x.author a) (get_or_push m.core.flights fl no_flight (length m.core.flights) refl) in
      let same : (k : ℕ) → k < length m.core.flights → by aloft.core k ≡ by m.core k =
      λ k h. ap (λ (x : Sent.Flight). eqb x.author a) (get_or_append_left m.core.flights (fl ∷ []) no_flight k h) in
      let old = tally_same (by aloft.core) (by m.core) (length m.core.flights) same in
      ap (tally (by aloft.core)) n ∙ (λ i₁. cond (here i₁) 1 0 + old i₁)

  pub flown_sound : sealed m.scheme.triples (fields i v ls) ≡ Ok tt → Sound W aloft
  flown_sound chain =
      let room = signed_room m.scheme (suc q) (own_text (owed_for i v (suc q) ls)) z in
      record {
        plan = S.plan;
        offsets = S.offsets;
        turned = S.turned;
        parts = S.parts;
        own = S.own;
        bags = S.bags;
        flying = flying_flown chain;
        left = λ p low high correct. left p low high correct (ℕ_discrete p (suc q));
        longest = let a = room.1 in let b = S.longest in omega arith;
        room = room.0 ∙ S.room;
        seals = seals;
      }
    where
      left : (p : ℕ) → 1 ≤ p → p ≤ W.setup.n → (view m).turned p ≡ false → Dec (p ≡ suc q) → 16 ≤ left_of scheme' p + flights_of (view aloft) p
      left p low high correct (yes e) =
          let was = S.left p low high correct in
          let less = (signed_left m.scheme (suc q) (own_text (owed_for i v (suc q) ls)) z (suc q) S.room).1 in
          let less' : left_of m.scheme p ≤ left_of scheme' p + 1 = subst (λ (x : ℕ). left_of m.scheme x ≤ left_of scheme' x + 1) (sym e) less in
          let more = flights_flown p ∙ ap (λ (t : Bool). cond t 1 0 + flights_of (view m) p) (eq-eqb (suc q) p (sym e)) in
          omega (arith, was, less', more)
      left p low high correct (no e) =
          let was = S.left p low high correct in
          let same = (signed_left m.scheme (suc q) (own_text (owed_for i v (suc q) ls)) z p S.room).0 e in
          let more = flights_flown p ∙ ap (λ (t : Bool). cond t 1 0 + flights_of (view m) p) (ne_eqb (suc q) p (λ f. e (sym f))) in
          omega (arith, was, same, more)
