-- A frame that comes to a correct processor: dropped, kept, or kept and relayed.
use Rattle.std.proofs.Common.{◌≡◌, ℕ, suc, ◌+◌, ◌*◌, ◌^◌, ◌<◌, ◌≤◌, true, false, leb, ◌⊎◌, List, ◌∷◌, reverse, length, Some, None, Ok, Err, Option, Result, sym, refl, ap, ◌∙◌, subst, inl, inr, mul-le-mul_right, arith}
use Rattle.std.proofs.lemmas.List.{length-reverse, length-map}
use Rattle.std.proofs.lemmas.Bool.{cases_Bool, cond-true, cond-false, and_from, le-leb, leb-true, leb-false}
use Rattle.refusals.specs.Rows.{is_drop}
use Rattle.refusals.specs.declared.refusal.Refusal.{Refusal}
use Rattle.seals.specs.Meanings.{answered}
use Rattle.frames.specs.declared.link.Link.{Link}
use Rattle.frames.specs.Bytes.{Fields, fields, Small, decode}
use Rattle.frames.specs.Texts.{numbers_of}
use Rattle.processor.specs.declared.owed.Owed.{Owed}
use Rattle.processor.specs.declared.part.Bag as Kept
use Rattle.processor.specs.declared.part.Part.{Part}
use Rattle.processor.specs.Broadcasts.{owed_for}
use Rattle.processor.specs.Bags.{with_bag}
use Rattle.processor.specs.Chains.{sealed}
use Rattle.processor.specs.Receiving.{arrived, received}
use Rattle.processor.specs.Relaying.{own_text}
use Rattle.processor.specs.Steps.{after_on}
use Rattle.bench.specs.Model.{Model}
use Rattle.bench.specs.Flights.{part_at, reading_at, with_part, on_core, launches, keeps, accepts, receives}
use Rattle.protocol.specs.Model.{put, Acceptable}
use Rattle.protocol.specs.Moves.{OldWays, Takes, Broadcasts, Relays, Keeps}
use Rattle.protocol.specs.Agreement.{Made, Room}
use Rattle.protocol.proofs.Called.{spacious}
use Rattle.bench.proofs.Worlds.{World, plan_of, bag_shown, newest_first}
use Rattle.bench.proofs.View.{view, Sound, SealsFit}
use Rattle.seals.proofs.Signing.{signed_granted}
use Rattle.frames.proofs.Texting.{length_text}
use Rattle.bench.proofs.Accepting.{Accepted, accepted, dropped, joined_put}
use Rattle.processor.proofs.Dropping.{received_drops}
use Rattle.frames.proofs.Fitting.{Read}
use Rattle.processor.proofs.Outcomes.{after_on_ok}
use Rattle.bench.proofs.Rebagging.{bag_at_bag_of, rebagged, bag_sound, bag_here, bag_others}
use Rattle.bench.proofs.Launching.{flown, launched, launch_is, own_text_is, sends, sends_ways, flown_sound}

-- what a broadcast leaves, once the bag of the processor at place q has taken the value
pub record Sends (W : World) (m : Model) (q i v : ℕ) (ls : List Link) (l : Model) : Type 0 where
  pub sound : Sound W l
  pub takes : Takes (suc q) i v (view m) (view l)
  pub sends : Broadcasts (plan_of W) (suc q) i v (reverse (numbers_of ls)) (view m) (view l)
  pub ways : OldWays (view m) (view l)

-- there is room for what the processor at place q owes after the links ls
module _ (W : World) (m : Model) (S : Sound W m) (q i v : ℕ) (ls : List Link) (few : length ls ≤ 6) (seat : q < W.setup.n) (correct : (view m).turned (suc q) ≡ false)
    (R : Room (plan_of W) (view m) (suc q)) (z : ℕ) where
  abbrev owed : Owed
  owed = owed_for i v (suc q) ls

  has_place : length m.core.flights < 120
  has_place =
      let n : 2 * W.setup.n ≤ 16 = (let h = W.n_high in omega arith) in
      let k = mul-le-mul_right (length W.setup.agenda) n in
      let f = W.few in
      let r = R.0 in
      omega (arith, k, f, r)

  pub has_seal : (s : ℕ) × (answered m.scheme (suc q) (own_text owed) z ≡ Ok s)
  has_seal =
      let h = W.n_high in
      let k = and_from _ _ (le-leb 1 (suc q) (omega arith)) (le-leb (suc q) 8 (omega arith)) in
      let t = ap length (own_text_is i v (suc q) ls few) ∙ length_text i v (reverse (suc q ∷ reverse (numbers_of ls))) in
      let a = length-reverse (suc q ∷ reverse (numbers_of ls)) in
      let b = length-reverse (numbers_of ls) in
      let c = length-map ls (λ (l : Link). l.processor) in
      let g = S.longest in
      let w = S.left (suc q) (omega arith) (omega arith) correct in
      let r = R.1 in
      let f = W.few in
      signed_granted m.scheme (suc q) (own_text owed) z k (omega (arith, t, a, b, c, g)) (omega (arith, w, r, f))

  -- it flies, and the bag of the item becomes b
  module _ (b : Kept.Bag) where
    abbrev pub sent : Model
    sent = launched W m q i v ls z has_seal.0 (with_bag (part_at m.core q) i b)

    pub sent_is : keeps q (with_bag (part_at m.core q) i b) (launches W.setup z owed m) ≡ (Ok (length m.core.flights + 1), sent)
    sent_is = launch_is W m q i v ls z has_seal.0 (with_bag (part_at m.core q) i b) few has_place has_seal.1

    pub sent_tied : v < 2 ^ 64 → Small ls → 1 ≤ i → i ≤ 8 → bag_shown b ≡ put ((view m).bag (suc q) i) v → sealed m.scheme.triples (fields i v ls) ≡ Ok tt
        → SealsFit sent.scheme → Sends W m q i v ls sent
    sent_tied value small low high taken chain seals =
        let q_small : q < 8 = (let h = W.n_high in omega arith) in
        let l = flown W m q i v ls z has_seal.0 in
        let L = flown_sound W m S q i v ls z has_seal.0 few value q_small small has_seal.1 seals chain in
        let B = sends W m S q i v ls z has_seal.0 few value q_small small has_seal.1 seals in
        record {
          sound = bag_sound W l L q q_small i b low high;
          takes = record { here = bag_here W l L q q_small i b low high ∙ taken; other = bag_others W l L q q_small i b low high };
          sends = record { seal = B.seal; grows = B.grows; only = B.only; number = B.number; new = B.new; flights = B.flights; goals = B.goals; no_more = B.no_more };
          ways = sends_ways W m S q i v ls z has_seal.0 few value q_small small has_seal.1 seals;
        }

-- what came of a frame
pub data Receipt (W : World) (m : Model) (q : ℕ) (bytes : List ℕ) (a : Result ℕ Refusal) (l : Model) : Type 0 where
  drops : (r : Refusal) → a ≡ Err r → is_drop r ≡ true → l ≡ m
      → ((f : Fields) → decode bytes ≡ Ok f → sealed m.scheme.triples f ≡ Ok tt → ¬ Acceptable (plan_of W) (view m) (suc q) f.item f.value (newest_first f)) → Receipt W m q bytes a l
  takes : (f : Fields) (n : ℕ) → decode bytes ≡ Ok f → a ≡ Ok n → Keeps (plan_of W) (suc q) f.item f.value (newest_first f) (view m) (view l) → Receipt W m q bytes a l
  passes : (f : Fields) (n : ℕ) → decode bytes ≡ Ok f → a ≡ Ok n → Relays (plan_of W) (suc q) f.item f.value (newest_first f) (view m) (view l) → Receipt W m q bytes a l

module _ (W : World) (m : Model) (S : Sound W m) (M : Made (plan_of W) (view m)) (q : ℕ) (seat : q < W.setup.n) (correct : (view m).turned (suc q) ≡ false)
    (bytes : List ℕ) (typed : (f : Fields) → decode bytes ≡ Ok f → Read f) (z : ℕ) where
  abbrev part : Part
  part = part_at m.core q

  q_small : q < 8
  q_small = let h = W.n_high in omega arith

  abbrev came : Result (Option Owed) Refusal × Part
  came = received W.admitted W.same W.setup m.scheme.triples (reading_at m.core q) bytes part

  -- the frame is not accepted
  missed : (r : Refusal) (part' : Part) → came ≡ (Err r, part') → (f : Fields) → decode bytes ≡ Ok f → sealed m.scheme.triples f ≡ Ok tt
      → ¬ Acceptable (plan_of W) (view m) (suc q) f.item f.value (newest_first f)
  missed r part' e f d s =
      let arrive : Fields → Result (Option Owed) Refusal × Part = λ g. arrived W.admitted W.same W.setup m.scheme.triples (reading_at m.core q) g part in
      let k : arrive f ≡ (Err r, part') = sym (ap (λ (x : Result Fields Refusal). after_on part x arrive) d) ∙ e in
      dropped W (view m) m.scheme.triples (suc q) (reading_at m.core q) part (S.own q q_small) refl (λ i. refl) (λ a i v l. refl) f s r part' k

  -- the frame is accepted
  module _ (f : Fields) (d : decode bytes ≡ Ok f) (o : Option Owed) (part' : Part) (A : Accepted W (view m) m.scheme.triples (suc q) part f o part') where
    read : Read f
    read = typed f d

    many : length (newest_first f) ≡ length f.links
    many = length-reverse (numbers_of f.links) ∙ length-map f.links (λ (l : Link). l.processor)

    item_low : 1 ≤ f.item
    item_low = A.acceptable.listed.0

    item_high : f.item ≤ 8
    item_high = let a = A.acceptable.listed.1 in let b = W.few in omega arith

    taken : bag_shown A.bag ≡ put ((view m).bag (suc q) f.item) f.value
    taken = joined_put W.same _ f.value A.bag A.joins ∙ ap (λ (x : Kept.Bag). put (bag_shown x) f.value) (sym (bag_at_bag_of part f.item item_low))

    -- with f + 1 links it is only kept
    keeping : W.setup.f < length f.links
        → Sound W (rebagged m q f.item A.bag) × Keeps (plan_of W) (suc q) f.item f.value (newest_first f) (view m) (view (rebagged m q f.item A.bag))
    keeping long = (
      bag_sound W m S q q_small f.item A.bag item_low item_high,
      record {
        seat = (omega arith, seat);
        correct = correct;
        passes = A.acceptable;
        full = let a = A.acceptable.short in omega (arith, many);
        takes = record { here = bag_here W m S q q_small f.item A.bag item_low item_high ∙ taken; other = bag_others W m S q q_small f.item A.bag item_low item_high };
        calm = record { clock = refl; offsets = λ p. refl; turns = λ p. refl; faults = refl };
        seals = λ a i v l. refl;
        number = refl;
        flights = λ k h. refl;
        ways = λ k p h. refl;
      },
    )

    -- with at most f links it is relayed too
    module _ (short : length f.links ≤ W.setup.f) where
      few : length f.links ≤ 6
      few = let a = W.spare in let b = W.n_high in omega arith

      room : Room (plan_of W) (view m) (suc q)
      room = spacious.relays (plan_of W) (view m) M (suc q) f.item f.value (newest_first f) (omega arith, seat) correct A.acceptable (omega (arith, many))

      abbrev relayed : Model
      relayed = sent W m S q f.item f.value f.links few seat correct room z A.bag

      relayed_is : keeps q part' (launches W.setup z (owed_for f.item f.value (suc q) f.links) m) ≡ (Ok (length m.core.flights + 1), relayed)
      relayed_is =
          ap (λ (x : Part). keeps q x (launches W.setup z (owed_for f.item f.value (suc q) f.links) m)) A.left
          ∙ sent_is W m S q f.item f.value f.links few seat correct room z A.bag

      relaying : SealsFit relayed.scheme → Sound W relayed × Relays (plan_of W) (suc q) f.item f.value (newest_first f) (view m) (view relayed)
      relaying seals =
          let s = sent_tied W m S q f.item f.value f.links few seat correct room z A.bag read.value read.small item_low item_high taken A.genuine seals in (
            s.sound,
            record {
              seat = (omega arith, seat);
              correct = correct;
              passes = A.acceptable;
              few = omega (arith, many);
              takes = s.takes;
              sends = s.sends;
              ways = s.ways;
              calm = record { clock = refl; offsets = λ p. refl; turns = λ p. refl; faults = refl };
            },
          )

  -- whatever came, it was a drop, a keeping or a relay
  pub receive_tied : (a : Result ℕ Refusal) (l : Model) → receives W.admitted W.same W.setup z q bytes m ≡ (a, l) → SealsFit l.scheme → Sound W l × Receipt W m q bytes a l
  unfolding receives
  receive_tied a l e seals = go came.0 came.1 refl e
    where
      at : (b : Result ℕ Refusal) (k : Model) → ◌≡◌ {A = Result ℕ Refusal × Model} (b, k) (a, l) → (b ≡ a) × (k ≡ l)
      at b k h = (ap (λ x. x.0) h, ap (λ x. x.1) h)

      dropping : (r : Refusal) (part' : Part) → came ≡ (Err r, part') → ◌≡◌ {A = Result ℕ Refusal × Model} (Err r, m) (a, l) → Sound W l × Receipt W m q bytes a l
      dropping r part' c h =
          let p = at (Err r) m h in
          let is-drop = received_drops W.admitted W.same W.setup m.scheme.triples (reading_at m.core q) bytes part r (ap (λ x. x.0) c) in
          (subst (Sound W) p.1 S, drops r (sym p.0) is-drop (sym p.1) (missed r part' c))

      accepting : (f : Fields) → decode bytes ≡ Ok f → (o : Option Owed) (part' : Part) (A : Accepted W (view m) m.scheme.triples (suc q) part f o part')
          → accepts W.setup z q m (Ok o, part') ≡ (a, l) → Sound W l × Receipt W m q bytes a l
      accepting f d o part' A h = by (cases_Bool (leb (length f.links) W.setup.f))
        where
          by : (leb (length f.links) W.setup.f ≡ true) ⊎ (leb (length f.links) W.setup.f ≡ false) → Sound W l × Receipt W m q bytes a l
          by (inl short) =
              let is : o ≡ Some (owed_for f.item f.value (suc q) f.links) = A.owed ∙ cond-true _ _ _ short in
              let s = leb-true _ _ short in
              let h' = sym (ap (λ (x : Option Owed). accepts W.setup z q m (Ok x, part')) is ∙ relayed_is f d o part' A s) ∙ h in
              let p = at _ _ h' in
              let r = relaying f d o part' A s (subst (λ (x : Model). SealsFit x.scheme) (sym p.1) seals) in
              let relay = subst (λ (x : Model). Relays (plan_of W) (suc q) f.item f.value (newest_first f) (view m) (view x)) p.1 r.1 in
              (subst (Sound W) p.1 r.0, passes f (length m.core.flights + 1) d (sym p.0) relay)
          by (inr long) =
              let is : o ≡ None = A.owed ∙ cond-false _ _ _ long in
              let kept : accepts W.setup z q m (Ok None, part') ≡ (Ok 0, rebagged m q f.item A.bag) = ap (λ (x : Part). (Ok 0, on_core m (with_part m.core q x))) A.left in
              let h' = sym (ap (λ (x : Option Owed). accepts W.setup z q m (Ok x, part')) is ∙ kept) ∙ h in
              let p = at _ _ h' in
              let r = keeping f d o part' A (leb-false _ _ long) in
              let keep = subst (λ (x : Model). Keeps (plan_of W) (suc q) f.item f.value (newest_first f) (view m) (view x)) p.1 r.1 in
              (subst (Sound W) p.1 r.0, takes f 0 d (sym p.0) keep)

      go : (b : Result (Option Owed) Refusal) (part' : Part) → came ≡ (b, part') → accepts W.setup z q m (b, part') ≡ (a, l) → Sound W l × Receipt W m q bytes a l
      go (Err r) part' c h = dropping r part' c h
      go (Ok o) part' c h =
          let f = after_on_ok part part' (decode bytes) _ o c in
          let A = accepted W (view m) m.scheme.triples (suc q) (reading_at m.core q) part (S.own q q_small) refl (λ i. refl) (λ x i v n. refl) f.0 (typed f.0 f.1).value o part' f.2 in
          accepting f.0 f.1 o part' A h
