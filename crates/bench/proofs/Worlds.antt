-- What is agreed before a run, as the protocol sees it; and how it sees bags, seals and links.
use Rattle.std.proofs.Common.{◌≡◌, ℕ, zero, suc, ◌+◌, ◌-◌, ◌^◌, ◌<◌, ◌≤◌, Bool, true, ◌&&◌, ltb, List, ◌∷◌, reverse, length, get_or, is_some, arith}
use native.Mathlib.Decide.{dec_lt}
use Rattle.std.proofs.lemmas.List.{get_or_past}
use Rattle.seals.specs.Meanings.{Triple, seal_of}
use Rattle.frames.specs.Bytes.{Fields}
use Rattle.frames.specs.Texts.{numbers_of, text_for}
use Rattle.plans.specs.declared.plan.Appointment.{Appointment}
use Rattle.plans.specs.Setups.{Setup}
use Rattle.processor.specs.declared.part.Bag as Kept
use Rattle.processor.specs.declared.part.Bag.TheVariants.{Empty, One, Two, Closed}
use Rattle.processor.specs.declared.part.Decision.{Decision}
use Rattle.processor.specs.declared.part.Decision.TheVariants.{Default, Value}
use Rattle.processor.specs.declared.part.Part.{Part}
use Rattle.protocol.specs.Model.{Plan, Verdict, default, chosen, Bag, empty, one, two, closed}

-- a kind of value, and a setup that fits
pub record World : Type 0 where
  pub admitted : ℕ → Bool
  pub same : ℕ → ℕ → Bool
  pub reflexive : (a : ℕ) → admitted a ≡ true → same a a ≡ true
  pub symmetric : (a b : ℕ) → same a b ≡ true → same b a ≡ true
  pub transitive : (a b c : ℕ) → same a b ≡ true → same b c ≡ true → same a c ≡ true
  pub setup : Setup
  pub n_low : 3 ≤ setup.n
  pub n_high : setup.n ≤ 8
  pub spare : setup.f + 2 ≤ setup.n
  pub d_low : 1 ≤ setup.d
  pub few : length setup.agenda ≤ 8
  pub senders : (k : ℕ) (none : Appointment) → k < length setup.agenda → (1 ≤ (get_or setup.agenda k none).sender) × ((get_or setup.agenda k none).sender ≤ setup.n)

-- beyond the agenda there is nothing; the first processor stands in
abbrev pub someone : Appointment
someone = record { sender = 1; reading = 0 }

abbrev pub appointment_of : World → ℕ → Appointment
appointment_of W i = get_or W.setup.agenda (i - 1) someone

pub sender_fits : (W : World) (i : ℕ) → (1 ≤ (appointment_of W i).sender) × ((appointment_of W i).sender ≤ W.setup.n)
sender_fits W i = go (dec_lt (i - 1) (length W.setup.agenda))
  where
    go : Dec (i - 1 < length W.setup.agenda) → (1 ≤ (appointment_of W i).sender) × ((appointment_of W i).sender ≤ W.setup.n)
    go (yes h) = W.senders (i - 1) someone h
    go (no h) = let e = get_or_past W.setup.agenda (i - 1) someone (omega arith) in let n = W.n_low in rw e (omega arith, omega arith)

abbrev pub plan_of : World → Plan
plan_of W = record {
  n = W.setup.n;
  f = W.setup.f;
  d = W.setup.d;
  e = W.setup.e;
  items = length W.setup.agenda;
  sender = λ i. (appointment_of W i).sender;
  moment = λ i. (appointment_of W i).reading;
  admitted = W.admitted;
  same = W.same;
  spread = W.d_low;
  sender_low = λ i. (sender_fits W i).0;
  sender_high = λ i. (sender_fits W i).1;
  same_refl = W.reflexive;
  same_sym = λ v w a b h. W.symmetric v w h;
  same_trans = λ u v w a b c h k. W.transitive u v w h k;
}

-- a list's entry for processor p, who is at p - 1; 0 is nobody
abbrev pub entry_of : {X : Type 0} → X → List X → ℕ → X
entry_of none xs zero = none
entry_of none xs (suc q) = get_or xs q none

abbrev pub verdict_of : Decision → Verdict
verdict_of Default = default
verdict_of (Value v) = chosen v

abbrev pub bag_shown : Kept.Bag → Bag
bag_shown Empty = empty
bag_shown (One v) = one v
bag_shown (Two v w) = two v w
bag_shown (Closed d) = closed (verdict_of d)

-- a part's bag of item i; items are numbered from 1
abbrev pub bag_at : Part → ℕ → Kept.Bag
bag_at p i = entry_of Empty p.bags i

-- the signer a has sealed the text of item i, value v and the links l, newest first, followed by its own
abbrev pub has_sealed : List Triple → ℕ → ℕ → ℕ → List ℕ → Bool
has_sealed ts a i v l = ltb v (2 ^ 64) && is_some (seal_of ts a (text_for i v (reverse (a ∷ l))))

-- the numbers of a frame's links, newest first
abbrev pub newest_first : Fields → List ℕ
newest_first f = reverse (numbers_of f.links)
