-- The state of the protocol that a model shows, and what holds of the models of a run.
use Rattle.std.proofs.Common.{◌≡◌, ℕ, suc, ◌+◌, ◌^◌, ◌<◌, ◌≤◌, false, List, [], ◌∷◌, ◌++◌, length, get_or, Ok}
use Rattle.std.specs.List.{AllByRecursion}
use Rattle.seals.specs.Meanings.{Triple, Meaning, left_of}
use Rattle.frames.specs.Bytes.{Fields, decoded, decode}
use Rattle.processor.specs.Chains.{sealed}
use Rattle.bench.specs.declared.flight.Flight as Sent
use Rattle.bench.specs.Model.{Core, Model}
use Rattle.bench.specs.Calls.{no_flight, count_true}
use Rattle.bench.specs.Flights.{bytes_of}
use Rattle.bench.specs.Reports.{no_part}
use Rattle.protocol.specs.Model.{State, Flight, fly}
use Rattle.protocol.specs.Agreement.{flights_of}
use Rattle.frames.proofs.Fitting.{Read}
use Rattle.processor.proofs.Sealing.{sealed_more}
use Rattle.bench.proofs.Worlds.{World, entry_of, bag_shown, bag_at, has_sealed, newest_first}

abbrev pub older : List ℕ → List ℕ
older [] = []
older (a ∷ l) = l

-- what a flight's frame says
abbrev pub fields_in : Sent.Flight → Fields
fields_in fl = decoded (bytes_of fl)

abbrev pub flight_shown : Sent.Flight → Flight
flight_shown fl = fly fl.item (fields_in fl).value (older (newest_first (fields_in fl))) fl.author fl.time

abbrev pub flight_of : Core → ℕ → Sent.Flight
flight_of c k = get_or c.flights k no_flight

abbrev pub view : Model → State
view m = record {
  now = m.core.time;
  offset = λ p. entry_of 0 m.core.offsets p;
  turned = λ p. entry_of false m.core.turned p;
  faulty = count_true m.core.turned;
  bag = λ p i. bag_shown (bag_at (entry_of no_part m.core.parts p) i);
  sealed = λ a i v l. has_sealed m.scheme.triples a i v l;
  count = length m.core.flights;
  flight = λ k. flight_shown (flight_of m.core k);
  way = λ k q. entry_of false (flight_of m.core k).goals q;
}

-- a flight's frame is whole, ends with its author's link, and every link is sealed
pub record Flying (ts : List Triple) (fl : Sent.Flight) : Type 0 where
  pub goals : length fl.goals ≡ 8
  pub whole : decode (bytes_of fl) ≡ Ok (fields_in fl)
  pub item : (fields_in fl).item ≡ fl.item
  pub read : Read (fields_in fl)
  pub author : newest_first (fields_in fl) ≡ fl.author ∷ older (newest_first (fields_in fl))
  pub genuine : sealed ts (fields_in fl) ≡ Ok tt

-- more triples ground no flight
pub flying_more : (ts us : List Triple) (fl : Sent.Flight) → Flying ts fl → Flying (ts ++ us) fl
flying_more ts us fl F = record { goals = F.goals; whole = F.whole; item = F.item; read = F.read; author = F.author; genuine = sealed_more ts us _ _ _ F.genuine }

-- every seal has four bytes
abbrev pub FourBytes : Triple → Type 0
FourBytes e = e.seal < 2 ^ 32

abbrev pub SealsFit : Meaning → Type 0
SealsFit x = AllByRecursion FourBytes x.triples

-- what holds of every model that a run leads to, besides what the protocol says
pub record Sound (W : World) (m : Model) : Type 0 where
  pub plan : m.core.plan ≡ Ok W.setup
  pub offsets : length m.core.offsets ≡ 8
  pub turned : length m.core.turned ≡ 8
  pub parts : length m.core.parts ≡ 8
  pub own : (q : ℕ) → q < 8 → (get_or m.core.parts q no_part).own ≡ suc q
  pub bags : (q : ℕ) → q < 8 → length (get_or m.core.parts q no_part).bags ≡ 8
  pub flying : (k : ℕ) → k < length m.core.flights → Flying m.scheme.triples (flight_of m.core k)
  pub left : (p : ℕ) → 1 ≤ p → p ≤ W.setup.n → (view m).turned p ≡ false → 16 ≤ left_of m.scheme p + flights_of (view m) p
  pub longest : 18 ≤ m.scheme.longest
  pub room : length m.scheme.room ≡ 8
  pub seals : SealsFit m.scheme
