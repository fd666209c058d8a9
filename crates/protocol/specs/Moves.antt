-- The moves of the system: what each asks for, and what it leaves. Whatever a move does not name stays.
use Rattle.std.specs.Prelude.{◌≡◌, ℕ, suc, ◌+◌, ◌*◌, ◌<◌, ◌≤◌, true, false, ◌⊎◌, List, [], ◌∷◌, length}
use Rattle.protocol.specs.Model.{Plan, State, fly, empty, closed, Seat, Listed, NotIn, put, verdict, is_closed, reading, Acceptable}

-- what a move from x to y leaves as it was; of the flights and their ways, those that x has
abbrev pub SameOffsets : State → State → Type 0
SameOffsets x y = (p : ℕ) → y.offset p ≡ x.offset p

abbrev pub SameTurned : State → State → Type 0
SameTurned x y = (p : ℕ) → y.turned p ≡ x.turned p

abbrev pub SameBags : State → State → Type 0
SameBags x y = (p i : ℕ) → y.bag p i ≡ x.bag p i

abbrev pub SameSeals : State → State → Type 0
SameSeals x y = (a i v : ℕ) (l : List ℕ) → y.sealed a i v l ≡ x.sealed a i v l

abbrev pub OldFlights : State → State → Type 0
OldFlights x y = (m : ℕ) → m < x.count → y.flight m ≡ x.flight m

abbrev pub OldWays : State → State → Type 0
OldWays x y = (m q : ℕ) → m < x.count → y.way m q ≡ x.way m q

-- only the bag of p for item i may have changed
abbrev pub OtherBags : ℕ → ℕ → State → State → Type 0
OtherBags p i x y = ((q k : ℕ) → ¬ (q ≡ p) → y.bag q k ≡ x.bag q k) × ((q k : ℕ) → ¬ (k ≡ i) → y.bag q k ≡ x.bag q k)

-- real time passes, and no flight from a correct author to a correct goal falls due
pub record Ticks (P : Plan) (k : ℕ) (x y : State) : Type 0 where
  pub clock : y.now ≡ x.now + k
  pub in_time : (m q i v : ℕ) (l : List ℕ) (a t : ℕ) → m < x.count → x.flight m ≡ fly i v l a t → x.turned a ≡ false → x.turned q ≡ false → x.way m q ≡ true → x.now + k < t + P.d
  pub offsets : SameOffsets x y
  pub turns : SameTurned x y
  pub faults : y.faulty ≡ x.faulty
  pub bags : SameBags x y
  pub seals : SameSeals x y
  pub number : y.count ≡ x.count
  pub flights : OldFlights x y
  pub ways : OldWays x y

-- the clock of a correct processor is set, up to e ahead and also back
pub record Sets (P : Plan) (p o : ℕ) (x y : State) : Type 0 where
  pub correct : x.turned p ≡ false
  pub within : o ≤ P.e
  pub here : y.offset p ≡ o
  pub there : (q : ℕ) → ¬ (q ≡ p) → y.offset q ≡ x.offset q
  pub clock : y.now ≡ x.now
  pub turns : SameTurned x y
  pub faults : y.faulty ≡ x.faulty
  pub bags : SameBags x y
  pub seals : SameSeals x y
  pub number : y.count ≡ x.count
  pub flights : OldFlights x y
  pub ways : OldWays x y

-- a correct processor turns faulty, while fewer than f have
pub record Turns (P : Plan) (p : ℕ) (x y : State) : Type 0 where
  pub correct : x.turned p ≡ false
  pub spare : x.faulty < P.f
  pub here : y.turned p ≡ true
  pub there : (q : ℕ) → ¬ (q ≡ p) → y.turned q ≡ x.turned q
  pub faults : y.faulty ≡ suc x.faulty
  pub clock : y.now ≡ x.now
  pub offsets : SameOffsets x y
  pub bags : SameBags x y
  pub seals : SameSeals x y
  pub number : y.count ≡ x.count
  pub flights : OldFlights x y
  pub ways : OldWays x y

-- a faulty processor has anything sealed in its own name; nobody else's seals move
pub record Forges (P : Plan) (p : ℕ) (x y : State) : Type 0 where
  pub bad : x.turned p ≡ true
  pub grows : (i v : ℕ) (l : List ℕ) → x.sealed p i v l ≡ true → y.sealed p i v l ≡ true
  pub there : (a i v : ℕ) (l : List ℕ) → ¬ (a ≡ p) → y.sealed a i v l ≡ x.sealed a i v l
  pub clock : y.now ≡ x.now
  pub offsets : SameOffsets x y
  pub turns : SameTurned x y
  pub faults : y.faulty ≡ x.faulty
  pub bags : SameBags x y
  pub number : y.count ≡ x.count
  pub flights : OldFlights x y
  pub ways : OldWays x y

-- p's bag for the item takes the value
pub record Takes (p i v : ℕ) (x y : State) : Type 0 where
  pub here : y.bag p i ≡ put (x.bag p i) v
  pub other : OtherBags p i x y

-- p seals its link and broadcasts: the new flight is on its way to every processor that it does not name
pub record Broadcasts (P : Plan) (p i v : ℕ) (l : List ℕ) (x y : State) : Type 0 where
  pub seal : y.sealed p i v l ≡ true
  pub grows : (a k w : ℕ) (h : List ℕ) → x.sealed a k w h ≡ true → y.sealed a k w h ≡ true
  pub only : (a k w : ℕ) (h : List ℕ) → y.sealed a k w h ≡ true → (x.sealed a k w h ≡ true) ⊎ ((a ≡ p) × (k ≡ i) × (w ≡ v) × (h ≡ l))
  pub number : y.count ≡ suc x.count
  pub new : y.flight x.count ≡ fly i v l p x.now
  pub flights : OldFlights x y
  pub goals : (q : ℕ) → Seat P q → NotIn q (p ∷ l) → y.way x.count q ≡ true
  pub no_more : (q : ℕ) → y.way x.count q ≡ true → Seat P q × NotIn q (p ∷ l)

-- clocks and faults stay
pub record Calm (x y : State) : Type 0 where
  pub clock : y.now ≡ x.now
  pub offsets : SameOffsets x y
  pub turns : SameTurned x y
  pub faults : y.faulty ≡ x.faulty

-- a correct sender opens its item, at the item's reading, with an empty bag
pub record Opens (P : Plan) (p i v : ℕ) (x y : State) : Type 0 where
  pub correct : x.turned p ≡ false
  pub listed : Listed P i
  pub is_sender : p ≡ P.sender i
  pub moment : reading x p ≡ P.moment i
  pub unopened : x.bag p i ≡ empty
  pub admits : P.admitted v ≡ true
  pub takes : Takes p i v x y
  pub sends : Broadcasts P p i v [] x y
  pub ways : OldWays x y
  pub calm : Calm x y

-- a correct processor accepts a frame with at most f links, from wherever it came, and relays it
pub record Relays (P : Plan) (p i v : ℕ) (l : List ℕ) (x y : State) : Type 0 where
  pub seat : Seat P p
  pub correct : x.turned p ≡ false
  pub passes : Acceptable P x p i v l
  pub few : length l ≤ P.f
  pub takes : Takes p i v x y
  pub sends : Broadcasts P p i v l x y
  pub ways : OldWays x y
  pub calm : Calm x y

-- a correct processor accepts a frame with f + 1 links, and relays nothing
pub record Keeps (P : Plan) (p i v : ℕ) (l : List ℕ) (x y : State) : Type 0 where
  pub seat : Seat P p
  pub correct : x.turned p ≡ false
  pub passes : Acceptable P x p i v l
  pub full : length l ≡ suc P.f
  pub takes : Takes p i v x y
  pub calm : Calm x y
  pub seals : SameSeals x y
  pub number : y.count ≡ x.count
  pub flights : OldFlights x y
  pub ways : OldWays x y

-- a flight's way to a correct processor ends, where its frame does not pass (any more)
pub record Drops (P : Plan) (m p : ℕ) (x y : State) : Type 0 where
  pub correct : x.turned p ≡ false
  pub known : m < x.count
  pub fails : (i v : ℕ) (l : List ℕ) (a t : ℕ) → x.flight m ≡ fly i v l a t → ¬ (Acceptable P x p i v (a ∷ l))
  pub here : y.way m p ≡ false
  pub there : (h q : ℕ) → (¬ (h ≡ m)) ⊎ (¬ (q ≡ p)) → y.way h q ≡ x.way h q
  pub calm : Calm x y
  pub bags : SameBags x y
  pub seals : SameSeals x y
  pub number : y.count ≡ x.count
  pub flights : OldFlights x y

-- a correct processor decides an item, f + 1 rounds after the item's reading
pub record Decides (P : Plan) (p i : ℕ) (x y : State) : Type 0 where
  pub seat : Seat P p
  pub correct : x.turned p ≡ false
  pub listed : Listed P i
  pub undecided : is_closed (x.bag p i) ≡ false
  pub waited : P.moment i + suc P.f * (P.d + P.e) ≤ reading x p
  pub here : y.bag p i ≡ closed (verdict (x.bag p i))
  pub other : OtherBags p i x y
  pub calm : Calm x y
  pub seals : SameSeals x y
  pub number : y.count ≡ x.count
  pub flights : OldFlights x y
  pub ways : OldWays x y

pub data Move (P : Plan) (x y : State) : Type 0 where
  ticks : (k : ℕ) → Ticks P k x y → Move P x y
  sets : (p o : ℕ) → Sets P p o x y → Move P x y
  turns : (p : ℕ) → Turns P p x y → Move P x y
  forges : (p : ℕ) → Forges P p x y → Move P x y
  opens : (p i v : ℕ) → Opens P p i v x y → Move P x y
  relays : (p i v : ℕ) (l : List ℕ) → Relays P p i v l x y → Move P x y
  keeps : (p i v : ℕ) (l : List ℕ) → Keeps P p i v l x y → Move P x y
  drops : (m p : ℕ) → Drops P m p x y → Move P x y
  decides : (p i : ℕ) → Decides P p i x y → Move P x y

-- where a run begins
pub record Start (P : Plan) (x : State) : Type 0 where
  pub clock : x.now ≡ 0
  pub offsets : (p : ℕ) → x.offset p ≡ 0
  pub turns : (p : ℕ) → x.turned p ≡ false
  pub faults : x.faulty ≡ 0
  pub bags : (p i : ℕ) → x.bag p i ≡ empty
  pub seals : (a i v : ℕ) (l : List ℕ) → Seat P a → x.sealed a i v l ≡ false
  pub number : x.count ≡ 0

-- z comes from x by moves
pub data Runs (P : Plan) (x : State) : State → Type 0 where
  stay : Runs P x x
  more : {y z : State} → Runs P x y → Move P y z → Runs P x z
