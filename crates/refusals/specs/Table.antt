-- The rows of the refusal table: each number with its name.
use Rattle.std.specs.Prelude.{ℕ, cond, List, [], ◌∷◌, codes, ◌==◌}
use Rattle.std.specs.Str.{bytes_eq}

pub record Entry : Type 0 where
  pub number : ℕ
  pub name : List ℕ

abbrev entry : ℕ → List ℕ → Entry
entry n t = record { number = n; name = t }

abbrev pub table : List Entry
table = entry 1 (codes "size")
    ∷ entry 2 (codes "agenda")
    ∷ entry 3 (codes "scheme")
    ∷ entry 4 (codes "used")
    ∷ entry 10 (codes "processor")
    ∷ entry 11 (codes "item")
    ∷ entry 12 (codes "faulty")
    ∷ entry 13 (codes "sound")
    ∷ entry 14 (codes "spare")
    ∷ entry 15 (codes "moment")
    ∷ entry 16 (codes "wait")
    ∷ entry 17 (codes "sender")
    ∷ entry 18 (codes "opened")
    ∷ entry 19 (codes "value")
    ∷ entry 20 (codes "offset")
    ∷ entry 21 (codes "end")
    ∷ entry 22 (codes "due")
    ∷ entry 23 (codes "flight")
    ∷ entry 30 (codes "frame")
    ∷ entry 31 (codes "row")
    ∷ entry 32 (codes "code")
    ∷ entry 33 (codes "long")
    ∷ entry 34 (codes "first")
    ∷ entry 35 (codes "link")
    ∷ entry 36 (codes "own")
    ∷ entry 37 (codes "forged")
    ∷ entry 38 (codes "early")
    ∷ entry 39 (codes "late")
    ∷ entry 40 (codes "closed")
    ∷ entry 41 (codes "same")
    ∷ entry 42 (codes "full")
    ∷ entry 50 (codes "signer")
    ∷ entry 51 (codes "text")
    ∷ entry 52 (codes "room")
    ∷ entry 60 (codes "line")
    ∷ []

abbrev pub named_in : List Entry → ℕ → List ℕ
named_in [] n = []
named_in (e ∷ es) n = cond (e.number == n) e.name (named_in es n)

abbrev pub numbered_in : List Entry → List ℕ → ℕ
numbered_in [] t = 0
numbered_in (e ∷ es) t = cond (bytes_eq e.name t) e.number (numbered_in es t)

-- the name of a number, empty where no row has it
abbrev pub named : ℕ → List ℕ
named n = named_in table n

-- the number of a name, 0 where no row has it
abbrev pub numbered : List ℕ → ℕ
numbered t = numbered_in table t
