-- What the digits of a number, of a value and of a byte string say. Assumes nothing.
use Rattle.std.specs.Prelude.{ℕ, zero, suc, ◌+◌, ◌-◌, ◌*◌, cond, List, [], ◌∷◌, length, Some, None, codes, nat_lt, Option, ◌==◌}
use Rattle.std.specs.Option.{option_map}
use Rattle.std.specs.Int.{is_in_range}
use Rattle.std.specs.Str.{bytes_eq}
use Rattle.lines.specs.Cut.{head, tail}

-- what follows a value, none where there is no value
abbrev pub and_then : {A B : Type 0} → Option A → (A → Option B) → Option B
and_then None k = None
and_then (Some x) k = k x

-- a decimal digit: the bytes 48 to 57 are `0` to `9`
abbrev pub decimal_of : ℕ → Option ℕ
decimal_of b = cond (is_in_range 48 57 b) (Some (b - 48)) None

-- an upper-case hexadecimal digit: the bytes 65 to 70 are `A` to `F`, 10 to 15
abbrev pub digit_of : ℕ → Option ℕ
digit_of b = cond (is_in_range 65 70 b) (Some (b - 65 + 10)) (decimal_of b)

-- a digit of a base
abbrev pub digit_in : ℕ → ℕ → Option ℕ
digit_in base b = and_then (digit_of b) (λ d. cond (nat_lt d base) (Some d) None)

-- the number that digits of a base, each read in one way, write after those of v
abbrev pub numeral_of : ℕ → (ℕ → Option ℕ) → ℕ → List ℕ → Option ℕ
numeral_of base reading v [] = Some v
numeral_of base reading v (b ∷ bs) = and_then (reading b) (λ d. numeral_of base reading (base * v + d) bs)

abbrev pub decimals_of : ℕ → List ℕ → Option ℕ
decimals_of = numeral_of 10 decimal_of

abbrev pub hexadecimals_of : ℕ → List ℕ → Option ℕ
hexadecimals_of = numeral_of 16 digit_of

-- a number: 1 to 9 decimal digits
abbrev pub number_of : List ℕ → Option ℕ
number_of word = cond (is_in_range 1 9 (length word)) (decimals_of 0 word) None

-- the first n words as numbers
abbrev pub numbers_of : ℕ → List (List ℕ) → Option (List ℕ)
numbers_of zero ws = Some []
numbers_of (suc n) ws = and_then (and_then (head ws) number_of) (λ x. option_map (λ xs. x ∷ xs) (numbers_of n (tail ws)))

-- a value: 16 upper-case hexadecimal digits, the most significant first
abbrev pub value_of : List ℕ → Option ℕ
value_of word = cond (length word == 16) (hexadecimals_of 0 word) None

-- a byte: its high digit, then its low digit
abbrev pub byte_of : ℕ → ℕ → Option ℕ
byte_of high low = and_then (digit_of high) (λ h. and_then (digit_of low) (λ l. Some (16 * h + l)))

-- an even count of digits, two to a byte
abbrev pub bytes_of : List ℕ → Option (List ℕ)
bytes_of [] = Some []
bytes_of (high ∷ []) = None
bytes_of (high ∷ low ∷ bs) = and_then (byte_of high low) (λ b. option_map (λ xs. b ∷ xs) (bytes_of bs))

-- a byte string: `-` has no bytes, and no byte string is empty
abbrev pub byte_string : List ℕ → Option (List ℕ)
byte_string [] = None
byte_string (b ∷ bs) = cond (bytes_eq (codes "-") (b ∷ bs)) (Some []) (bytes_of (b ∷ bs))
