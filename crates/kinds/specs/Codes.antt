-- The two kinds of value, over a code of eight bytes read as a number.
use Rattle.std.specs.Prelude.{Bool, ◌&&◌, ◌||◌, ℕ, ◌-◌, ◌/◌, ◌%◌, ◌^◌, leb, eqb}

-- bytes 0 to 3 are zero, and bytes 4 to 7 are a two's complement number from -1,000,000 to 1,000,000
abbrev pub is_setpoint : ℕ → Bool
is_setpoint c = eqb (c / 2 ^ 32) 0 && (leb (c % 2 ^ 32) 1000000 || leb (2 ^ 32 - 1000000) (c % 2 ^ 32))

-- equal codes are the same
abbrev pub same_setpoint : ℕ → ℕ → Bool
same_setpoint a b = is_setpoint a && eqb a b

-- bytes 0 and 1
abbrev pub recipe : ℕ → ℕ
recipe c = c / 2 ^ 48

-- bytes 2 to 5
abbrev pub quantity : ℕ → ℕ
quantity c = c / 2 ^ 16 % 2 ^ 32

-- a recipe code from 1 to 9,999 and a quantity up to 1,000,000, with any operator
abbrev pub is_step : ℕ → Bool
is_step c = leb 1 (recipe c) && leb (recipe c) 9999 && leb (quantity c) 1000000

-- equal recipe code and quantity are the same
abbrev pub same_step : ℕ → ℕ → Bool
same_step a b = is_step a && is_step b && eqb (recipe a) (recipe b) && eqb (quantity a) (quantity b)
