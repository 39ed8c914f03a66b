-- The bits of a number as it is written, the lowest first.
use Rattle.std.specs.Prelude.{ℕ, zero, suc, ◌==◌, ◌+◌, ◌-◌, ◌*◌, ◌/◌, ◌%◌, Bool, ◌||◌, nat_le, List, [], ◌∷◌, ◌++◌, take, drop, replicate, position, Option, Some, None, if◌then◌else◌}
use Rattle.pe_verilog_ast.specs.declared.number.Digit.{Digit}
use Rattle.pe_verilog_ast.specs.declared.number.Digit.TheVariants.{Zero, One, X, Skip}
use Rattle.pe_verilog_read.specs.Terminals.{is_skipped}

-- the lowest bits of a value, so many
abbrev pub bit_of : ℕ → Digit
bit_of n = if n % 2 == 1 then One else Zero

abbrev pub bits_of : ℕ → ℕ → List Digit
bits_of zero n = []
bits_of (suc count) n = bit_of n ∷ bits_of count (n / 2)

-- decimal digits behind those of the value n; a _ is none
abbrev pub grown_of : ℕ → ℕ → ℕ
grown_of n b = if b == 95 then n else 10 * n + (b - 48)

abbrev pub value_of : ℕ → List ℕ → ℕ
value_of n [] = n
value_of n (b ∷ bs) = value_of (grown_of n b) bs

-- x and X
abbrev pub is_unknown : ℕ → Bool
is_unknown b = (b == 120) || (b == 88)

-- the value of a digit: 0 to 9, A to F, a to f
abbrev pub digit_value : ℕ → ℕ
digit_value b = if nat_le b 57 then b - 48 else if nat_le b 70 then b - 55 else b - 87

-- the bits of a digit, which has so many; a _ has none
abbrev pub digit_bits : ℕ → ℕ → List Digit
digit_bits width b =
    if b == 95 then []
    else if is_unknown b then replicate width X
    else if is_skipped b then replicate width Skip
    else bits_of width (digit_value b)

abbrev pub digits_bits : ℕ → List ℕ → List Digit
digits_bits width [] = []
digits_bits width (b ∷ bs) = digits_bits width bs ++ digit_bits width b

-- what stands to the left of the digits: their leftmost where it is x, z or ?, else 0
abbrev pub fill_of : List ℕ → Digit
fill_of [] = Zero
fill_of (b ∷ bs) = if is_unknown b then X else if is_skipped b then Skip else Zero

-- so many bits, cut or filled on the left
abbrev pub fitted : ℕ → List Digit → Digit → List Digit
fitted zero bits fill = []
fitted (suc count) [] fill = fill ∷ fitted count [] fill
fitted (suc count) (b ∷ bits) fill = b ∷ fitted count bits fill

-- the letters of base two, eight and ten, and how many bits a digit of the others has
abbrev pub is_decimal : ℕ → Bool
is_decimal letter = (letter == 100) || (letter == 68)

abbrev pub width_of : ℕ → ℕ
width_of letter = if (letter == 98) || (letter == 66) then 1 else if (letter == 111) || (letter == 79) then 3 else 4

-- what stands behind the quote of a number of so many bits: a letter and digits
abbrev pub based : ℕ → List ℕ → List Digit
based size [] = []
based size (letter ∷ digits) =
    if is_decimal letter then bits_of size (value_of 0 digits)
    else fitted size (digits_bits (width_of letter) digits) (fill_of digits)

-- a number without a size has 32 bits
abbrev pub size_of : List ℕ → ℕ
size_of [] = 32
size_of (b ∷ bs) = value_of 0 (b ∷ bs)

-- a number, whose quote stands there
abbrev pub digits_at : List ℕ → Option ℕ → List Digit
digits_at bytes None = bits_of 32 (value_of 0 bytes)
digits_at bytes (Some quote) = based (size_of (take quote bytes)) (drop (quote + 1) bytes)

abbrev pub digits_of : List ℕ → List Digit
digits_of bytes = digits_at bytes (position (λ b. b == 39) bytes)
