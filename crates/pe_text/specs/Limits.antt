-- The first number of a text that is over its limit: how much is open at once, how many bits a number has, how many names an
-- expression has.
use Rattle.std.specs.Prelude.{ℕ, nat_le, min, List, length, if◌then◌else◌}
use Rattle.pe_text.specs.declared.language.Lang.{Lang}
use Rattle.pe_text.specs.declared.language.Lang.TheVariants as lang
use Rattle.pe_text.specs.declared.fault.Which.{Which}
use Rattle.pe_text.specs.declared.fault.Which.TheVariants.{Nesting, Width, Inputs}
use Rattle.pe_text.specs.Lexemes.{Lexeme}
use Rattle.pe_text.specs.Nesting.{first_too_deep}
use Rattle.pe_text.specs.Width.{first_too_wide}
use Rattle.pe_text.specs.Inputs.{first_too_many}

-- which lexeme is the first of which another number than what is open is over its limit, or how many lexemes there are
abbrev pub first_too_large : Lang → List Lexeme → ℕ
first_too_large lang.Rtl ls = first_too_wide ls
first_too_large lang.Netlist ls = first_too_wide ls
first_too_large lang.Upf ls = first_too_many ls
first_too_large lang.Liberty ls = length ls
first_too_large lang.Map ls = length ls

-- the number that is told there
abbrev pub other_number : Lang → Which
other_number lang.Rtl = Width
other_number lang.Netlist = Width
other_number lang.Upf = Inputs
other_number lang.Liberty = Inputs
other_number lang.Map = Inputs

-- which lexeme is the first of which any number is over its limit, or how many lexemes there are
abbrev pub first_over : Lang → List Lexeme → ℕ
first_over language ls = min (first_too_deep language ls) (first_too_large language ls)

-- which number is told at the first: where two are over their limits, what is open
abbrev pub number_over : Lang → List Lexeme → Which
number_over language ls = if nat_le (first_too_deep language ls) (first_too_large language ls) then Nesting else other_number language
