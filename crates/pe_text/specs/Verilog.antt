-- What starts at a place of a text in Verilog (IEEE 1364).
use Rattle.std.specs.Prelude.{ℕ, ◌==◌, ◌-◌, not, ◌&&◌, List, [], ◌∷◌, codes, take, drop, length, if◌then◌else◌}
use Rattle.pe_base.specs.Names.{has_name}
use Rattle.pe_text.specs.declared.token.Kind.TheVariants.{Word, Escaped, Number, Mark}
use Rattle.pe_text.specs.declared.run.Base.{Base}
use Rattle.pe_text.specs.declared.run.Base.TheVariants.{Binary, Octal, Decimal, Hexadecimal}
use Rattle.pe_text.specs.declared.run.Run.TheVariants as run
use Rattle.pe_text.specs.Bytes.{is_one_of, is_white, is_digit, is_graphic, begins_name, begins, has_first, is_digit_of, behind}
use Rattle.pe_text.specs.Start.{Start, gap, token, bad, or_else, gap_to}

-- the digits of a number with a base; a _ stands only between two of them
abbrev pub digits : Base → List ℕ → Start
digits base text = if begins (is_digit_of base) text then token Number (behind (run.Digits base) text) else bad

-- a base letter, in either case, and the digits behind it
abbrev pub based : ℕ → List ℕ → Start
based letter text =
    if is_one_of (codes "bB") letter then digits Binary text
    else if is_one_of (codes "oO") letter then digits Octal text
    else if is_one_of (codes "dD") letter then digits Decimal text
    else if is_one_of (codes "hH") letter then digits Hexadecimal text
    else bad

abbrev pub unsigned : List ℕ → Start
unsigned [] = bad
unsigned (b ∷ bs) = based b bs

-- what a ' begins: an s, which may be left out, a base and digits
abbrev pub quote : List ℕ → Start
quote [] = bad
quote (b ∷ bs) = if is_one_of (codes "sS") b then unsigned bs else based b bs

-- behind decimal digits: they are a size where a ' with a base follows, else a number
abbrev pub sized : List ℕ → Start
sized [] = token Number []
sized (b ∷ bs) = if b == 39 then or_else (quote bs) (token Number (b ∷ bs)) else token Number (b ∷ bs)

-- what a \ begins: one or more graphic bytes up to white space
abbrev pub escaped : List ℕ → Start
escaped text = if begins is_graphic text && begins is_white (behind run.Escaped text) then token Escaped (behind run.Escaped text) else bad

-- the directives that are passed over with their line
abbrev pub skipped : List (List ℕ)
skipped = codes "timescale" ∷ codes "default_nettype" ∷ codes "celldefine" ∷ codes "endcelldefine" ∷ codes "resetall" ∷ []

-- a directive of this name, with the text behind the name
abbrev pub directive : List ℕ → List ℕ → Start
directive name rest = if has_name skipped name then gap (behind run.Line rest) else token Mark rest

-- what a ` begins: a directive
abbrev pub backquote : List ℕ → Start
backquote text =
    if begins begins_name text then directive (take (length text - length (behind run.Name text)) text) (behind run.Name text) else bad

-- the marks that begin with an operator, by their lengths
abbrev pub triples : List (List ℕ)
triples = codes "===" ∷ codes "!==" ∷ codes "<<<" ∷ codes ">>>" ∷ []

abbrev pub pairs : List (List ℕ)
pairs =
    codes "~&" ∷ codes "~|" ∷ codes "~^" ∷ codes "^~" ∷ codes "<<" ∷ codes ">>" ∷ codes "<=" ∷ codes ">=" ∷ codes "==" ∷ codes "!="
    ∷ codes "&&" ∷ codes "||" ∷ codes "**" ∷ codes "+:" ∷ codes "-:" ∷ []

abbrev pub operators : List ℕ
operators = codes "=!~&|^+-<>*"

-- the longest of them
abbrev pub operator : List ℕ → Start
operator text =
    if has_name triples (take 3 text) then token Mark (drop 3 text)
    else if has_name pairs (take 2 text) then token Mark (drop 2 text)
    else if begins (is_one_of operators) text then token Mark (drop 1 text)
    else bad

-- the other marks
abbrev pub brackets : List ℕ
brackets = codes ")[]{},;:.@#?%"

-- what a / begins: a comment, or it is a mark
abbrev pub stroke : List ℕ → Start
stroke text = if has_first 47 text then gap (behind run.Line text) else if has_first 42 text then gap_to 42 47 (drop 1 text) else token Mark text

-- what a ( begins: an attribute where a * follows with no ) behind it, or it is a mark
abbrev pub round : List ℕ → Start
round text = if has_first 42 text && not (has_first 41 (drop 1 text)) then gap_to 42 41 (drop 1 text) else token Mark text

abbrev pub verilog_start : List ℕ → Start
verilog_start [] = bad
verilog_start (b ∷ bs) =
    if is_white b then gap bs
    else if begins_name b then token Word (behind run.Name bs)
    else if is_one_of brackets b then token Mark bs
    else if b == 40 then round bs
    else if is_digit b then sized (behind (run.Digits Decimal) bs)
    else if b == 39 then quote bs
    else if b == 92 then escaped bs
    else if b == 96 then backquote bs
    else if b == 47 then stroke bs
    else operator (b ∷ bs)
