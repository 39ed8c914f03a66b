-- What starts at a place of a text in Liberty. The end of a line is a token where it ends a list of values.
use Rattle.std.specs.Prelude.{ℕ, ◌==◌, Bool, true, false, ◌&&◌, List, [], ◌∷◌, codes, drop, if◌then◌else◌}
use Rattle.pe_text.specs.declared.token.Kind.{Kind}
use Rattle.pe_text.specs.declared.token.Kind.TheVariants.{Word, Mark, End}
use Rattle.pe_text.specs.declared.mode.Mode.{Mode}
use Rattle.pe_text.specs.declared.mode.Mode.TheVariants.{Fresh, Colon, Values}
use Rattle.pe_text.specs.declared.run.Run.TheVariants as run
use Rattle.pe_text.specs.Bytes.{is_one_of, is_white, has_two, is_continued, behind}
use Rattle.pe_text.specs.Start.{Start, gap, token, bad, gap_to, quoted}

-- of the tokens since the last colon a value is among them, and none that ends the values
abbrev pub has_values : Mode → Bool
has_values Values = true
has_values _ = false

abbrev pub liberty_start : Mode → List ℕ → Start
liberty_start mode [] = bad
liberty_start mode (b ∷ bs) =
    if (b == 10) && has_values mode then token End bs
    else if is_white b then gap bs
    else if is_one_of (codes "(){}:;,") b then token Mark bs
    else if b == 34 then quoted run.LibertyText bs
    else if is_continued (b ∷ bs) then gap (drop 1 bs)
    else if has_two 47 42 (b ∷ bs) then gap_to 42 47 (drop 1 bs)
    else token Word (behind run.Value bs)

-- behind a value: a word or a quoted text
abbrev pub value_behind : Mode → Mode
value_behind Colon = Values
value_behind mode = mode

-- behind a token that begins with this byte
abbrev pub liberty_behind : Mode → Kind → ℕ → Mode
liberty_behind mode End b = Fresh
liberty_behind mode Mark b = if b == 58 then Colon else if b == 44 then mode else Fresh
liberty_behind mode _ b = value_behind mode
