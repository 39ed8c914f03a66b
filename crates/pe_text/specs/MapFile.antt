-- What starts at a place of a map file.
use Rattle.std.specs.Prelude.{ℕ, ◌==◌, List, [], ◌∷◌, if◌then◌else◌}
use Rattle.pe_text.specs.declared.token.Kind.TheVariants.{Word, End}
use Rattle.pe_text.specs.declared.run.Run.TheVariants as run
use Rattle.pe_text.specs.Bytes.{is_blank, behind}
use Rattle.pe_text.specs.Start.{Start, gap, token, bad}

abbrev pub map_start : List ℕ → Start
map_start [] = bad
map_start (b ∷ bs) =
    if is_blank b then gap bs
    else if b == 10 then token End bs
    else if b == 35 then gap (behind run.Line bs)
    else token Word (behind run.Entry bs)
