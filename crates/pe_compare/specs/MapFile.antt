-- What is asked of a map file.
use Rattle.std.specs.Prelude.{◌≤◌, Bool, true, false, count_by}
use Rattle.pe_compare.specs.declared.map.MapFile.{MapFile}
use Rattle.pe_compare.specs.declared.map.MapLine.{MapLine}
use Rattle.pe_compare.specs.declared.map.MapLine.TheVariants.{Top, Clock}

abbrev pub is_top : MapLine → Bool
is_top (Top rtl net) = true
is_top _ = false

abbrev pub is_clock : MapLine → Bool
is_clock (Clock port) = true
is_clock _ = false

-- at most one line names the top modules
abbrev pub HasOneTop : MapFile → Type 0
HasOneTop m = count_by is_top m.lines ≤ 1

-- at most one line names the clock
abbrev pub HasOneClock : MapFile → Type 0
HasOneClock m = count_by is_clock m.lines ≤ 1
