use Rattle.std.proofs.Common.{sym, subst}
use Rattle.pe_compare.proofs.MapOnce.{one_top, one_clock}
use Rattle.pe_compare.specs.MapFile.{HasOneTop, HasOneClock}
use Rattle.pe_compare.specs.declared.map.MapFile.{MapFile}
use Rattle.pe_compare.proofs.map_reading.read_map.Goals as goal

pub returns-in-Ok-parse-clause-top : goal.returns-in-Ok-parse-clause-top
returns-in-Ok-parse-clause-top c =
    let P : MapFile → Type 0 = λ m. HasOneTop m in
    subst P (sym c.in_ok-make_map-in-Ok-parse.ensures) (one_top _ _ _ c.in-Ok-parse.ensures.found.derives)

pub returns-in-Ok-parse-clause-clock : goal.returns-in-Ok-parse-clause-clock
returns-in-Ok-parse-clause-clock c =
    let P : MapFile → Type 0 = λ m. HasOneClock m in
    subst P (sym c.in_ok-make_map-in-Ok-parse.ensures) (one_clock _ _ _ c.in-Ok-parse.ensures.found.derives)
