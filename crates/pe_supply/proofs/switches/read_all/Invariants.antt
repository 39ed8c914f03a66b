use Rattle.std.proofs.Common.{take}
use Rattle.std.specs.List.{AllZip}
use Rattle.pe_bool_expr.specs.declared.style.Style.TheVariants.{Upf}
use Rattle.pe_bool_expr.specs.Reading.{IsFunction}
use Rattle.pe_supply.proofs.switches.read_all.Given as goal

abbrev pub invariant-loop-text : goal.invariant-loop-text
invariant-loop-text l = AllZip (IsFunction Upf l.names) (take l.text-index l.texts) l.functions
