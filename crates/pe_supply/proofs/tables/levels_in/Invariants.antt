use Rattle.std.proofs.Common.{◌≡◌, drop, map, ◌++◌}
use Rattle.std.specs.Prelude.{unwrap_or}
use Rattle.std.specs.List.{zip}
use Rattle.pe_supply.specs.declared.supplies.Level.TheVariants.{Any}
use Rattle.pe_supply.specs.Tables.{level_of}
use Rattle.pe_supply.proofs.tables.levels_in.Given as goal

abbrev pub invariant-loop-i : goal.invariant-loop-i
invariant-loop-i l = l.levels ++ map (λ cell. unwrap_or (level_of l.states.names l.states.states cell.0 cell.1) Any) (zip (drop l.i l.table) (drop l.i l.words)) ≡ map (λ cell. unwrap_or (level_of l.states.names l.states.states cell.0 cell.1) Any) (zip l.table l.words)
