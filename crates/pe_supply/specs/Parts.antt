-- Supplies, put together from their names and what they have besides.
use Rattle.std.specs.Prelude.{ℕ, List}
use Rattle.pe_supply.specs.declared.built.Parts.{Parts}
use Rattle.pe_supply.specs.declared.supplies.Supplies.{Supplies}

abbrev pub with_names : List (List ℕ × ℕ) → Parts → Supplies
with_names names parts = record { names = names; roots = parts.roots; switches = parts.switches; sets = parts.sets; table = parts.table; rows = parts.rows }
