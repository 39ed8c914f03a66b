-- When the domain of a design is on.
use Rattle.std.specs.Prelude.{Bool, ◌&&◌, List}
use Rattle.pe_supply.specs.Rows.{is_on}
use Rattle.pe_design.specs.declared.design.Design.{Design}

-- its primary power and its primary ground are on
abbrev pub domain_on : Design → List Bool → Bool
domain_on d states = is_on states d.power && is_on states d.ground
