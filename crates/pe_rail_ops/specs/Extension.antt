-- Values of which the first are fixed.
use Rattle.std.specs.Prelude.{List, ◌++◌, length, drop}
use Rattle.pe_base.specs.declared.value.Val.{Val}

-- the values, with those that are fixed in the place of the first ones
abbrev pub with_fixed : List Val → List Val → List Val
with_fixed fixed values = fixed ++ drop (length fixed) values
