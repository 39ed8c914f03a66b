use Rattle.std.proofs.Common.{◌≡◌, ◌++◌, map, take}
use Rattle.pe_instances.specs.Begin.{first_value}
use Rattle.pe_instances.proofs.settling.add_first.Given as goal

abbrev pub invariant-loop-name : goal.invariant-loop-name
invariant-loop-name l = l.values.items ≡ l.initial.values.items ++ map (first_value l.given l.inputs) (take l.name-index l.names)
