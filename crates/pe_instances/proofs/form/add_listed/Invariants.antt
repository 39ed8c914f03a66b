use Rattle.std.proofs.Common.{◌≡◌, ◌++◌, map, take}
use Rattle.pe_instances.specs.Form.{instance_of}
use Rattle.pe_instances.proofs.form.add_listed.Given as goal

abbrev pub invariant-loop-i : goal.invariant-loop-i
invariant-loop-i l = l.made ≡ l.initial.made ++ map (instance_of l.cell) (take l.i-index l.list)
