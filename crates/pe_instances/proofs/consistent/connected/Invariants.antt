use Rattle.std.proofs.Common.{◌≡◌, take}
use Rattle.std.specs.List.{flat_map}
use Rattle.pe_instances.specs.Form.{nets_on}
use Rattle.pe_instances.proofs.consistent.connected.Given as goal

abbrev pub invariant-loop-i : goal.invariant-loop-i
invariant-loop-i l = l.found ≡ flat_map nets_on (take l.i-index l.instances)
