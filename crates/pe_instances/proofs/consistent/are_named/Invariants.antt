use Rattle.std.proofs.Common.{◌≡◌, true, take}
use Rattle.std.specs.List.{list_all}
use Rattle.pe_instances.specs.Form.{is_named}
use Rattle.pe_instances.proofs.consistent.are_named.Given as goal

abbrev pub invariant-loop-i : goal.invariant-loop-i
invariant-loop-i l = list_all (is_named l.known) (take l.i-index l.instances) ≡ true
