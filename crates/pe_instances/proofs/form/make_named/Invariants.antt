use Rattle.std.proofs.Common.{◌≡◌, map, take}
use Rattle.pe_instances.specs.Form.{connection_of}
use Rattle.pe_instances.proofs.form.make_named.Given as goal

abbrev pub invariant-loop-c : goal.invariant-loop-c
invariant-loop-c l = l.made ≡ map connection_of (take l.c-index l.list)
