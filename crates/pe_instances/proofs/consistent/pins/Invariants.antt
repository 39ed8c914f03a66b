use Rattle.std.proofs.Common.{◌≡◌, map, take}
use Rattle.pe_instances.proofs.consistent.pins.Given as goal

abbrev pub invariant-loop-c : goal.invariant-loop-c
invariant-loop-c l = l.names ≡ map (λ c. c.pin) (take l.c-index l.c-items)
