use Rattle.std.proofs.Common.{◌≡◌, take}
use Rattle.pe_supply.specs.Drivers.{edges_of}
use Rattle.pe_supply.proofs.drivers.edges_of.Given as goal

abbrev pub invariant-loop-switch : goal.invariant-loop-switch
invariant-loop-switch l = l.edges ≡ edges_of l.names (take l.switch-index l.switches)
