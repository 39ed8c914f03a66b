use Rattle.std.proofs.Common.{◌≡◌, ◌++◌, drop, length}
use Rattle.pe_supply.specs.States.{conducting, ports_of}
use Rattle.pe_supply.proofs.state.conducting.Given as goal

abbrev pub invariant-loop-switch : goal.invariant-loop-switch
invariant-loop-switch l = record {
  ports : length l.rest ≡ ports_of (drop l.switch-index l.switches);
  so_far : conducting l.switches l.controls ≡ l.flags ++ conducting (drop l.switch-index l.switches) l.rest;
}
