use Rattle.std.proofs.Common.{take}
use Rattle.std.specs.List.{AllZip}
use Rattle.pe_supply.specs.Building.{IsSwitchOf}
use Rattle.pe_supply.proofs.switches.make_switches.Given as goal

abbrev pub invariant-loop-text : goal.invariant-loop-text
invariant-loop-text l = AllZip (IsSwitchOf l.names) (take l.text-index l.texts) l.switches
