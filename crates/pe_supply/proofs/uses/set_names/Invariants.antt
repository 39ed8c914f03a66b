use Rattle.std.proofs.Common.{◌≡◌, take, map}
use Rattle.pe_supply.proofs.uses.set_names.Given as goal

abbrev pub invariant-loop-set : goal.invariant-loop-set
invariant-loop-set l = l.names ≡ map (λ s. s.name) (take l.set-index l.sets)
