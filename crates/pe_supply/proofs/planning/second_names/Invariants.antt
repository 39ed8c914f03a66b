use Rattle.std.proofs.Common.{◌≡◌, take, map}
use Rattle.pe_supply.proofs.planning.second_names.Given as goal

abbrev pub invariant-loop-pair : goal.invariant-loop-pair
invariant-loop-pair l = l.names ≡ map (λ state. state.1) (take l.pair-index l.pairs)
