use Rattle.std.proofs.Common.{◌≡◌, drop}
use Rattle.std.specs.List.{list_all}
use Rattle.pe_supply.specs.States.{is_zero, value_of}
use Rattle.pe_supply.proofs.state.are_zero.Given as goal

abbrev pub invariant-loop-e : goal.invariant-loop-e
invariant-loop-e l = list_all (λ e. is_zero (value_of e l.values)) l.functions ≡ list_all (λ e. is_zero (value_of e l.values)) (drop l.e-index l.functions)
