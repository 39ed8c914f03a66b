use Rattle.pe_supply.proofs.Settling.{settled_one, found, found_settled}
use Rattle.pe_supply.proofs.state.state_law.Goals as goal

pub returns-clause-one : goal.returns-clause-one
returns-clause-one c = settled_one

pub returns-clause-exists : goal.returns-clause-exists
returns-clause-exists c = λ s roots controls w. (found s roots controls, found_settled s roots controls w)
