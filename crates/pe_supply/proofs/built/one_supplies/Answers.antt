use Rattle.std.proofs.Common.{◌≡◌, Result, Ok}
use Rattle.pe_supply.specs.declared.fault.SupplyFault.{SupplyFault}
use Rattle.pe_supply.specs.declared.supplies.Supplies.{Supplies}
use Rattle.pe_supply.specs.Plans.{plan_of}
use Rattle.pe_supply.proofs.Outcomes.{one_said}
use Rattle.pe_supply.proofs.built.one_supplies.Goals as goal

pub returns-clause-outcome : goal.returns-clause-outcome
returns-clause-outcome c = λ intent a b p q. one_said (plan_of intent.commands) a b p q

same_supplies : (s t : Supplies) → ◌≡◌ {A = Result Supplies SupplyFault} (Ok s) (Ok t) → s ≡ t
same_supplies s t e = cc

pub returns-clause-one : goal.returns-clause-one
returns-clause-one c = λ intent s t p q. same_supplies s t (one_said (plan_of intent.commands) (Ok s) (Ok t) p q)
