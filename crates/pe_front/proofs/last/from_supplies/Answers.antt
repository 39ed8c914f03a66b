use Rattle.std.proofs.Common.{Err}
use Rattle.pe_supply.specs.declared.fault.SupplyFault.{SupplyFault}
use Rattle.pe_supply.specs.declared.supplies.Supplies.{Supplies}
use Rattle.pe_supply.specs.Building.{IsBuilt, IsOutcome}
use Rattle.pe_front.specs.declared.fault.CheckFault.TheVariants.{Refused}
use Rattle.pe_front.specs.declared.fault.Fault.TheVariants.{Supply}
use Rattle.pe_front.specs.declared.fault.Part.TheVariants.{Upf}
use Rattle.pe_front.specs.Given.{FromFit, FromSupplies}
use Rattle.pe_front.proofs.Answering.{found_on, unsupplied}
use Rattle.pe_front.proofs.last.from_supplies.Goals as goal

pub returns-in-Ok-clause-given : goal.returns-in-Ok-clause-given
unfolding FromSupplies
returns-in-Ok-clause-given c =
    let intent = c.args.intent.now in
    found_on Supplies SupplyFault (IsBuilt intent) (λ f. IsOutcome intent (Err f)) (λ f. Refused Upf (Supply f)) (FromFit c.args.m intent c.args.netlist c.args.views)
    c.in-Ok.supplies c.from_fit.result c.in-Ok.ensures.found c.from_fit.ensures.given

pub returns-in-Err-clause-given : goal.returns-in-Err-clause-given
unfolding FromSupplies
returns-in-Err-clause-given c =
    unsupplied c.args.intent.now (FromFit c.args.m c.args.intent.now c.args.netlist c.args.views) c.in-Err.fault c.supply_refusal.result c.in-Err.ensures.refused c.supply_refusal.ensures
