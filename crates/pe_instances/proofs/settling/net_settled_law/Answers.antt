use Rattle.pe_instances.specs.Form.{nets}
use Rattle.pe_instances.specs.Pins.{drives}
use Rattle.pe_instances.specs.Begin.{start_of}
use Rattle.pe_nets.proofs.Rules.{run_map}
use Rattle.pe_instances.proofs.OneMap.{rules_of, final_settled, settled_once}
use Rattle.pe_instances.proofs.settling.net_settled_law.Goals as goal

pub returns-clause-exists : goal.returns-clause-exists
returns-clause-exists c = λ r states inputs e. (run_map (nets r.netlist) (start_of r inputs) (rules_of r states (drives r)), final_settled r states inputs e)

pub returns-clause-one : goal.returns-clause-one
returns-clause-one c = settled_once
