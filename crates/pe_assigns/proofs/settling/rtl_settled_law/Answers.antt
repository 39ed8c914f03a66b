use Rattle.pe_assigns.specs.Form.{nets, assigns}
use Rattle.pe_assigns.specs.Begin.{start_of}
use Rattle.pe_nets.proofs.Rules.{run_map}
use Rattle.pe_assigns.proofs.OneMap.{rules_of, final_settled, settled_once}
use Rattle.pe_assigns.proofs.settling.rtl_settled_law.Goals as goal

pub returns-clause-exists : goal.returns-clause-exists
returns-clause-exists c = λ m on inputs e. (run_map (nets m) (start_of m inputs) (rules_of on (assigns m)), final_settled m on inputs e)

pub returns-clause-one : goal.returns-clause-one
returns-clause-one c = settled_once
