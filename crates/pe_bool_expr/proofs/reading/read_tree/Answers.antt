use Rattle.pe_bool_expr.proofs.reading.read_tree.Goals as goal

pub returns-in-Liberty-clause-found : goal.returns-in-Liberty-clause-found
returns-in-Liberty-clause-found c = rw c.in-Liberty.is c.parse.ensures.found

pub returns-in-Liberty-clause-only : goal.returns-in-Liberty-clause-only
returns-in-Liberty-clause-only c = rw c.in-Liberty.is c.parse.ensures.only

pub returns-in-Liberty-clause-fault : goal.returns-in-Liberty-clause-fault
returns-in-Liberty-clause-fault c = rw c.in-Liberty.is c.parse.ensures.fault

pub returns-in-Upf-clause-found : goal.returns-in-Upf-clause-found
returns-in-Upf-clause-found c = rw c.in-Upf.is c.parse-in-Upf.ensures.found

pub returns-in-Upf-clause-only : goal.returns-in-Upf-clause-only
returns-in-Upf-clause-only c = rw c.in-Upf.is c.parse-in-Upf.ensures.only

pub returns-in-Upf-clause-fault : goal.returns-in-Upf-clause-fault
returns-in-Upf-clause-fault c = rw c.in-Upf.is c.parse-in-Upf.ensures.fault
