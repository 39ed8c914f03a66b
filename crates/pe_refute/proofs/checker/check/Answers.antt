use Rattle.pe_refute.proofs.Judged.{good_at, evidence_proves}
use Rattle.pe_refute.proofs.checker.check.Goals as goal

pub returns-clause-good : goal.returns-clause-good
returns-clause-good c = good_at c.args.clauses.now c.args.evidence.now c.first_fault.result c.is_none.result c.is_none.ensures c.first_fault.ensures.fault

pub returns-clause-proves : goal.returns-clause-proves
returns-clause-proves c = λ t. evidence_proves c.args.clauses.now c.args.evidence.now ((good_at c.args.clauses.now c.args.evidence.now c.first_fault.result c.is_none.result c.is_none.ensures c.first_fault.ensures.fault).0 t)
