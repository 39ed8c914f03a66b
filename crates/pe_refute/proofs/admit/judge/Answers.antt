use Rattle.std.proofs.Common.{arith, length}
use Rattle.pe_refute.specs.Entries.{IsJudged}
use Rattle.pe_refute.proofs.Judged.{within_wider, judged_proves}
use Rattle.pe_refute.proofs.admit.judge.Goals as goal

pub first_fault-requires-clause-within : goal.first_fault-requires-clause-within
first_fault-requires-clause-within c = within_wider c.vars_of.result _ c.args.evidence.now (omega arith) c.vars_of.ensures

pub returns-clause-judged : goal.returns-clause-judged
returns-clause-judged c = (c.in_ok-set.set, rw c.len.ensures at c.in_ok-set.ensures, c.first_fault.ensures.fault)

pub returns-clause-proved : goal.returns-clause-proved
returns-clause-proved c = λ is t.
    let n = length c.args.job.now.leaves in
    let j : IsJudged c.args.job.now.graph n c.args.eq.now c.args.cited.now c.args.evidence.now c.first_fault.result = (c.in_ok-set.set, rw c.len.ensures at c.in_ok-set.ensures, c.first_fault.ensures.fault) in
    judged_proves c.args.job.now.graph n c.args.eq.now c.args.cited.now c.args.evidence.now c.first_fault.result c.graph_law.ensures c.requires.goal c.requires.cited j is t
