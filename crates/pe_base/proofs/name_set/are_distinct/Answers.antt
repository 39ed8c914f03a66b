use Rattle.std.proofs.Common.{◌≤◌, length, arith}
use Rattle.pe_base.proofs.NameSets.{repeated}
use Rattle.pe_base.proofs.name_set.are_distinct.Goals as goal

pub returns-then-not-branch : goal.returns-then-not-branch
returns-then-not-branch c =
    let within : c.loop-i.i ≤ length c.args.names.now = omega arith in
    repeated c.args.names.now c.loop-i.behind c.loop-i.i c.index-names-i.result _ c.loop-i-test.true within c.index-names-i.is c.loop-i.invariant.same c.if-not-branch.true (rw c.bytes.ensures at c.in_ok-insert.ensures.new)
