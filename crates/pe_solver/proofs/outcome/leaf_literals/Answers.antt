use Rattle.std.proofs.Common.{◌<◌, ap, arith, length}
use Rattle.pe_solver.specs.Prefix.{AreNamed}
use Rattle.pe_solver.proofs.Samples.{named_leaves}
use Rattle.pe_solver.proofs.Outcomes.{made_small}
use Rattle.pe_solver.proofs.outcome.leaf_literals.Goals as goal

pub of-requires : goal.of-requires
of-requires c =
    let lt : c.loop-leaf.leaf-index < length c.args.clauses.now.leaves = rw c.leaves-leaf-items.ensures at c.loop-leaf-test.true in
    let below = c.clauses_law.ensures.leaves_below c.loop-leaf.leaf-index lt in
    let small = made_small c.args.clauses.now c.requires.made in
    rw c.leaves-leaf-items.ensures (omega arith)

pub returns-clause-leaves : goal.returns-clause-leaves
returns-clause-leaves c = λ vars le.
    let i = c.loop-leaf.invariant in
    let size = ap length c.leaves-leaf-items.ensures in
    let named : AreNamed c.args.clauses.now.leaves c.loop-leaf.own.items = record {
      count = omega arith;
      each = λ k h. i.each k (omega arith);
    } in
    named_leaves c.args.clauses.now c.loop-leaf.own.items vars c.clauses_law.ensures.leaves_below c.requires.gated.leaves_are named le
