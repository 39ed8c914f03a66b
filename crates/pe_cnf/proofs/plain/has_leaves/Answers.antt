use Rattle.std.proofs.Common.{arith, refl}
use Rattle.pe_cnf.proofs.LeafLemmas.{no_leaf_past}
use Rattle.pe_cnf.proofs.plain.has_leaves.Goals as goal

pub returns : goal.returns
returns c = (
  λ t x k e. let lt = no_leaf_past c.args.graph.now x k e in c.loop-x.invariant x k (omega arith) e,
  λ h. refl,
)
