use Rattle.std.proofs.Common.{arith, refl, false}
use Rattle.pe_cnf.proofs.MarkLemmas.{not_both}
use Rattle.pe_cnf.proofs.LeafLemmas.{leaf_found}
use Rattle.pe_cnf.proofs.plain.has_leaf.Goals as goal

pub returns : goal.returns
returns c = (
  λ t. absurd (not_both false t refl),
  λ h. let r = leaf_found c.args.graph.now c.args.number h in let lt = r.1 in absurd (c.loop-x.invariant r.0 (omega arith) r.2),
)
