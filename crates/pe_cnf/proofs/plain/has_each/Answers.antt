use Rattle.std.proofs.Common.{arith, refl, false, below_more}
use Rattle.pe_cnf.proofs.MarkLemmas.{not_both}
use Rattle.pe_cnf.proofs.plain.has_each.Goals as goal

pub returns-then-not-has_leaf : goal.returns-then-not-has_leaf
returns-then-not-has_leaf c = (
  λ t. absurd (not_both false t refl),
  λ h. absurd (not_both c.has_leaf.result (c.has_leaf.ensures.1 (h c.loop-number.number (omega arith))) c.if-not-has_leaf.true),
)

pub loop-number-preserved : goal.loop-number-preserved
loop-number-preserved c = below_more _ _ c.loop-number.invariant (c.has_leaf.ensures.0 c.if-not-has_leaf.false)
