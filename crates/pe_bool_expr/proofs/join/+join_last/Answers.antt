use Rattle.std.proofs.Common.{◌≡◌, ◌≤◌, ◌++◌, ◌∷◌, [], Option, Some, None, List, arith, ap, ◌∙◌}
use Rattle.std.specs.Prelude.{MatchOption}
use Rattle.pe_bool_expr.specs.declared.expr.Expr.{Expr}
use Rattle.pe_bool_expr.proofs.Halving.{joined_last, last_alone}
use Rattle.pe_bool_expr.proofs.join.+join_last.Goals as goal

-- what was popped is the last
popped : (xs ys : List Expr) (o : Option Expr) (e : Expr) → o ≡ Some e → MatchOption o ((xs ≡ []) × (ys ≡ [])) (λ last. xs ≡ ys ++ last ∷ []) → xs ≡ ys ++ e ∷ []
popped xs ys (Some f) e p h = let same : f ≡ e = cc in h ∙ ap (λ x. ys ++ x ∷ []) same
popped xs ys None e p h = absurd (cc)

pub returns-then-count-eq1-clause-tree : goal.returns-then-count-eq1-clause-tree
returns-then-count-eq1-clause-tree t c =
    let whole = popped c.args.operands.now c.pop.new.self c.pop.result c.unwrap.result c.unwrap.ensures c.pop.ensures in
    rw c.if-count-eq1.true (last_alone c.args.operator c.args.operands.now c.pop.new.self c.unwrap.result whole)

pub returns-clause-tree : goal.returns-clause-tree
returns-clause-tree t c =
    let two : 2 ≤ c.args.count = omega (arith, c.requires.some, c.if-count-eq1.false) in
    joined_last c.args.operator c.args.operands.now c.join_last.new.operands c.args.count c.in_ok-first.first c.in_ok-second.second c.in_ok-whole.whole two c.requires.enough
    c.in_ok-second.ensures.kept c.in_ok-second.ensures.tree c.in_ok-first.ensures.tree c.in_ok-whole.ensures
