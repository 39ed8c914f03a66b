use Rattle.std.proofs.Common.{◌≡◌, arith, refl, false, get_or}
use Rattle.std.proofs.lemmas.List.{get_or_read}
use Rattle.pe_refute.proofs.Sight.{has_at}
use Rattle.pe_refute.proofs.Walk.{false_is_true}
use Rattle.pe_solver.proofs.lessons.are_below.Goals as goal

pub returns-then-var-limit : goal.returns-then-var-limit
returns-then-var-limit c =
    let item : c.l-item.result ≡ get_or c.args.clause.now c.loop-l.l-index 0 = get_or_read c.args.clause.now c.loop-l.l-index _ c.loop-l-test.true c.l-item.is 0 in (
      λ t. absurd (false_is_true false refl t),
      λ b. absurd (omega (arith, b _ (has_at c.args.clause.now c.loop-l.l-index c.loop-l-test.true), c.var.ensures, item)),
    )
