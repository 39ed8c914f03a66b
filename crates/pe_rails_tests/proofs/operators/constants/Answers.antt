use Rattle.std.proofs.lemmas.List.Elements.{All-push}
use Rattle.pe_rail_ops.specs.Rails.{IsRail}
use Rattle.pe_rails_tests.proofs.operators.constants.Goals as goal

pub loop-i-preserved : goal.loop-i-preserved
loop-i-preserved c = rw c.in_ok-push.ensures.ok (All-push (IsRail _) _ _ c.loop-i.invariant (c.constant.ensures.is_rail _ c.graph_law.ensures))
