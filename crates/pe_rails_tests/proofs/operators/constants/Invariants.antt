use Rattle.std.specs.Prelude.{All}
use Rattle.pe_rail_ops.specs.Rails.{IsRail}
use Rattle.pe_rails_tests.proofs.operators.constants.Given as goal

abbrev pub invariant-loop-i : goal.invariant-loop-i
invariant-loop-i l = All (IsRail l.graph) l.rails
