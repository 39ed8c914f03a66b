use Rattle.std.proofs.Common.{take}
use Rattle.std.specs.Prelude.{fold}
use Rattle.pe_rail_ops.specs.Gates.{gate_in}
use Rattle.pe_rail_ops.specs.Rails.{GivesRail, rails_in}
use Rattle.pe_rail_ops.proofs.gate.Gate.of_all.Given as goal

abbrev pub invariant-loop-i : goal.invariant-loop-i
invariant-loop-i l = GivesRail l.fn.graph l.graph (λ v. fold (gate_in v l.fn.graph l.self) l.fn.first (take l.i (rails_in v l.fn.graph l.a))) l.all
