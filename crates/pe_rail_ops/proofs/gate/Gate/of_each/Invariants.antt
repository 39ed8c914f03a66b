use Rattle.std.proofs.Common.{take}
use Rattle.pe_base.specs.Words.{each_pair}
use Rattle.pe_rail_ops.specs.Gates.{gate_in}
use Rattle.pe_rail_ops.specs.Rails.{GivesRails, rails_in}
use Rattle.pe_rail_ops.proofs.gate.Gate.of_each.Given as goal

abbrev pub invariant-loop-i : goal.invariant-loop-i
invariant-loop-i l = GivesRails l.fn.graph l.graph (λ v. take l.i (each_pair (gate_in v l.fn.graph l.self) (rails_in v l.fn.graph l.a) (rails_in v l.fn.graph l.b))) l.bits
