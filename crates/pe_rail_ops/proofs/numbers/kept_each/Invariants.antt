use Rattle.std.proofs.Common.{take}
use Rattle.std.specs.Prelude.{map}
use Rattle.pe_base.specs.Registers.{kept_of}
use Rattle.pe_graph.specs.Nodes.{value_in}
use Rattle.pe_rail_ops.specs.Rails.{GivesRails, rails_in}
use Rattle.pe_rail_ops.proofs.numbers.kept_each.Given as goal

abbrev pub invariant-loop-i : goal.invariant-loop-i
invariant-loop-i l = GivesRails l.fn.graph l.graph (λ v. map (kept_of (value_in v l.fn.graph l.on)) (take l.i (rails_in v l.fn.graph l.a))) l.bits
