use Rattle.std.proofs.Common.{take}
use Rattle.std.specs.Prelude.{nat_lt}
use Rattle.pe_base.specs.Words.{value_number}
use Rattle.pe_graph.specs.Nodes.{Gives}
use Rattle.pe_rail_ops.specs.Rails.{rails_in}
use Rattle.pe_rail_ops.proofs.numbers.is_less.Given as goal

abbrev pub invariant-loop-i : goal.invariant-loop-i
invariant-loop-i l = Gives l.fn.graph l.graph (λ v. nat_lt (value_number (take l.i (rails_in v l.fn.graph l.a))) (value_number (take l.i (rails_in v l.fn.graph l.b)))) l.less
