use Rattle.std.proofs.Common.{take}
use Rattle.pe_base.specs.Words.{all_known}
use Rattle.pe_graph.specs.Nodes.{Gives}
use Rattle.pe_rail_ops.specs.Rails.{rails_in}
use Rattle.pe_rail_ops.proofs.numbers.all_known.Given as goal

abbrev pub invariant-loop-i : goal.invariant-loop-i
invariant-loop-i l = Gives l.fn.graph l.graph (λ v. all_known (take l.i (rails_in v l.fn.graph l.a))) l.all
