use Rattle.std.proofs.Common.{◌-◌, length}
use Rattle.pe_rail_ops.proofs.ExtensionLemmas.{IsPassed}
use Rattle.pe_rail_ops.proofs.extension.pass.Given as goal

abbrev pub invariant-loop-fixed : goal.invariant-loop-fixed
invariant-loop-fixed l = IsPassed l.function l.count l.initial.fixed.items l.fixed.items

abbrev pub decreases-loop-fixed : goal.decreases-loop-fixed
decreases-loop-fixed l = l.count - length l.fixed.items
