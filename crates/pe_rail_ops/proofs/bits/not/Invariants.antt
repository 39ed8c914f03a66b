use Rattle.std.proofs.Common.{take}
use Rattle.pe_base.specs.Words.{not_bits}
use Rattle.pe_rail_ops.specs.Rails.{GivesRails, rails_in}
use Rattle.pe_rail_ops.proofs.bits.not.Given as goal

abbrev pub invariant-loop-i : goal.invariant-loop-i
invariant-loop-i l = GivesRails l.graph l.graph (λ v. not_bits (take l.i (rails_in v l.graph l.a))) l.bits
