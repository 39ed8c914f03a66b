use Rattle.std.proofs.Common.{◌≡◌, take}
use Rattle.pe_base.specs.Words.{each_pair}
use Rattle.pe_base.specs.Gates.{gate_of}
use Rattle.pe_base.proofs.words.bits.each_pair.Given as goal

abbrev pub invariant-loop-i : goal.invariant-loop-i
invariant-loop-i l = l.bits.items ≡ take l.i (each_pair (gate_of l.gate) l.a l.b)
