use Rattle.std.proofs.Common.{take}
use Rattle.std.specs.Prelude.{map}
use Rattle.pe_base.specs.Words.{is_one}
use Rattle.pe_base.proofs.Numbers.{IsSum}
use Rattle.pe_base.proofs.words.numbers.sum.Given as goal

abbrev pub invariant-loop-i : goal.invariant-loop-i
invariant-loop-i l = IsSum (map is_one (take l.i l.a)) (map is_one (take l.i l.b)) l.carry_in l.sums.items l.carry
