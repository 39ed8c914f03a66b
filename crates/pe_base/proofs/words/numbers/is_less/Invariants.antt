use Rattle.std.proofs.Common.{◌≡◌, take}
use Rattle.std.specs.Prelude.{nat_lt}
use Rattle.pe_base.specs.Words.{value_number}
use Rattle.pe_base.proofs.words.numbers.is_less.Given as goal

abbrev pub invariant-loop-i : goal.invariant-loop-i
invariant-loop-i l = l.less ≡ nat_lt (value_number (take l.i l.a)) (value_number (take l.i l.b))
