use Rattle.std.proofs.Common.{◌≡◌, take}
use Rattle.pe_supply.specs.Numbers.{names_in, numbers_in}
use Rattle.pe_supply.proofs.numbers.with_numbers.Given as goal

abbrev pub invariant-loop-i : goal.invariant-loop-i
invariant-loop-i l = record { names : names_in l.pairs ≡ take l.i l.names; numbers : numbers_in l.pairs ≡ take l.i l.numbers }
