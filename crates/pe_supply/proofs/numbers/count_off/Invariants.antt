use Rattle.pe_supply.proofs.Counting.{IsCounting}
use Rattle.pe_supply.proofs.numbers.count_off.Given as goal

abbrev pub invariant-loop-k : goal.invariant-loop-k
invariant-loop-k l = IsCounting l.labels l.k l.numbers l.count
