use Rattle.std.proofs.Common.{◌≡◌, ◌++◌, ◌-◌, drop}
use Rattle.pe_verilog_read.specs.Numbers.{fitted}
use Rattle.pe_verilog_read.proofs.number.fit.Given as goal

abbrev pub invariant-loop-i : goal.invariant-loop-i
invariant-loop-i l = fitted l.size l.bits l.fill ≡ l.all ++ fitted (l.size - l.i) (drop l.i l.bits) l.fill
