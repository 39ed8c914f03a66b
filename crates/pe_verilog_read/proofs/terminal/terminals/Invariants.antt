use Rattle.std.proofs.Common.{◌≡◌, ◌++◌, drop}
use Rattle.pe_verilog_read.specs.Terminals.{terminals_from}
use Rattle.pe_verilog_read.proofs.terminal.terminals.Given as goal

abbrev pub invariant-loop-i : goal.invariant-loop-i
invariant-loop-i l = terminals_from l.text 0 l.tokens ≡ l.all ++ terminals_from l.text l.i (drop l.i l.tokens)
