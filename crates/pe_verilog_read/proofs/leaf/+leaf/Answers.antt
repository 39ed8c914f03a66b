use Rattle.pe_verilog_read.proofs.Terminals.{of_pair, of_present, of_repeat}
use Rattle.pe_verilog_read.proofs.leaf.+leaf.Goals as goal

pub returns-in-Pair : goal.returns-in-Pair
returns-in-Pair t c = of_pair _ _ _ c.no_token-in-Pair.ensures c.in-Pair.is

pub returns-in-Present : goal.returns-in-Present
returns-in-Present t c = of_present _ _ _ c.no_token-in-Present.ensures c.in-Present.is

pub returns-in-Repeat : goal.returns-in-Repeat
returns-in-Repeat t c = of_repeat _ _ _ c.no_token-in-Repeat.ensures c.in-Repeat.is
