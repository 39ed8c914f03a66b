use Rattle.pe_verilog_read.proofs.Digits.{bits_end}
use Rattle.pe_verilog_read.proofs.number.decimal.Goals as goal

pub returns : goal.returns
returns c = bits_end _ _ c.args.size _ _ c.requires c.new-bits.ensures c.in_ok-add_bits.ensures c.value.ensures
