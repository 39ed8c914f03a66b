use Rattle.std.proofs.lemmas.List.{take_all}
use Rattle.pe_verilog_read.specs.Items.{reg_of}
use Rattle.pe_verilog_read.specs.Words.{word_at}
use Rattle.pe_verilog_read.proofs.Building.{values_shape}
use Rattle.pe_verilog_read.proofs.item.make_reg_list.Goals as goal

pub returns : goal.returns
returns c =
    values_shape (reg_of (word_at c.args.text.now c.args.tokens.now)) _ _ _ _ _ _ _ _ c.listed.ensures.is c.in_ok-make_reg.ensures c.new-all.ensures c.in_ok-push.ensures.ok (take_all _ _ c.loop-next-test.false) c.loop-next.invariant
