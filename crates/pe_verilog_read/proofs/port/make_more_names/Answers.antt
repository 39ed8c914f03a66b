use Rattle.std.proofs.lemmas.List.{take_all}
use Rattle.pe_verilog_read.specs.Words.{word_at}
use Rattle.pe_verilog_read.proofs.Building.{more_names_shape}
use Rattle.pe_verilog_read.proofs.port.make_more_names.Goals as goal

pub returns : goal.returns
returns c =
    more_names_shape (word_at c.args.text.now c.args.tokens.now) _ _ _ _ c.items-next-items.ensures.is (take_all _ _ c.loop-next-test.false) c.loop-next.invariant
