use Rattle.std.proofs.Common.{refl}
use Rattle.std.proofs.lemmas.List.{take_all}
use Rattle.pe_verilog_read.specs.Modules.{item_by, items_of}
use Rattle.pe_verilog_read.specs.Words.{word_at}
use Rattle.pe_verilog_read.proofs.Building.{repeated_shape}
use Rattle.pe_verilog_read.proofs.module.make_items.Goals as goal

pub returns : goal.returns
returns c =
    repeated_shape (item_by (word_at c.args.text.now c.args.tokens.now) c.args.places.now.net) (items_of (word_at c.args.text.now c.args.tokens.now) c.args.places.now.net) refl (λ a b. refl) _ _ _ _ c.items-next-items.ensures.is (take_all _ _ c.loop-next-test.false) c.loop-next.invariant
