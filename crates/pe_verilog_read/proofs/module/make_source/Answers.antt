use Rattle.std.proofs.Common.{refl, ap}
use Rattle.std.proofs.lemmas.List.{take_all}
use Rattle.pe_verilog_read.specs.Modules.{module_of, modules_of}
use Rattle.pe_verilog_read.specs.Words.{word_at}
use Rattle.pe_verilog_read.proofs.Building.{repeated_shape}
use Rattle.pe_verilog_read.proofs.module.make_source.Goals as goal

pub returns : goal.returns
returns c =
    ap (λ ms. record { modules = ms })
    (repeated_shape (module_of (word_at c.args.text.now c.args.tokens.now) c.args.places.now.net) (modules_of (word_at c.args.text.now c.args.tokens.now) c.args.places.now.net) refl (λ a b. refl) _ _ _ _ c.items-next-items.ensures.is (take_all _ _ c.loop-next-test.false) c.loop-next.invariant)
