use Rattle.std.proofs.Common.{◌≡◌, take}
use Rattle.std.specs.Prelude.{map}
use Rattle.pe_grammar.specs.Derivation.{derivation}
use Rattle.pe_verilog_read.specs.Modules.{module_of}
use Rattle.pe_verilog_read.specs.Words.{word_at}
use Rattle.pe_verilog_read.proofs.module.make_source.Given as goal

abbrev pub invariant-loop-next : goal.invariant-loop-next
invariant-loop-next l = l.modules ≡ map (λ t. module_of (word_at l.text l.tokens) l.places.net (derivation t)) (take l.next-index l.next-items)
