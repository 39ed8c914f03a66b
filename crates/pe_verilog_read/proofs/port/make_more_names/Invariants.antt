use Rattle.std.proofs.Common.{◌≡◌, take}
use Rattle.std.specs.Prelude.{map}
use Rattle.pe_grammar.specs.Derivation.{derivation}
use Rattle.pe_grammar.specs.Lists.{second_part}
use Rattle.pe_verilog_read.specs.Leaves.{name_of}
use Rattle.pe_verilog_read.specs.Words.{word_at}
use Rattle.pe_verilog_read.proofs.port.make_more_names.Given as goal

abbrev pub invariant-loop-next : goal.invariant-loop-next
invariant-loop-next l = l.all ≡ map (λ t. name_of (word_at l.text l.tokens) (second_part (derivation t))) (take l.next-index l.next-items)
