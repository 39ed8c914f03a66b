use Rattle.std.proofs.Common.{◌≡◌, ◌++◌, take}
use Rattle.std.specs.Prelude.{map}
use Rattle.pe_grammar.specs.Derivation.{derivation}
use Rattle.pe_grammar.specs.Lists.{second_part}
use Rattle.pe_verilog_read.specs.Modules.{head_parameter_of}
use Rattle.pe_verilog_read.specs.Words.{word_at}
use Rattle.pe_verilog_read.proofs.head.make_head_parameters.Given as goal

abbrev pub invariant-loop-next : goal.invariant-loop-next
invariant-loop-next l = l.all ≡ l.initial.all ++ map (λ t. head_parameter_of (word_at l.text l.tokens) (second_part (derivation t))) (take l.next-index l.rest)
