use Rattle.std.proofs.Common.{◌≡◌, ◌++◌, drop}
use Rattle.std.specs.Prelude.{map}
use Rattle.pe_grammar.specs.Derivation.{derivation, repeated, done}
use Rattle.pe_grammar.specs.Grammar.{Derives}
use Rattle.pe_verilog_read.specs.Modules.{carried}
use Rattle.pe_verilog_read.specs.Words.{word_at}
use Rattle.pe_verilog_read.specs.declared.verilog_table.TheConstants.{VERILOG, AT_PORT}
use Rattle.pe_verilog_read.proofs.head.make_head_ports.Given as goal

abbrev pub invariant-loop-next : goal.invariant-loop-next
invariant-loop-next l = record {
  derives : Derives VERILOG AT_PORT (derivation l.last);
  so_far :
      l.initial.all ++ carried (word_at l.text l.tokens) (derivation l.initial.last) (repeated (map derivation l.rest) done)
      ≡ l.all ++ carried (word_at l.text l.tokens) (derivation l.last) (repeated (map derivation (drop l.next-index l.rest)) done);
}
