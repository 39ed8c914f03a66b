use Rattle.std.proofs.Common.{◌≡◌, ◌++◌, take}
use Rattle.std.specs.Prelude.{map}
use Rattle.pe_grammar.specs.Derivation.{derivation}
use Rattle.pe_grammar.specs.declared.tree.Tree.{size-Tree}
use Rattle.pe_verilog_read.specs.Targets.{next_connected_of}
use Rattle.pe_verilog_read.specs.Words.{word_at}
use Rattle.pe_verilog_read.proofs.target.+simple.Given as goal

abbrev pub decreases-make_simple : goal.decreases-make_simple
decreases-make_simple l = size-Tree l.tree.now

abbrev pub decreases-make_simples : goal.decreases-make_simples
decreases-make_simples l = size-Tree l.tree.now

abbrev pub invariant-make_simples-loop-next : goal.invariant-make_simples-loop-next
invariant-make_simples-loop-next l = l.all ≡ l.initial.all ++ map (λ t. next_connected_of (word_at l.text l.tokens) (derivation t)) (take l.next-index l.rest)
