use Rattle.std.proofs.Common.{◌≡◌, ◌++◌, take}
use Rattle.std.specs.Prelude.{map}
use Rattle.pe_grammar.specs.Derivation.{derivation}
use Rattle.pe_grammar.specs.declared.tree.Tree.{size-Tree}
use Rattle.pe_verilog_read.specs.Statements.{statement_of, arm_of}
use Rattle.pe_verilog_read.specs.Words.{word_at}
use Rattle.pe_verilog_read.proofs.statement.+statements.Given as goal

abbrev pub invariant-make_block-loop-item : goal.invariant-make_block-loop-item
invariant-make_block-loop-item l = l.body ≡ map (λ t. statement_of (word_at l.text l.tokens) (derivation t)) (take l.item-index l.item-items)

abbrev pub invariant-make_arms-loop-next : goal.invariant-make_arms-loop-next
invariant-make_arms-loop-next l = l.all ≡ l.initial.all ++ map (λ t. arm_of (word_at l.text l.tokens) (derivation t)) (take l.next-index l.next-items)

abbrev pub decreases-make_statement : goal.decreases-make_statement
decreases-make_statement l = size-Tree l.tree.now

abbrev pub decreases-make_block : goal.decreases-make_block
decreases-make_block l = size-Tree l.tree.now

abbrev pub decreases-make_test : goal.decreases-make_test
decreases-make_test l = size-Tree l.tree.now

abbrev pub decreases-make_otherwise : goal.decreases-make_otherwise
decreases-make_otherwise l = size-Tree l.tree.now

abbrev pub decreases-make_cases : goal.decreases-make_cases
decreases-make_cases l = size-Tree l.tree.now

abbrev pub decreases-make_wild_cases : goal.decreases-make_wild_cases
decreases-make_wild_cases l = size-Tree l.tree.now

abbrev pub decreases-make_arms : goal.decreases-make_arms
decreases-make_arms l = size-Tree l.tree.now

abbrev pub decreases-make_arm : goal.decreases-make_arm
decreases-make_arm l = size-Tree l.tree.now

abbrev pub decreases-make_labelled : goal.decreases-make_labelled
decreases-make_labelled l = size-Tree l.tree.now

abbrev pub decreases-make_default : goal.decreases-make_default
decreases-make_default l = size-Tree l.tree.now
