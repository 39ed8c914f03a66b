use Rattle.std.proofs.Common.{◌≡◌, ◌+◌, ◌*◌, ◌++◌, take}
use Rattle.std.specs.Prelude.{map}
use Rattle.pe_grammar.specs.Derivation.{derivation}
use Rattle.pe_grammar.specs.declared.tree.Tree.{size-Tree}
use Rattle.pe_verilog_read.specs.Expressions.{operand_of, behind_of}
use Rattle.pe_verilog_read.specs.Words.{word_at}
use Rattle.pe_verilog_read.proofs.expression.+expressions.Given as goal

abbrev pub invariant-make_operands-loop-next : goal.invariant-make_operands-loop-next
invariant-make_operands-loop-next l = l.more ≡ l.initial.more ++ map (λ t. operand_of (word_at l.text l.tokens) l.levels (derivation t)) (take l.next-index l.rest)

abbrev pub invariant-make_others-loop-next : goal.invariant-make_others-loop-next
invariant-make_others-loop-next l = l.all ≡ l.initial.all ++ map (λ t. behind_of (word_at l.text l.tokens) (derivation t)) (take l.next-index l.next-items)

abbrev pub decreases-make_ex : goal.decreases-make_ex
decreases-make_ex l = 2 * size-Tree l.tree.now

abbrev pub decreases-make_sides : goal.decreases-make_sides
decreases-make_sides l = 2 * size-Tree l.tree.now

abbrev pub decreases-make_operands : goal.decreases-make_operands
decreases-make_operands l = 2 * size-Tree l.tree.now

abbrev pub decreases-make_unary : goal.decreases-make_unary
decreases-make_unary l = 2 * size-Tree l.tree.now

abbrev pub decreases-make_primary : goal.decreases-make_primary
decreases-make_primary l = 2 * size-Tree l.tree.now

abbrev pub decreases-make_braces : goal.decreases-make_braces
decreases-make_braces l = 2 * size-Tree l.tree.now

abbrev pub decreases-make_inner : goal.decreases-make_inner
decreases-make_inner l = 2 * size-Tree l.tree.now

abbrev pub decreases-make_list : goal.decreases-make_list
decreases-make_list l = 2 * size-Tree l.tree.now

abbrev pub decreases-make_others : goal.decreases-make_others
decreases-make_others l = 2 * size-Tree l.tree.now

abbrev pub decreases-make_operand : goal.decreases-make_operand
decreases-make_operand l = 2 * size-Tree l.tree.now

abbrev pub decreases-make_named : goal.decreases-make_named
decreases-make_named l = 2 * size-Tree l.tree.now

abbrev pub decreases-make_select : goal.decreases-make_select
decreases-make_select l = 2 * size-Tree l.tree.now

abbrev pub decreases-make_upto : goal.decreases-make_upto
decreases-make_upto l = 2 * size-Tree l.tree.now

abbrev pub decreases-make_level : goal.decreases-make_level
decreases-make_level l = 2 * size-Tree l.tree.now + 1
