use Rattle.std.proofs.Common.{◌≡◌, ◌++◌, take}
use Rattle.std.specs.Prelude.{map}
use Rattle.pe_grammar.specs.declared.tree.Tree.{size-Tree}
use Rattle.pe_grammar.specs.Derivation.{derivation, text, repeated, done}
use Rattle.pe_upf_read.proofs.parts.+gather.Given as goal

abbrev pub decreases-gather : goal.decreases-gather
decreases-gather l = size-Tree l.tree.now

abbrev pub invariant-loop-item : goal.invariant-loop-item
invariant-loop-item l = l.all ≡ l.initial.all ++ text (repeated (map derivation (take l.item-index l.item-items)) done)
