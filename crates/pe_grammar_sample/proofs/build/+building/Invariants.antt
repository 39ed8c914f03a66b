use Rattle.std.proofs.Common.{◌≡◌, take}
use Rattle.std.specs.Prelude.{map}
use Rattle.pe_grammar.specs.Derivation.{derivation}
use Rattle.pe_grammar.specs.declared.tree.Tree.{size-Tree}
use Rattle.pe_grammar_sample.specs.Meaning.{statement_of}
use Rattle.pe_grammar_sample.proofs.build.+building.Given as goal

abbrev pub decreases-make_statement : goal.decreases-make_statement
decreases-make_statement l = size-Tree l.tree.now

abbrev pub decreases-make_block : goal.decreases-make_block
decreases-make_block l = size-Tree l.tree.now

abbrev pub decreases-make_test : goal.decreases-make_test
decreases-make_test l = size-Tree l.tree.now

abbrev pub decreases-make_otherwise : goal.decreases-make_otherwise
decreases-make_otherwise l = size-Tree l.tree.now

abbrev pub invariant-make_block-loop-item : goal.invariant-make_block-loop-item
invariant-make_block-loop-item l = l.all ≡ map (λ t. statement_of (derivation t)) (take l.item-index l.item-items)
