use Rattle.std.proofs.Common.{◌≡◌, take}
use Rattle.std.specs.Prelude.{map}
use Rattle.pe_grammar.specs.Derivation.{derivation}
use Rattle.pe_grammar.specs.declared.tree.Tree.{size-Tree}
use Rattle.pe_liberty_read.specs.Contents.{contents_of}
use Rattle.pe_liberty_read.specs.Meaning.{statement_of}
use Rattle.pe_liberty_read.proofs.build.+building.Given as goal

abbrev pub decreases-make_contents : goal.decreases-make_contents
decreases-make_contents l = size-Tree l.tree.now

abbrev pub decreases-make_statement : goal.decreases-make_statement
decreases-make_statement l = size-Tree l.tree.now

abbrev pub decreases-make_complex : goal.decreases-make_complex
decreases-make_complex l = size-Tree l.tree.now

abbrev pub decreases-make_body : goal.decreases-make_body
decreases-make_body l = size-Tree l.tree.now

abbrev pub invariant-make_contents-loop-item : goal.invariant-make_contents-loop-item
invariant-make_contents-loop-item l = l.contents ≡ contents_of (map (λ t. statement_of l.text l.tokens (derivation t)) (take l.item-index l.item-items))
