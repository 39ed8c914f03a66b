use Rattle.std.proofs.Common.{◌≡◌, ◌++◌, drop}
use Rattle.std.specs.Prelude.{map}
use Rattle.pe_grammar.specs.Derivation.{derivation}
use Rattle.pe_upf_read.specs.Names.{piece_of}
use Rattle.pe_upf_read.proofs.build.make_pieces.Given as goal

abbrev pub invariant-loop-tree : goal.invariant-loop-tree
invariant-loop-tree l = map (piece_of l.text l.tokens) (map derivation l.trees) ≡ l.words ++ map (piece_of l.text l.tokens) (map derivation (drop l.tree-index l.trees))
