use Rattle.std.proofs.Common.{◌≡◌, ◌++◌, take}
use Rattle.std.specs.Prelude.{map}
use Rattle.pe_grammar.specs.Derivation.{derivation}
use Rattle.pe_grammar.specs.declared.tree.Tree.{size-Tree}
use Rattle.pe_verilog_read.specs.Targets.{behind_of}
use Rattle.pe_verilog_read.specs.Words.{word_at}
use Rattle.pe_verilog_read.proofs.target.+targets.Given as goal

abbrev pub decreases-make_target : goal.decreases-make_target
decreases-make_target l = size-Tree l.tree.now

abbrev pub decreases-make_targets : goal.decreases-make_targets
decreases-make_targets l = size-Tree l.tree.now

abbrev pub invariant-make_targets-loop-next : goal.invariant-make_targets-loop-next
invariant-make_targets-loop-next l = l.all ≡ l.initial.all ++ map (λ t. behind_of (word_at l.text l.tokens) (derivation t)) (take l.next-index l.rest)
