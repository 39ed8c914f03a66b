use Rattle.std.proofs.Common.{◌≡◌, ◌++◌, drop}
use Rattle.std.specs.Prelude.{map}
use Rattle.pe_grammar.specs.Derivation.{derivation}
use Rattle.pe_upf_read.specs.Meaning.{line_of}
use Rattle.pe_upf_read.proofs.build.make_lines.Given as goal

abbrev pub invariant-loop-line : goal.invariant-loop-line
invariant-loop-line l = map (line_of l.text l.tokens) (map derivation l.lines) ≡ l.commands ++ map (line_of l.text l.tokens) (map derivation (drop l.line-index l.lines))
