use Rattle.std.proofs.Common.{◌≡◌, ◌++◌, drop}
use Rattle.std.specs.Prelude.{map}
use Rattle.pe_grammar.specs.Derivation.{derivation}
use Rattle.pe_upf_read.specs.Parts.{all}
use Rattle.pe_upf_read.specs.Options.{two_of}
use Rattle.pe_upf_read.proofs.options.all_twos.Given as goal

abbrev pub invariant-loop-option : goal.invariant-loop-option
invariant-loop-option l =
    map (two_of l.text l.tokens) (all l.word (map derivation l.options)) ≡ l.twos ++ map (two_of l.text l.tokens) (all l.word (map derivation (drop l.option-index l.options)))
