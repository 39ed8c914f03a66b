use Rattle.std.proofs.Common.{◌≡◌, ◌++◌, drop}
use Rattle.std.specs.Prelude.{map}
use Rattle.pe_grammar.specs.Derivation.{derivation}
use Rattle.pe_upf_read.specs.Parts.{all}
use Rattle.pe_upf_read.specs.Options.{off_of}
use Rattle.pe_upf_read.proofs.options.all_off.Given as goal

abbrev pub invariant-loop-option : goal.invariant-loop-option
invariant-loop-option l =
    map (off_of l.text l.tokens) (all l.word (map derivation l.options)) ≡ l.off ++ map (off_of l.text l.tokens) (all l.word (map derivation (drop l.option-index l.options)))
