use Rattle.std.proofs.Common.{◌≡◌, ◌++◌, drop}
use Rattle.std.specs.Prelude.{map}
use Rattle.pe_grammar.specs.Derivation.{derivation}
use Rattle.pe_upf_read.specs.Parts.{all}
use Rattle.pe_upf_read.specs.Options.{state_of}
use Rattle.pe_upf_read.proofs.options.all_states.Given as goal

abbrev pub invariant-loop-option : goal.invariant-loop-option
invariant-loop-option l =
    map (state_of l.text l.tokens) (all l.word (map derivation l.options)) ≡ l.states ++ map (state_of l.text l.tokens) (all l.word (map derivation (drop l.option-index l.options)))
