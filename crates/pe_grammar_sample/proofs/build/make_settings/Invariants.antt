use Rattle.std.proofs.Common.{◌≡◌, take}
use Rattle.std.specs.Prelude.{map}
use Rattle.pe_grammar.specs.Derivation.{derivation}
use Rattle.pe_grammar_sample.specs.Meaning.{setting_of}
use Rattle.pe_grammar_sample.proofs.build.make_settings.Given as goal

abbrev pub invariant-loop-option : goal.invariant-loop-option
invariant-loop-option l = l.all ≡ map (λ t. setting_of (derivation t)) (take l.option-index l.option-items)
