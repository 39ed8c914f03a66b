use Rattle.std.proofs.Common.{◌≡◌, drop}
use Rattle.std.specs.Prelude.{map}
use Rattle.pe_grammar.specs.Derivation.{derivation}
use Rattle.pe_upf_read.specs.Parts.{find}
use Rattle.pe_upf_read.proofs.parts.find.Given as goal

abbrev pub invariant-loop-option : goal.invariant-loop-option
invariant-loop-option l = find l.word (map derivation l.options) ≡ find l.word (map derivation (drop l.option-index l.options))
