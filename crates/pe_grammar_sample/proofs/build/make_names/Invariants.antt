use Rattle.std.proofs.Common.{◌≡◌, ◌++◌, take}
use Rattle.std.specs.Prelude.{map}
use Rattle.pe_grammar.specs.Derivation.{derivation}
use Rattle.pe_grammar.specs.Lists.{second_part}
use Rattle.pe_grammar_sample.specs.Meaning.{name_of}
use Rattle.pe_grammar_sample.proofs.build.make_names.Given as goal

abbrev pub invariant-loop-next : goal.invariant-loop-next
invariant-loop-next l = l.names ≡ l.initial.names ++ map (λ t. name_of (second_part (derivation t))) (take l.next-index l.rest)
