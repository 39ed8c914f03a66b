use Rattle.std.proofs.Common.{refl}
use Rattle.pe_grammar.specs.Written.{rule}
use Rattle.pe_grammar.proofs.Same.{from_table, to_table}
use Rattle.pe_grammar_sample.specs.Boolean.{boolean_grammar}
use Rattle.pe_grammar_sample.specs.declared.boolean_table.TheConstants.{BOOLEAN, AT_SUM}
use Rattle.pe_grammar_sample.proofs.boolean.one_boolean.Goals as goal

pub returns : goal.returns
returns c = λ d. (from_table BOOLEAN boolean_grammar refl d AT_SUM (rule 0) refl, to_table BOOLEAN boolean_grammar refl d AT_SUM (rule 0) refl)
