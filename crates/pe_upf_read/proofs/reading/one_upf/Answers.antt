use Rattle.std.proofs.Common.{refl}
use Rattle.pe_grammar.specs.Written.{rule}
use Rattle.pe_grammar.proofs.Same.{from_table, to_table}
use Rattle.pe_text.specs.declared.language.Lang.TheVariants.{Upf}
use Rattle.pe_upf_read.specs.UpfGrammar.{upf_grammar}
use Rattle.pe_upf_read.specs.Terminals.{terminals_of}
use Rattle.pe_upf_read.specs.declared.table.TheConstants.{UPF, AT_FILE}
use Rattle.pe_reader.proofs.Readings.{one_fault}
use Rattle.pe_upf_read.proofs.Spellings.{one_intent, no_fault}
use Rattle.pe_upf_read.proofs.reading.one_upf.Goals as goal

pub returns-clause-one : goal.returns-clause-one
returns-clause-one c = one_intent

pub returns-clause-not_both : goal.returns-clause-not_both
returns-clause-not_both c = no_fault

pub returns-clause-one_fault : goal.returns-clause-one_fault
returns-clause-one_fault c = λ text f g h k m n. one_fault Upf terminals_of UPF AT_FILE text f g m n h k

pub returns-clause-written : goal.returns-clause-written
returns-clause-written c = λ d. (from_table UPF upf_grammar refl d AT_FILE (rule 0) refl, to_table UPF upf_grammar refl d AT_FILE (rule 0) refl)
