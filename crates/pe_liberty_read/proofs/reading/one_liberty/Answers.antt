use Rattle.std.proofs.Common.{refl, ap, sym, ◌∙◌}
use Rattle.pe_grammar.proofs.Same.{from_table, to_table}
use Rattle.pe_grammar.proofs.Test.{deterministic}
use Rattle.pe_grammar.specs.Written.{rule}
use Rattle.pe_text.specs.declared.language.Lang.TheVariants.{Liberty}
use Rattle.pe_liberty_read.specs.LibertyGrammar.{liberty_grammar}
use Rattle.pe_liberty_read.specs.Meaning.{group_of}
use Rattle.pe_liberty_read.specs.Terminals.{terminals_of}
use Rattle.pe_liberty_read.specs.declared.liberty_table.TheConstants.{LIBERTY, AT_LIBRARY}
use Rattle.pe_liberty_read.proofs.reading.one_liberty.Goals as goal

pub returns-clause-one : goal.returns-clause-one
returns-clause-one c = λ text g h p q.
    let same = c.one_reading.ensures.one Liberty terminals_of LIBERTY AT_LIBRARY text p.0 q.0 p.1 q.1 (deterministic LIBERTY refl) p.2 q.2 in
    p.3 ∙ ap (λ tokens. group_of text tokens p.1) same.0 ∙ ap (group_of text q.0) same.1 ∙ sym q.3

pub returns-clause-not_both : goal.returns-clause-not_both
returns-clause-not_both c = λ text g f p h. c.one_reading.ensures.not_both Liberty terminals_of LIBERTY AT_LIBRARY text p.0 p.1 f p.2 h

pub returns-clause-one_fault : goal.returns-clause-one_fault
returns-clause-one_fault c = λ text f g x y p q. c.one_reading.ensures.one_fault Liberty terminals_of LIBERTY AT_LIBRARY text f g x y p q

pub returns-clause-written : goal.returns-clause-written
returns-clause-written c = λ d. (from_table LIBERTY liberty_grammar refl d AT_LIBRARY (rule 0) refl, to_table LIBERTY liberty_grammar refl d AT_LIBRARY (rule 0) refl)
