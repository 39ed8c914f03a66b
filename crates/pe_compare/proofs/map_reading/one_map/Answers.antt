use Rattle.std.proofs.Common.{refl, ap, sym, ◌∙◌}
use Rattle.pe_grammar.proofs.Same.{from_table, to_table}
use Rattle.pe_grammar.proofs.Test.{deterministic}
use Rattle.pe_grammar.specs.Written.{rule}
use Rattle.pe_text.specs.declared.language.Lang.TheVariants.{Map}
use Rattle.pe_compare.specs.MapGrammar.{map_grammar}
use Rattle.pe_compare.specs.MapMeaning.{map_of}
use Rattle.pe_compare.specs.MapTerminals.{terminals_of}
use Rattle.pe_compare.specs.declared.map_table.TheConstants.{MAP, AT_MAP}
use Rattle.pe_compare.proofs.map_reading.one_map.Goals as goal

pub returns-clause-one : goal.returns-clause-one
returns-clause-one c = λ text g h p q.
    let same = c.one_reading.ensures.one Map terminals_of MAP AT_MAP text p.0 q.0 p.1 q.1 (deterministic MAP refl) p.2 q.2 in
    p.3 ∙ ap (λ tokens. map_of text tokens p.1) same.0 ∙ ap (map_of text q.0) same.1 ∙ sym q.3

pub returns-clause-not_both : goal.returns-clause-not_both
returns-clause-not_both c = λ text g f p h. c.one_reading.ensures.not_both Map terminals_of MAP AT_MAP text p.0 p.1 f p.2 h

pub returns-clause-one_fault : goal.returns-clause-one_fault
returns-clause-one_fault c = λ text f g x y p q. c.one_reading.ensures.one_fault Map terminals_of MAP AT_MAP text f g x y p q

pub returns-clause-written : goal.returns-clause-written
returns-clause-written c = λ d. (from_table MAP map_grammar refl d AT_MAP (rule 0) refl, to_table MAP map_grammar refl d AT_MAP (rule 0) refl)
