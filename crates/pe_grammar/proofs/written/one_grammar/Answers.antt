use Rattle.pe_grammar.proofs.Same.{to_table, from_table}
use Rattle.pe_grammar.proofs.written.one_grammar.Goals as goal

pub returns : goal.returns
returns c = λ g rs ok n e h d. (from_table g rs ok d n e h, to_table g rs ok d n e h)
