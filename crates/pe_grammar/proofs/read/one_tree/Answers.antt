use Rattle.pe_grammar.proofs.Theory.{unique}
use Rattle.pe_grammar.proofs.read.one_tree.Goals as goal

pub returns : goal.returns
returns c = λ g n tokens d e ok p q. unique g ok n tokens d e p q
