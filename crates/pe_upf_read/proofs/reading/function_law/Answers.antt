use Rattle.pe_upf_read.proofs.Functions.{by_format, by_grammar}
use Rattle.pe_upf_read.proofs.reading.function_law.Goals as goal

pub returns : goal.returns
returns c = record { by_rule = λ text tokens name ts said. (by_format text tokens name ts said, by_grammar text tokens name ts said) }
