use Rattle.pe_reader.proofs.Readings.{few_tokens}
use Rattle.pe_reader.proofs.laws.few_tokens.Goals as goal

pub returns : goal.returns
returns c = few_tokens
