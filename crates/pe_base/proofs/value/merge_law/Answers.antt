use Rattle.pe_base.proofs.Exact.{merge_over_law}
use Rattle.pe_base.proofs.value.merge_law.Goals as goal

pub returns : goal.returns
returns c = merge_over_law
