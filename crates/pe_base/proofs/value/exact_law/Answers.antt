use Rattle.pe_base.proofs.Exact.{exact_extension_law}
use Rattle.pe_base.proofs.value.exact_law.Goals as goal

pub returns : goal.returns
returns c = exact_extension_law
