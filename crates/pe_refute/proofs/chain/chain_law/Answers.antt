use Rattle.pe_refute.proofs.ChainLaw.{chain_refutes}
use Rattle.pe_refute.proofs.chain.chain_law.Goals as goal

pub returns : goal.returns
returns c = chain_refutes
