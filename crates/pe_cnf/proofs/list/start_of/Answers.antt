use Rattle.std.proofs.Common.{sym, arith}
use Rattle.pe_cnf.proofs.PartsLemmas.{start_is}
use Rattle.pe_cnf.proofs.list.start_of.Goals as goal

pub returns-else-id-eq0 : goal.returns-else-id-eq0
returns-else-id-eq0 c = sym (start_is 0 c.args.ends.now c.args.id (omega arith) c.requires)
