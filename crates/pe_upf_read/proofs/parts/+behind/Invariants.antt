use Rattle.pe_upf_read.proofs.parts.+behind.Given as goal

abbrev pub decreases-behind : goal.decreases-behind
decreases-behind l = l.count
