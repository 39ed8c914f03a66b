use Rattle.pe_tool.proofs.refusals.add_read.Goals as goal

pub returns-in-Unsupported : goal.returns-in-Unsupported
returns-in-Unsupported c = rw c.in-Unsupported.is c.add_counted_named.ensures
