use Rattle.pe_verilog_read.proofs.Answering.{answered, is_found, is_refused}
use Rattle.pe_verilog_read.proofs.reading.read_verilog.Goals as goal

pub returns-clause-found : goal.returns-clause-found
returns-clause-found c = is_found c.args.lang c.args.text.now c.read.result c.read.ensures

pub returns-clause-only : goal.returns-clause-only
returns-clause-only c = answered c.args.lang c.args.text.now c.read.result c.read.ensures

pub returns-clause-fault : goal.returns-clause-fault
returns-clause-fault c = is_refused c.args.lang c.args.text.now c.read.result c.read.ensures
