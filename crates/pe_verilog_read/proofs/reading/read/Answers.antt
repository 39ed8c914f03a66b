use Rattle.std.proofs.Common.{inl}
use Rattle.pe_verilog_read.proofs.Answering.{of_tokens}
use Rattle.pe_verilog_read.proofs.reading.read.Goals as goal

pub returns-in-Ok : goal.returns-in-Ok
returns-in-Ok c = of_tokens c.args.lang c.args.text.now _ _ c.read_tokens.ensures

pub returns-in-Err : goal.returns-in-Err
returns-in-Err c = inl c.in-Err.ensures.fault
