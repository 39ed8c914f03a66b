use Rattle.pe_cells.proofs.Making.{signal_judges, signal_is}
use Rattle.pe_cells.proofs.signals.make_signal.Goals as goal

pub returns-clause-judged : goal.returns-clause-judged
returns-clause-judged c =
    signal_judges c.args.names.now c.args.group.now c.args.name.now c.is_output-output.result c.has_down-has_down.result c.args.faults.now c.read_if.new.faults c.read_if-2.new.faults
    c.is_output-output.ensures c.has_down-has_down.ensures c.in_ok-function.ensures.judged c.in_ok-down.ensures.judged

pub returns-clause-signal : goal.returns-clause-signal
returns-clause-signal c =
    signal_is c.args.names.now c.args.pgs.now c.args.group.now c.args.name.now c.in_ok-name.name c.is_output-output.result c.has_down-has_down.result
    c.in_ok-function.function c.in_ok-down.down c.in_ok-power.power c.in_ok-ground_pin.ground_pin c.read_if.new.faults c.read_if-2.new.faults
    c.is_output-output.ensures c.has_down-has_down.ensures c.in_ok-down.ensures.judged c.in_ok-function.ensures.function c.in_ok-down.ensures.function
    c.in_ok-power.ensures c.in_ok-ground_pin.ensures c.in_ok-name.ensures
