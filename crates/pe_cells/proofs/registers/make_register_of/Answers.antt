use Rattle.std.proofs.Common.{sym, subst, ap, ◌∙◌}
use Rattle.std.specs.Prelude.{Some, Option}
use Rattle.pe_cells.specs.declared.cell.CellRegister.{CellRegister}
use Rattle.pe_cells.specs.Viewing.{IsRegisterOf, clear_preset}
use Rattle.pe_cells.proofs.Making.{register_judges, register_is}
use Rattle.pe_cells.proofs.registers.make_register_of.Goals as goal

pub returns-clause-judged : goal.returns-clause-judged
returns-clause-judged c =
    register_judges c.args.names.now c.args.pins.now c.args.ff.now c.has_attr-has_clear.result c.has_attr-has_preset.result c.args.faults.now c.read.new.faults c.read-2.new.faults c.read_if.new.faults c.read_if-2.new.faults
    c.has_attr-has_clear.ensures c.has_attr-has_preset.ensures c.in_ok-next.ensures.judged c.in_ok-clock.ensures.judged c.in_ok-clear.ensures.judged c.in_ok-preset.ensures.judged

pub returns-clause-register : goal.returns-clause-register
returns-clause-register c = λ none.
    let P : Option CellRegister → Type 0 = λ r. IsRegisterOf c.args.names.now c.args.pins.now (Some c.args.ff.now) r in
    subst P (sym c.joined.ensures)
    (register_is c.args.names.now c.args.pins.now c.args.ff.now c.has_attr-has_clear.result c.has_attr-has_preset.result
    c.in_ok-next.next c.in_ok-clock.clock c.in_ok-clear.clear c.in_ok-preset.preset c.clear_preset-iq.result c.clear_preset-iqn.result
    c.read.new.faults c.read-2.new.faults c.read_if.new.faults c.read_if-2.new.faults
    c.has_attr-has_clear.ensures c.has_attr-has_preset.ensures c.in_ok-clock.ensures.judged c.in_ok-clear.ensures.judged c.in_ok-preset.ensures.judged
    c.in_ok-next.ensures.function c.in_ok-clock.ensures.function c.in_ok-clear.ensures.function c.in_ok-preset.ensures.function
    (c.clear_preset-iq.ensures ∙ ap clear_preset c.text.ensures) (c.clear_preset-iqn.ensures ∙ ap clear_preset c.text-2.ensures) none)
