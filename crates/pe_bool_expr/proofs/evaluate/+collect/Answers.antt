use Rattle.std.proofs.Common.{sym}
use Rattle.pe_bool_expr.specs.Functions.{formula}
use Rattle.pe_bool_expr.proofs.Choosing.{collected_two}
use Rattle.pe_bool_expr.proofs.Formulas.{pins-two}
use Rattle.pe_bool_expr.proofs.evaluate.+collect.Goals as goal

pub returns-in-And : goal.returns-in-And
returns-in-And t c =
    let two = pins-two c.args.e.now c.in-And.first c.in-And.second c.in-And.is in
    let parts = rw (sym c.get-in-And.ensures, sym c.get-in-And-2.ensures) at two in
    collected_two c.args.values.now (formula c.args.e.now) (formula c.get-in-And.result.now) (formula c.get-in-And-2.result.now)
    c.args.corrupt.now.items c.collect-in-And.new.corrupt.items c.collect-in-And-2.new.corrupt.items parts c.collect-in-And.ensures c.collect-in-And-2.ensures
