use Rattle.std.proofs.Common.{◌≡◌, ◌<◌, length, false, sym, ◌∙◌, arith}
use Rattle.pe_bool_expr.specs.Functions.{pins_of, is_among}
use Rattle.pe_rail_ops.proofs.ExtensionLemmas.{passed_more}
use Rattle.pe_rail_ops.proofs.extension.pass.Goals as goal

pub loop-fixed-preserved : goal.loop-fixed-preserved
loop-fixed-preserved c =
    let fixed = c.loop-fixed.fixed.items in
    let n : c.len.result ≡ length fixed = c.len.ensures ∙ c.loop-fixed.fixed.ok.0 in
    let m : c.len-in-loop-fixed.result ≡ length fixed = c.len-in-loop-fixed.ensures ∙ c.loop-fixed.fixed.ok.0 in
    let test = c.loop-fixed-test.true in
    let lt : length fixed < c.args.count = omega arith in
    let named = c.names.ensures in
    let not_named = c.if-not-names.true in
    let none : is_among (pins_of c.args.function.now) (length fixed) ≡ false = rw m at (sym named ∙ not_named) in
    passed_more _ _ _ fixed _ c.loop-fixed.invariant c.in_ok-push.ensures.items lt none
