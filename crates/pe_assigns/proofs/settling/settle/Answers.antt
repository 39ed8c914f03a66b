use Rattle.std.proofs.Common.{◌≡◌, ◌∙◌, ap, sym, subst}
use Rattle.std.specs.List.{flat_map}
use Rattle.std.proofs.lemmas.List.{at_drop_all}
use Rattle.pe_assigns.specs.Form.{nets, assigns, assigns_in}
use Rattle.pe_assigns.specs.Settled.{IsRtlSettled}
use Rattle.pe_assigns.specs.Begin.{start_of, written}
use Rattle.pe_nets.proofs.Rules.{run_map}
use Rattle.pe_assigns.proofs.OneMap.{rules_of, written_is, final_settled}
use Rattle.pe_assigns.proofs.settling.settle.Goals as goal

pub returns : goal.returns
returns c =
    let m = c.args.m.now in
    let on = c.args.on in
    let start = start_of m c.args.inputs.now in
    let e : c.loop-item.values.items ≡ run_map (nets m) start (rules_of on (assigns m)) =
    sym (at_drop_all (λ items. written c.args.nets.now on c.loop-item.values.items (flat_map assigns_in items)) c.as_slice-item-items.result.now c.loop-item.item-index c.loop-item-test.false)
    ∙ c.loop-item.invariant ∙ ap (λ names. written names on start (assigns m)) c.requires.nets ∙ written_is (nets m) on start (assigns m) in
    subst (IsRtlSettled m on c.args.inputs.now) (sym e) (final_settled m on c.args.inputs.now c.requires.form)
