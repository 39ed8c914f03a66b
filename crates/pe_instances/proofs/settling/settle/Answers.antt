use Rattle.std.proofs.Common.{◌≡◌, ◌+◌, ◌∙◌, ap, sym, subst, drop, length, arith}
use Rattle.std.proofs.lemmas.List.{at_drop_all, with_items_is}
use Rattle.pe_instances.specs.Form.{nets}
use Rattle.pe_instances.specs.Pins.{view_of, drives_of, drives_in, drives}
use Rattle.pe_instances.specs.Settled.{IsNetSettled}
use Rattle.pe_instances.specs.Begin.{start_of, written}
use Rattle.pe_nets.proofs.Rules.{run_map}
use Rattle.pe_instances.proofs.OneMap.{rules_of, written_is, written-append, final_settled}
use Rattle.pe_instances.proofs.Ordering.{at_drop}
use Rattle.pe_instances.proofs.settling.settle.Goals as goal

pub loop-instance-preserved : goal.loop-instance-preserved
loop-instance-preserved c =
    let circuit = c.args.c.now in
    let names = c.args.nets.now in
    let states = c.args.states.now in
    let items = c.as_slice-instance-items.result.now in
    let i = c.instance-item.result in
    let old = c.deref_mut.result.now in
    let rest = drives_in circuit (drop (c.loop-instance.instance-index + 1) items) in
    let same : length c.write_instance.new.values ≡ c.loop-instance.values.len = omega (arith, ap length c.deref_mut.ensures.value, c.write_instance.auto.values, c.loop-instance.values.ok.0) in
    ap (λ vs. written circuit names states vs rest) (with_items_is c.loop-instance.values c.write_instance.new.values same ∙ c.in_ok-write_instance.ensures)
    ∙ sym (written-append circuit names states old (drives_of i (view_of circuit i.cell)) rest)
    ∙ sym (ap (written circuit names states old) (at_drop (λ j. drives_of j (view_of circuit j.cell)) items c.loop-instance.instance-index i c.loop-instance-test.true c.instance-item.is))
    ∙ ap (λ vs. written circuit names states vs (drives_in circuit (drop c.loop-instance.instance-index items))) c.deref_mut.ensures.value
    ∙ c.loop-instance.invariant

pub returns : goal.returns
returns c =
    let circuit = c.args.c.now in
    let states = c.args.states.now in
    let start = start_of circuit c.args.inputs.now in
    let e : c.loop-instance.values.items ≡ run_map (nets circuit.netlist) start (rules_of circuit states (drives circuit)) =
    sym (at_drop_all (λ is. written circuit c.args.nets.now states c.loop-instance.values.items (drives_in circuit is)) c.as_slice-instance-items.result.now c.loop-instance.instance-index c.loop-instance-test.false)
    ∙ c.loop-instance.invariant ∙ ap (λ names. written circuit names states start (drives circuit)) c.requires.nets ∙ written_is circuit (nets circuit.netlist) states start (drives circuit) in
    subst (IsNetSettled circuit states c.args.inputs.now) (sym e) (final_settled circuit states c.args.inputs.now c.requires.wired)
