use Rattle.std.proofs.Common.{sym, ◌∙◌, subst}
use Rattle.pe_supply.specs.Drivers.{edges_of, IsLooped, IsFirstLooped}
use Rattle.pe_supply.proofs.Formed.{once_of}
use Rattle.pe_supply.proofs.Making.{outputs_below, inputs_below}
use Rattle.pe_supply.proofs.built.check_loops.Goals as goal

pub first_looped-requires : goal.first_looped-requires
first_looped-requires c =
    let p = c.args.plan.now in
    let names = c.args.names.now in
    let named = c.requires.on_nets.driven.named in
    let outs = outputs_below p names c.requires.whole named in
    let ins = inputs_below p names c.requires.whole named in
    let once = once_of names (edges_of names p.switches) outs c.requires.on_nets.driven.once in
    rw (c.requires.edges, c.supply_count.ensures) (record { once = once; inputs = ins; outputs = outs })

pub returns-in_ok-name-in-Some : goal.returns-in_ok-name-in-Some
returns-in_ok-name-in-Some c =
    let first = subst (λ es. IsFirstLooped es c.in-Some.supply) c.requires.edges c.in-Some.ensures in
    (c.args.names.now, c.requires.on_nets, record { supply = c.in-Some.supply; first = first; is = c.in_ok-name-in-Some.ensures ∙ c.first_name.ensures })

pub returns-in-None : goal.returns-in-None
returns-in-None c = record { on_nets = c.requires.on_nets; apart = λ i h. c.in-None.ensures i (subst (λ es. IsLooped es i) (sym c.requires.edges) h) }
