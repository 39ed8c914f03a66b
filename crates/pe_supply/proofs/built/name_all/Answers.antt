use Rattle.std.proofs.Common.{◌≡◌, None, sym, ◌∙◌}
use Rattle.pe_supply.specs.Uses.{first_missing}
use Rattle.pe_supply.proofs.Making.{ports_made, nets_made}
use Rattle.pe_supply.proofs.built.name_all.Goals as goal

pub number_names-requires-clause-ports : goal.number_names-requires-clause-ports
number_names-requires-clause-ports c =
    let p = c.args.plan.now in
    let none : first_missing p ≡ None = sym c.in_ok-name.ensures ∙ c.in-None.is in
    rw (c.as_slice.ensures, c.as_slice-in-None.ensures) (ports_made p c.requires none)

pub number_names-requires-clause-nets : goal.number_names-requires-clause-nets
number_names-requires-clause-nets c =
    let p = c.args.plan.now in
    let none : first_missing p ≡ None = sym c.in_ok-name.ensures ∙ c.in-None.is in
    rw (c.as_slice.ensures, c.as_slice-in-None.ensures) (nets_made p c.requires none)
