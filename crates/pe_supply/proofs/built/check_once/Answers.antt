use Rattle.std.proofs.Common.{◌≡◌, Some, None, ap, sym, ◌∙◌}
use Rattle.std.specs.Prelude.{find}
use Rattle.std.specs.List.{range_with_len}
use Rattle.std.specs.Option.{option_map}
use Rattle.pe_supply.specs.Drivers.{edges_of, is_driven_twice}
use Rattle.pe_supply.specs.Numbers.{first_name, supply_count, supplies_in}
use Rattle.pe_supply.proofs.built.check_once.Goals as goal

pub returns-in_ok-name-in-Some : goal.returns-in_ok-name-in-Some
returns-in_ok-name-in-Some c =
    let p = c.args.plan.now in
    let names = c.args.names.now in
    let found : Some c.in-Some.supply ≡ find (is_driven_twice (edges_of names p.switches)) (supplies_in names) =
    sym c.in-Some.is
    ∙ c.in_ok-supply.ensures
    ∙ ap (λ n. find (is_driven_twice c.args.edges.now) (range_with_len 0 n)) c.supply_count.ensures
    ∙ ap (λ es. find (is_driven_twice es) (range_with_len 0 (supply_count names))) c.requires.edges in
    let name : c.in_ok-name-in-Some.name ≡ first_name names c.in-Some.supply = c.in_ok-name-in-Some.ensures ∙ c.first_name.ensures in
    (c.args.names.now, c.requires.named, ap (option_map (first_name names)) (sym found) ∙ ap (λ n. Some n) (sym name))

pub returns-in-None : goal.returns-in-None
returns-in-None c =
    let p = c.args.plan.now in
    let names = c.args.names.now in
    let none : None ≡ find (is_driven_twice (edges_of names p.switches)) (supplies_in names) =
    sym c.in-None.is
    ∙ c.in_ok-supply.ensures
    ∙ ap (λ n. find (is_driven_twice c.args.edges.now) (range_with_len 0 n)) c.supply_count.ensures
    ∙ ap (λ es. find (is_driven_twice es) (range_with_len 0 (supply_count names))) c.requires.edges in
    record { named = c.requires.named; once = ap (option_map (first_name names)) (sym none) }
