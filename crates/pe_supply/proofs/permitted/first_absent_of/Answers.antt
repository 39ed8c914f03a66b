use Rattle.std.proofs.Common.{◌≡◌, Some, None, ap, sym, ◌∙◌}
use Rattle.std.specs.Prelude.{find}
use Rattle.std.specs.Option.{option_or}
use Rattle.std.proofs.lemmas.List.Folds.{find-append}
use Rattle.pe_supply.specs.Steps.{is_absent, names_in}
use Rattle.pe_supply.proofs.permitted.first_absent_of.Goals as goal

pub returns-in-Some : goal.returns-in-Some
returns-in-Some c =
    let test = is_absent c.args.rows.now in
    let rest = find test (names_in c.args.pairs.now) in
    let found : Some c.in-Some.name.now ≡ find test c.args.starts.now = c.in-Some.ensures in
    sym (find-append test c.args.starts.now (names_in c.args.pairs.now) ∙ ap (λ o. option_or o rest) (sym found))

pub returns-in-None : goal.returns-in-None
returns-in-None c =
    let test = is_absent c.args.rows.now in
    let rest = find test (names_in c.args.pairs.now) in
    let none : None ≡ find test c.args.starts.now = c.in-None.ensures in
    c.first_absent_in.ensures ∙ sym (find-append test c.args.starts.now (names_in c.args.pairs.now) ∙ ap (λ o. option_or o rest) (sym none))
