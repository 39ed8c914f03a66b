use Rattle.std.proofs.Common.{◌≡◌, Some, None, ap, sym, ◌∙◌}
use Rattle.std.specs.Prelude.{find}
use Rattle.std.specs.List.{zip}
use Rattle.std.specs.Option.{option_copied, option_map}
use Rattle.pe_supply.specs.Tables.{cells_of, is_unknown}
use Rattle.pe_supply.proofs.Switching.{found_here, found_on}
use Rattle.pe_supply.proofs.tables.first_unknown.Goals as goal

pub returns-in-Some : goal.returns-in-Some
returns-in-Some c =
    let t = is_unknown c.args.states.now.names c.args.states.now.states in
    let table = c.args.table.now in
    let row = c.row-item.result in
    let here : Some c.in-Some.word.now ≡ option_map (λ cell. cell.1) (find t (cells_of table row)) = ap option_copied (sym c.in-Some.is) ∙ c.in_ok-word.ensures ∙ ap (λ ws. option_map (λ cell. cell.1) (find t (zip table ws))) c.as_slice.ensures in
    sym (c.loop-row.invariant ∙ found_here t (cells_of table) c.args.rows.now c.loop-row.row-index row c.loop-row-test.true c.row-item.is c.in-Some.word.now here)

pub loop-row-preserved : goal.loop-row-preserved
loop-row-preserved c =
    let t = is_unknown c.args.states.now.names c.args.states.now.states in
    let table = c.args.table.now in
    let row = c.row-item.result in
    let here : None ≡ option_map (λ cell. cell.1) (find t (cells_of table row)) = ap option_copied (sym c.in-None.is) ∙ c.in_ok-word.ensures ∙ ap (λ ws. option_map (λ cell. cell.1) (find t (zip table ws))) c.as_slice.ensures in
    c.loop-row.invariant ∙ found_on t (cells_of table) c.args.rows.now c.loop-row.row-index row c.loop-row-test.true c.row-item.is here
