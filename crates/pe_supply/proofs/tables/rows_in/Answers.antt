use Rattle.std.proofs.Common.{◌≡◌, ◌++◌, ◌∷◌, [], map, ap, ◌∙◌}
use Rattle.std.specs.Prelude.{unwrap_or}
use Rattle.std.specs.List.{zip}
use Rattle.pe_supply.specs.declared.supplies.Level.TheVariants.{Any}
use Rattle.pe_supply.specs.declared.supplies.Row.{Row}
use Rattle.pe_supply.specs.Tables.{level_of, row_in}
use Rattle.pe_supply.proofs.Switching.{map_step}
use Rattle.pe_supply.proofs.tables.rows_in.Goals as goal

pub loop-text-preserved : goal.loop-text-preserved
loop-text-preserved c =
    let names = c.args.states.now.names in
    let states = c.args.states.now.states in
    let table = c.args.table.now in
    let text = c.text-item.result in
    let levels : c.in_ok-levels.levels ≡ (row_in names states table text).levels =
    c.in_ok-levels.ensures ∙ ap (λ ws. map (λ cell. unwrap_or (level_of names states cell.0 cell.1) Any) (zip table ws)) c.as_slice.ensures in
    let row : Row → Row = λ r. r in
    c.in_ok-push.ensures.ok
    ∙ ap (λ n. c.loop-text.rows ++ row (record { name = n; levels = c.in_ok-levels.levels }) ∷ []) c.in_ok-name.ensures
    ∙ ap (λ ls. c.loop-text.rows ++ row (record { name = text.name; levels = ls }) ∷ []) levels
    ∙ map_step (row_in names states table) c.args.texts.now c.loop-text.rows c.loop-text.text-index text c.loop-text-test.true c.text-item.is c.loop-text.invariant
