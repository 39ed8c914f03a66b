use Rattle.std.proofs.Common.{◌≡◌, Bool, true, List, [], ◌∷◌, refl, ap, sym, ◌∙◌, drop}
use Rattle.std.proofs.lemmas.List.{drop_all}
use Rattle.pe_supply.specs.declared.supplies.Level.{Level}
use Rattle.pe_supply.specs.Rows.{row_holds}
use Rattle.pe_supply.proofs.rows.holds.Goals as goal

-- a row over no supplies holds
over_none : (levels : List Level) (states : List Bool) → row_holds levels [] states ≡ true
over_none [] states = refl
over_none (level ∷ levels) states = refl

pub returns : goal.returns
returns c =
    let levels = drop c.loop-i.i c.args.row.now.levels in
    let end = drop_all c.loop-i.i c.args.table.now c.loop-i-test.false in
    sym (c.loop-i.invariant ∙ ap (λ xs. row_holds levels xs c.args.states.now) end ∙ over_none levels c.args.states.now)
