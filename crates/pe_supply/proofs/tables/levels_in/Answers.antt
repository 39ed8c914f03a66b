use Rattle.std.proofs.Common.{◌≡◌, ◌++◌, [], drop, map, ap, sym, ◌∙◌, append-nil}
use Rattle.std.specs.Prelude.{unwrap_or}
use Rattle.std.proofs.lemmas.List.{drop_all}
use Rattle.pe_supply.specs.declared.supplies.Level.TheVariants.{Any}
use Rattle.pe_supply.specs.Tables.{level_of}
use Rattle.pe_supply.proofs.Gatherings.{zip_nil}
use Rattle.pe_supply.proofs.tables.levels_in.Goals as goal

pub returns : goal.returns
returns c =
    let end : drop c.loop-i.i c.args.words.now ≡ [] = drop_all c.loop-i.i c.args.words.now c.loop-i-test.false in
    let none = zip_nil (drop c.loop-i.i c.args.table.now) (drop c.loop-i.i c.args.words.now) end in
    sym (append-nil c.loop-i.levels)
    ∙ ap (λ cells. c.loop-i.levels ++ map (λ cell. unwrap_or (level_of c.args.states.now.names c.args.states.now.states cell.0 cell.1) Any) cells) (sym none)
    ∙ c.loop-i.invariant
