use Rattle.std.proofs.Common.{◌≡◌, [], drop, ap, sym, ◌∙◌}
use Rattle.std.specs.Prelude.{find}
use Rattle.std.specs.Option.{option_map}
use Rattle.std.proofs.lemmas.List.{drop_all}
use Rattle.pe_supply.specs.Tables.{is_unknown}
use Rattle.pe_supply.proofs.Gatherings.{zip_nil}
use Rattle.pe_supply.proofs.tables.unknown_in.Goals as goal

pub returns : goal.returns
returns c =
    let end : drop c.loop-i.i c.args.words.now ≡ [] = drop_all c.loop-i.i c.args.words.now c.loop-i-test.false in
    let test = is_unknown c.args.states.now.names c.args.states.now.states in
    sym (ap (option_map (λ cell. cell.1)) (c.loop-i.invariant ∙ ap (find test) (zip_nil (drop c.loop-i.i c.args.table.now) (drop c.loop-i.i c.args.words.now) end)))
