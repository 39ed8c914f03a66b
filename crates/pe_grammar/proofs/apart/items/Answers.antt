use Rattle.std.proofs.Common.{◌∙◌}
use Rattle.pe_grammar.specs.Places.{first_at}
use Rattle.pe_grammar.proofs.Shapes.{repeat_tree, repeat_is, element_smaller, items_derive}
use Rattle.pe_grammar.proofs.apart.items.Goals as goal

pub unreachable-requires : goal.unreachable-requires
unreachable-requires c =
    let g = c.args._grammar.now in
    let n = c.args._form in
    let p = repeat_tree g n (first_at g n) c.args.tree.now c.requires.«repeat» c.requires.derives in
    c.in_default.not-Repeat p.0 p.1

pub returns-clause-is : goal.returns-clause-is
returns-clause-is c = repeat_is _ _ _ c.in-Repeat.is (c.as_slice.ensures ∙ c.get.ensures)

pub returns-clause-smaller : goal.returns-clause-smaller
returns-clause-smaller c = element_smaller _ _ _ c.in-Repeat.is (c.as_slice.ensures ∙ c.get.ensures)

pub returns-clause-each : goal.returns-clause-each
returns-clause-each c =
    let g = c.args._grammar.now in
    let n = c.args._form in
    items_derive g n (first_at g n) c.args.tree.now c.as_slice.result.now c.requires.«repeat» c.requires.derives (repeat_is _ _ _ c.in-Repeat.is (c.as_slice.ensures ∙ c.get.ensures))
