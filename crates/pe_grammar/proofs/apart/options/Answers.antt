use Rattle.std.proofs.Common.{◌∙◌}
use Rattle.pe_grammar.specs.Places.{first_at, bounds_in}
use Rattle.pe_grammar.specs.Grammar.{form_at}
use Rattle.pe_grammar.proofs.Shapes.{once_tree, once_is, option_smaller, options_derive}
use Rattle.pe_grammar.proofs.apart.options.Goals as goal

pub unreachable-requires : goal.unreachable-requires
unreachable-requires c =
    let g = c.args._grammar.now in
    let n = c.args._form in
    let p = once_tree g n (first_at g n) (bounds_in (form_at g n)) c.args.tree.now c.requires.once c.requires.derives in
    c.in_default.not-Once p.0 p.1

pub returns-clause-is : goal.returns-clause-is
returns-clause-is c = once_is _ _ _ c.in-Once.is (c.as_slice.ensures ∙ c.get.ensures)

pub returns-clause-smaller : goal.returns-clause-smaller
returns-clause-smaller c = option_smaller _ _ _ c.in-Once.is (c.as_slice.ensures ∙ c.get.ensures)

pub returns-clause-each : goal.returns-clause-each
returns-clause-each c =
    let g = c.args._grammar.now in
    let n = c.args._form in
    let r = first_at g n in
    options_derive g n r (bounds_in (form_at g n)) (first_at g r) c.args.tree.now c.as_slice.result.now c.requires.once c.requires.«repeat» c.requires.derives (once_is _ _ _ c.in-Once.is (c.as_slice.ensures ∙ c.get.ensures))
