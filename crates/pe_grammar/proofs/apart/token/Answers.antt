use Rattle.pe_grammar.specs.Places.{second_at}
use Rattle.pe_grammar.proofs.Shapes.{terminal_tree, leaf_is}
use Rattle.pe_grammar.proofs.apart.token.Goals as goal

pub unreachable-requires : goal.unreachable-requires
unreachable-requires c =
    let g = c.args._grammar.now in
    let n = c.args._form in
    let p = terminal_tree g n (second_at g n) c.args.tree.now c.requires.terminal c.requires.derives in
    c.in_default.not-Leaf p.0 p.1

pub returns : goal.returns
returns c = leaf_is _ _ c.in-Leaf.is
