use Rattle.pe_grammar.specs.Places.{first_at, second_at}
use Rattle.pe_grammar.proofs.Shapes.{sequence_tree, pair_is, pair_derives}
use Rattle.pe_grammar.proofs.apart.parts.Goals as goal

pub unreachable-requires : goal.unreachable-requires
unreachable-requires c =
    let g = c.args._grammar.now in
    let n = c.args._form in
    let p = sequence_tree g n (first_at g n) (second_at g n) c.args.tree.now c.requires.sequence c.requires.derives in
    c.in_default.not-Pair (p.0, p.1) p.2

pub returns-clause-is : goal.returns-clause-is
returns-clause-is c = pair_is _ _ _ c.in-Pair.is c.get.ensures

pub returns-clause-first : goal.returns-clause-first
returns-clause-first c =
    let g = c.args._grammar.now in
    let n = c.args._form in
    (pair_derives g n (first_at g n) (second_at g n) _ _ _ c.requires.sequence c.requires.derives (pair_is _ _ c.get.result.now c.in-Pair.is c.get.ensures)).0

pub returns-clause-second : goal.returns-clause-second
returns-clause-second c =
    let g = c.args._grammar.now in
    let n = c.args._form in
    (pair_derives g n (first_at g n) (second_at g n) _ _ _ c.requires.sequence c.requires.derives (pair_is _ _ c.get.result.now c.in-Pair.is c.get.ensures)).1
