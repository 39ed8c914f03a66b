use Rattle.std.proofs.Common.{inl, inr}
use Rattle.pe_grammar.specs.Places.{first_at, second_at}
use Rattle.pe_grammar.proofs.Shapes.{choice_tree, left_is, right_is, left_derives, right_derives}
use Rattle.pe_grammar.proofs.apart.side.Goals as goal

pub unreachable-requires : goal.unreachable-requires
unreachable-requires c =
    let g = c.args._grammar.now in
    let n = c.args._form in
    elim (choice_tree g n (first_at g n) (second_at g n) c.args.tree.now c.requires.choice c.requires.derives) [
      | inl p ↦ c.in_default.not-Left p.0 p.1
      | inr p ↦ c.in_default.not-Right p.0 p.1
    ]

pub returns-in-Left-clause-is : goal.returns-in-Left-clause-is
returns-in-Left-clause-is c = left_is _ _ _ c.in-Left.is c.get.ensures

pub returns-in-Left-clause-derives : goal.returns-in-Left-clause-derives
returns-in-Left-clause-derives c =
    let g = c.args._grammar.now in
    let n = c.args._form in
    left_derives g n (first_at g n) (second_at g n) _ _ c.requires.choice c.requires.derives (left_is _ _ c.get.result.now c.in-Left.is c.get.ensures)

pub returns-in-Right-clause-is : goal.returns-in-Right-clause-is
returns-in-Right-clause-is c = right_is _ _ _ c.in-Right.is c.get-in-Right.ensures

pub returns-in-Right-clause-derives : goal.returns-in-Right-clause-derives
returns-in-Right-clause-derives c =
    let g = c.args._grammar.now in
    let n = c.args._form in
    right_derives g n (first_at g n) (second_at g n) _ _ c.requires.choice c.requires.derives (right_is _ _ c.get-in-Right.result.now c.in-Right.is c.get-in-Right.ensures)
