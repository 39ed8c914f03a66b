use Rattle.std.proofs.Common.{inl, inr}
use Rattle.pe_grammar.specs.Places.{first_at, second_at}
use Rattle.pe_grammar.proofs.Shapes.{clause_tree, present_is, absent_is, present_derives}
use Rattle.pe_grammar.proofs.apart.clause.Goals as goal

pub unreachable-requires : goal.unreachable-requires
unreachable-requires c =
    let g = c.args._grammar.now in
    let n = c.args._form in
    elim (clause_tree g n (second_at g n) (first_at g n) c.args.tree.now c.requires.clause c.requires.derives) [
      | inl p ↦ c.in_default.not-Present (p.0, p.1) p.2
      | inr p ↦ c.in_default.not-Absent _ p
    ]

pub returns-in-Present-clause-is : goal.returns-in-Present-clause-is
returns-in-Present-clause-is c = present_is _ _ _ c.in-Present.is c.get.ensures

pub returns-in-Present-clause-derives : goal.returns-in-Present-clause-derives
returns-in-Present-clause-derives c =
    let g = c.args._grammar.now in
    let n = c.args._form in
    present_derives g n (second_at g n) (first_at g n) c.get.result.now.0 _ _ c.requires.clause c.requires.derives (present_is _ _ c.get.result.now c.in-Present.is c.get.ensures)

pub returns-in-Absent-clause-is : goal.returns-in-Absent-clause-is
returns-in-Absent-clause-is c =
    let g = c.args._grammar.now in
    let n = c.args._form in
    elim (clause_tree g n (second_at g n) (first_at g n) c.args.tree.now c.requires.clause c.requires.derives) [
      | inl p ↦ cc
      | inr p ↦ absent_is _ _ p
    ]
