use Rattle.pe_rail_ops.specs.Rails.{IsRail}
use Rattle.pe_rail_ops.proofs.Shifting.{stage_gives, stage_length, moved_all}
use Rattle.pe_rail_ops.proofs.shifts.stage.Goals as goal

pub of_each-requires-clause-b_in : goal.of_each-requires-clause-b_in
of_each-requires-clause-b_in c = let g = c.args.graph.now in
    rw (c.as_slice.ensures, c.in_ok-moved.ensures) (moved_all (IsRail g) c.args.direction c.constant-filled.result c.args.step c.args.word.now (c.constant-filled.ensures.is_rail g c.graph_law.ensures) c.requires.word_in)

pub returns-clause-gives : goal.returns-clause-gives
returns-clause-gives c = let g = c.args.graph.now in
    stage_gives _ _ c.args.direction c.args.fill c.args.control c.args.step c.known.result c.constant-filled.result c.args.word.now c.in_ok-moved.moved _ c.requires.within (λ v. c.known.ensures.value g v) (λ v. c.constant-filled.ensures.value g v c.graph_law.ensures) c.in_ok-moved.ensures (rw c.as_slice.ensures at c.in_ok-next.ensures.gives)

pub returns-clause-width : goal.returns-clause-width
returns-clause-width c =
    stage_length _ _ c.args.direction c.args.step c.known.result c.constant-filled.result c.args.word.now c.in_ok-moved.moved _ c.requires.within c.in_ok-moved.ensures (rw c.as_slice.ensures at c.in_ok-next.ensures.gives)
