use Rattle.std.proofs.Common.{◌<◌, refl, ap, length, length-set, set, get_or, false, List, ℕ}
use Rattle.pe_solver.proofs.Samples.{spread_inside, spread_outside}
use Rattle.pe_solver.proofs.sample.spread.Goals as goal

pub loop-i-preserved : goal.loop-i-preserved
loop-i-preserved c =
    let before = c.loop-i.invariant in
    let lt : c.loop-i.i < length c.args.clauses.now.leaves = rw c.leaves-leaves.ensures at c.loop-i-test.true in
    let next = ap (λ (l : List (ℕ × ℕ)). set c.loop-i.values.items (get_or l c.loop-i.i (0, 0)).0 (get_or c.args.bits.now c.loop-i.i false)) c.leaves-leaves.ensures in
    record {
      count = simp length-set before.count;
      inside = spread_inside c.args.clauses.now c.args.bits.now c.loop-i.values.items _ c.loop-i.i _ c.requires.numbered lt before.count next refl before.inside;
      outside = spread_outside c.args.clauses.now c.loop-i.values.items _ c.loop-i.i _ next before.outside;
    }
