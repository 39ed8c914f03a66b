use Rattle.std.proofs.Common.{◌≡◌, ◌≤◌, slice_index, sym, ◌∙◌, arith, length-set}
use Rattle.pe_supply.proofs.Climbing.{root_own, higher_le, forest_halved, roots_halved, root_halved}
use Rattle.pe_supply.proofs.numbers.root.Goals as goal

pub loop-above-preserved : goal.loop-above-preserved
loop-above-preserved c =
    let above = c.loop-above.above in
    let k = c.loop-above.k in
    let forest = c.loop-above.invariant.forest in
    let inside = c.loop-above.invariant.inside in
    let higher = slice_index above (slice_index above k) in
    let less : higher ≤ slice_index above k = higher_le above k forest inside in
    record {
      forest = forest_halved above k forest inside;
      inside = omega (arith, less, forest k inside, length-set above k higher);
      same = roots_halved above k forest inside ∙ c.loop-above.invariant.same;
      root = root_halved above k forest inside ∙ c.loop-above.invariant.root;
    }

pub returns-clause-root : goal.returns-clause-root
returns-clause-root c =
    let own : slice_index c.loop-above.above c.loop-above.k ≡ c.loop-above.k = c.loop-above-test.false in
    own ∙ sym (root_own c.loop-above.above c.loop-above.k own) ∙ c.loop-above.invariant.root
