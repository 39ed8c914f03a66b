use Rattle.std.proofs.Common.{◌<◌, length, refl, ◌∙◌, arith}
use Rattle.pe_supply.proofs.Climbing.{roots_are, forest_halved, roots_halved, flat_next}
use Rattle.pe_supply.proofs.numbers.flatten.Goals as goal

pub loop-k-preserved : goal.loop-k-preserved
loop-k-preserved c =
    let above = c.loop-k.above in
    let k = c.loop-k.k in
    let forest = c.loop-k.invariant.forest in
    let inside : k < length above = omega arith in
    record {
      forest = forest_halved above k forest inside;
      same = roots_halved above k forest inside ∙ c.loop-k.invariant.same;
      flat = flat_next above k forest inside c.loop-k.invariant.flat;
    }

pub returns : goal.returns
returns c = roots_are c.loop-k.above c.loop-k.above refl (λ j l. c.loop-k.invariant.flat j (omega arith)) ∙ c.loop-k.invariant.same
