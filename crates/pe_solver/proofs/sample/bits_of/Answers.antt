use Rattle.std.proofs.Common.{◌≡◌, ◌-◌, refl, arith, suc, length-set}
use Rattle.pe_refute.proofs.Evaluated.{rest_more}
use Rattle.pe_solver.proofs.Samples.{bit_next}
use Rattle.pe_solver.proofs.sample.bits_of.Goals as goal

pub loop-left-preserved : goal.loop-left-preserved
loop-left-preserved c =
    let before = c.loop-left.invariant in
    let one : c.loop-left.left ≡ suc (c.loop-left.left - 1) = omega arith in
    record {
      within = omega arith;
      length_is = simp length-set before.length_is;
      rest_is = rest_more c.args.step c.args.count c.loop-left.left (c.loop-left.left - 1) c.loop-left.rest one before.within before.rest_is;
      each = bit_next c.args.step c.args.count c.loop-left.left (c.loop-left.left - 1) c.loop-left.rest c.loop-left.bits.items _ _ one before.within before.length_is before.rest_is refl refl before.each;
    }
