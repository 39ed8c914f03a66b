use Rattle.std.proofs.Common.{◌≤◌, ◌^◌, arith}
use Rattle.std.proofs.Math.Pow.{pow_mono}
use Rattle.pe_solver.proofs.outcome.share.Goals as goal
use Rattle.pe_solver.proofs.outcome.share.Goals.{else-leaves-lt64-via-then-leaves-lt64+else-leaves-budget, else-leaves-lt64-via-else-leaves-lt64}

pub returns-else-leaves-lt64-clause-rest : goal.returns-else-leaves-lt64-clause-rest
returns-else-leaves-lt64-clause-rest c = λ h.
    elim c.else-leaves-lt64.branch [
      | else-leaves-lt64-via-then-leaves-lt64+else-leaves-budget w ↦ absurd (omega (arith, w.if-leaves-budget.false))
      | else-leaves-lt64-via-else-leaves-lt64 w ↦
          let m : 2 ^ 64 ≤ 2 ^ c.args.leaves = pow_mono w.if-leaves-lt64.false in
          absurd (omega (arith, m, h, c.ranges.budget.fits))
    ]
