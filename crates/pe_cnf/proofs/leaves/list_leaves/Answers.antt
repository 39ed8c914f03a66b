use Rattle.std.proofs.Common.{arith, List, ◌+◌, ◌≡◌, refl, ℕ}
use Rattle.pe_cnf.specs.Marks.{entry_of, IsListOf}
use Rattle.pe_cnf.proofs.LeafLemmas.{list_skip, list_push}
use Rattle.pe_cnf.proofs.leaves.list_leaves.Goals as goal
use Rattle.pe_cnf.proofs.leaves.list_leaves.Goals.{then-entry-gt0+in_ok-push, else-entry-gt0}

pub loop-number-preserved : goal.loop-number-preserved
loop-number-preserved c =
    let n = c.loop-number.number in
    let Lists : List (ℕ × ℕ) → Type 0 = IsListOf c.args.table.now (n + 1) in
    elim c.if-entry-gt0.branch [
      | then-entry-gt0+in_ok-push w ↦
          rw w.leaves-is (list_push c.args.table.now n (entry_of c.args.table.now n) c.loop-number.leaves.items _ refl w.if-entry-gt0.true w.in_ok-push.ensures.items c.loop-number.invariant)
      | else-entry-gt0 w ↦
          let z : entry_of c.args.table.now n ≡ 0 = omega (arith, w.if-entry-gt0.false) in
          rw w.leaves-is (list_skip c.args.table.now n c.loop-number.leaves.items z c.loop-number.invariant)
    ]
