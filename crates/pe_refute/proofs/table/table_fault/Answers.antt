use Rattle.std.specs.Option.{is_some}
use Rattle.std.proofs.Common.{◌≡◌, ◌≤◌, ◌^◌, ◌∙◌, not, length, ap, sym, arith}
use Rattle.pe_refute.proofs.Halves.{number_of, number_below, number_assigns, power_most, count_all}
use Rattle.pe_refute.proofs.table.table_fault.Goals as goal

pub returns-clause-fault : goal.returns-clause-fault
returns-clause-fault c =
    let set = c.args.clauses.now in
    let few : length set.leaves ≤ 12 = omega (arith, ap length c.leaves.ensures, c.if-leaves-gt-MOST_LEAVES.false) in
    let most = power_most (length set.leaves) 12 few in
    let size : length c.leaves-2.result.now ≡ length set.leaves = ap length c.leaves-2.ensures in
    let all : 2 ^ length set.leaves ≤ c.loop-k.k = count_all (length set.leaves) (length c.leaves-2.result.now) c.loop-k.k size most c.loop-k-test.false in
    record {
      goal_is = ap is_some (sym c.goal.ensures) ∙ c.is_none.ensures ∙ ap not c.if-is_none.false;
      few = few;
      none = λ w holds. let below = number_below w set.leaves in c.loop-k.invariant.none (number_of w set.leaves) (omega arith) w (number_assigns w set.leaves) holds;
    }
