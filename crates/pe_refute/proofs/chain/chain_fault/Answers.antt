use Rattle.std.proofs.Common.{arith}
use Rattle.pe_refute.proofs.Numbers.{below_take, below_at}
use Rattle.pe_refute.proofs.chain.chain_fault.Goals as goal

pub follows-requires-clause-clauses : goal.follows-requires-clause-clauses
follows-requires-clause-clauses c = rw c.loop-i.invariant.room (below_take _ c.args.given.now.clauses c.args.chain.now c.loop-i.i (omega arith) c.requires)

pub follows-requires-clause-clause : goal.follows-requires-clause-clause
follows-requires-clause-clause c =
    rw (c.loop-i.invariant.room, c.as_slice.ensures, c.index-chain-i.is) (below_at _ c.args.given.now.clauses c.args.chain.now c.loop-i.i c.index-chain-i.result c.loop-i-test.true c.requires)
