use Rattle.pe_refute.proofs.Sound.{both_below}
use Rattle.pe_refute.proofs.checker.first_fault.Goals as goal

pub chain_fault-requires : goal.chain_fault-requires
chain_fault-requires c =
    let within = rw c.in-Chain.is at c.requires.within in
    rw c.deref.ensures.value (both_below _ _ _ _ c.requires.room c.clauses_law.ensures.below within)
