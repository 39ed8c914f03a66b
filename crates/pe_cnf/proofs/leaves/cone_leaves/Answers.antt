use Rattle.pe_cnf.specs.Marks.{mark_of, entry_of}
use Rattle.pe_cnf.proofs.LeafLemmas.{listed_leaves}
use Rattle.pe_cnf.proofs.leaves.cone_leaves.Goals as goal

pub returns : goal.returns
returns c =
    listed_leaves (mark_of c.args.cone.now) (entry_of c.args.numbers.now) c.args.graph.now c.args.width c.in_ok-table.table.items _ c.requires.width c.in_ok-table.ensures.room c.in_ok-table.ensures.table
    (rw c.as_slice.ensures.value at c.in_ok-leaves.ensures)
