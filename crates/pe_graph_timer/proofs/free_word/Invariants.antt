use Rattle.pe_graph_timer.proofs.FreeWords.{IsWord}
use Rattle.pe_graph_timer.proofs.free_word.Given as goal

abbrev pub invariant-loop-i : goal.invariant-loop-i
invariant-loop-i l = IsWord l.fn.graph l.graph l.i l.word
