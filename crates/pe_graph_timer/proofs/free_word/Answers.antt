use Rattle.pe_graph_timer.proofs.FreeWords.{no_word, word_more}
use Rattle.pe_graph_timer.proofs.free_word.Goals as goal

pub loop-i-init : goal.loop-i-init
loop-i-init c = rw c.new-word.ensures (no_word _)

pub loop-i-preserved : goal.loop-i-preserved
loop-i-preserved c = word_more _ _ _ _ _ _ c.in_ok-bit.bit c.loop-i.invariant c.in_ok-bit.ensures.grows c.in_ok-bit.ensures.rail c.in_ok-push.ensures.ok
