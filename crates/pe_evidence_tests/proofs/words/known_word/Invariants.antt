use Rattle.pe_evidence_tests.proofs.KnownWords.{IsWord}
use Rattle.pe_evidence_tests.proofs.words.known_word.Given as goal

abbrev pub invariant-loop-i : goal.invariant-loop-i
invariant-loop-i l = IsWord l.fn.graph l.graph l.i l.word
