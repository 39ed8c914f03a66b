use Rattle.std.proofs.Common.{◌≡◌, ◌≤◌, length}
use Rattle.pe_text.specs.Bytes.{behind}
use Rattle.pe_text.proofs.run.Run.behind.Given as goal

abbrev pub invariant-loop-rest : goal.invariant-loop-rest
invariant-loop-rest l = (behind l.self l.rest ≡ behind l.self l.fn.text) × (length l.rest ≤ length l.fn.text)

abbrev pub decreases-loop-rest : goal.decreases-loop-rest
decreases-loop-rest l = length l.rest
