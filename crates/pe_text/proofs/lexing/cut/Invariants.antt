use Rattle.std.proofs.Common.{◌≤◌, ◌+◌, length}
use Rattle.pe_text.specs.Upf.{open_braces}
use Rattle.pe_text.proofs.Walking.{Reaches}
use Rattle.pe_text.proofs.lexing.cut.Given as goal

abbrev pub invariant-loop-rest : goal.invariant-loop-rest
invariant-loop-rest l = record {
  reaches : Reaches l.class l.text l.mode l.rest l.tokens;
  within : length l.rest ≤ length l.text;
  braces : open_braces l.mode + length l.rest ≤ length l.text;
}

abbrev pub decreases-loop-rest : goal.decreases-loop-rest
decreases-loop-rest l = length l.rest
