use Rattle.std.proofs.Common.{◌≡◌, ◌+◌, drop}
use Rattle.std.specs.List.{position_or_len}
use Rattle.std.specs.Str.{bytes_eq}
use Rattle.pe_upf_read.proofs.terminals.place_among.Given as goal

abbrev pub invariant-loop-i : goal.invariant-loop-i
invariant-loop-i l = position_or_len (λ other. bytes_eq other.now l.word) l.words ≡ l.i + position_or_len (λ other. bytes_eq other.now l.word) (drop l.i l.words)
