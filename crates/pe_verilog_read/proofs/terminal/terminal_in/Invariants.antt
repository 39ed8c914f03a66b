use Rattle.std.proofs.Common.{◌≡◌, ℕ, List, drop, Bor}
use Rattle.std.specs.Prelude.{map}
use Rattle.pe_verilog_read.specs.Terminals.{terminal_in as found_in}
use Rattle.pe_verilog_read.proofs.terminal.terminal_in.Given as goal

abbrev pub invariant-loop-spelling : goal.invariant-loop-spelling
invariant-loop-spelling l =
    found_in (map {A = Bor (List ℕ) × ℕ} {B = List ℕ × ℕ} (λ s. (s.0.now, s.1)) l.spellings) l.other l.bytes
    ≡ found_in (map {A = Bor (List ℕ) × ℕ} {B = List ℕ × ℕ} (λ s. (s.0.now, s.1)) (drop l.spelling-index l.spellings)) l.other l.bytes
