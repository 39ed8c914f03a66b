use Rattle.std.proofs.Common.{◌≡◌, ◌<◌, ℕ, drop}
use Rattle.pe_text.specs.Width.{is_size_over, Stands}
use Rattle.pe_text.proofs.width.is_size_over.Given as goal

abbrev pub invariant-loop-byte : goal.invariant-loop-byte
invariant-loop-byte l = (l.size < 2000) × ((n : ℕ) × (is_size_over 0 l.number ≡ is_size_over n (drop l.byte-index l.number)) × Stands n l.size)
