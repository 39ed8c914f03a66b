use Rattle.std.proofs.Common.{◌≡◌, ◌<◌, ℕ, true, get_or}
use Rattle.pe_refute.specs.Entries.{is_lawful}
use Rattle.pe_refute.proofs.admit.first_unlawful.Given as goal

abbrev pub invariant-loop-place : goal.invariant-loop-place
invariant-loop-place l = (j : ℕ) → j < l.place-index → is_lawful l.seen l.entry.eq.ctx (get_or l.entry.cites j 0) ≡ true
