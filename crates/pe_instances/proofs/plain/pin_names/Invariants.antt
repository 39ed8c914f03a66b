use Rattle.std.proofs.Common.{◌≡◌, ◌++◌, map, take}
use Rattle.pe_instances.proofs.plain.pin_names.Given as goal

abbrev pub invariant-loop-signal : goal.invariant-loop-signal
invariant-loop-signal l = l.names ≡ map (λ s. s.name) (take l.signal-index l.signal-items)

abbrev pub invariant-loop-pg : goal.invariant-loop-pg
invariant-loop-pg l = l.names ≡ l.initial.names ++ map (λ p. p.name) (take l.pg-index l.pg-items)
