use Rattle.std.proofs.Common.{◌≡◌, drop}
use Rattle.pe_outside.specs.Named.{bytes_named}
use Rattle.pe_outside.proofs.memory.bytes_of.Given as goal

abbrev pub invariant-loop-entry : goal.invariant-loop-entry
invariant-loop-entry l = bytes_named (drop l.entry-index l.files) l.name ≡ bytes_named l.files l.name
