use Rattle.std.proofs.Common.{◌≡◌, ◌++◌, take}
use Rattle.std.specs.Prelude.{map}
use Rattle.pe_liberty_read.proofs.Names.{part_name}
use Rattle.pe_liberty_read.proofs.build.make_some_arguments.Given as goal

abbrev pub invariant-loop-next : goal.invariant-loop-next
invariant-loop-next l = l.all ≡ l.initial.all ++ map (part_name l.text l.tokens) (take l.next-index l.rest)
