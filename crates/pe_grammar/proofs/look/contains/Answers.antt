use Rattle.std.proofs.Common.{◌≡◌, arith}
use Rattle.std.specs.Int.{bit_at}
use Rattle.std.proofs.lemmas.Nat.Bits.{bit_at_above}
use Rattle.std.proofs.lemmas.Bool.{le-ltb}
use Rattle.pe_grammar.proofs.look.contains.Goals as goal

pub returns-else-kind-lt128 : goal.returns-else-kind-lt128
returns-else-kind-lt128 c =
    let z : bit_at c.args.set c.args.kind ≡ 0 = bit_at_above c.args.set 128 c.args.kind (omega arith) (omega arith) in
    rw z (le-ltb c.args.kind 128 (omega arith))
