use Rattle.std.proofs.Common.{arith}
use Rattle.pe_supply.proofs.built.check_sizes.Goals as goal

pub returns : goal.returns
returns c = record {
  rows = record { states = c.requires; few = omega arith };
  few = omega arith;
}
