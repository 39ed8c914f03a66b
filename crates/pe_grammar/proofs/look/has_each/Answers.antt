use Rattle.std.proofs.Common.{◌<◌, arith, refl}
use Rattle.pe_grammar.proofs.Texts.{below_bound}
use Rattle.pe_grammar.proofs.look.has_each.Goals as goal

pub returns : goal.returns
returns c = (
  λ is k e. c.loop-kind.invariant.1 k (let lower : k < 128 = below_bound c.args.needed k c.ranges.needed.fits e in omega arith) e,
  λ all. refl,
)
