use Rattle.std.proofs.Common.{◌-◌, length, take, drop, arith, ap, ◌∙◌, rules}
use Rattle.pe_outside.specs.Outside.{grown}
use Rattle.pe_outside.proofs.Pieces.{grown-rest}
use Rattle.pe_outside.proofs.sink.write_all.Goals as goal

pub loop-at-preserved : goal.loop-at-preserved
loop-at-preserved g c = record {
  within = search rules;
  grows = c.in_ok-at.ensures.appended ∙ ap (λ told. grown told (take c.in_ok-at.field-0 (take (length c.args.bytes.now - c.loop-at.at) (drop c.loop-at.at c.args.bytes.now)))) c.loop-at.invariant.grows ∙ grown-rest (g.S.Sink.written c.args.sink.now) c.args.bytes.now c.loop-at.at c.in_ok-at.field-0;
  counted = omega (arith, c.loop-at.invariant.counted, c.in_ok-at.ensures.counted);
  untouched = λ none. absurd (omega (arith, c.in_ok-at.ensures.some));
}
