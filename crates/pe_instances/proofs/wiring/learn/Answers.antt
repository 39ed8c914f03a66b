use Rattle.std.proofs.Common.{◌∙◌, ap}
use Rattle.pe_base.specs.Names.{has_name}
use Rattle.pe_instances.specs.Wired.{known_with}
use Rattle.pe_instances.proofs.Ordering.{driven_from, learned, all_learned}
use Rattle.pe_instances.proofs.wiring.learn.Goals as goal

pub loop-signal-preserved : goal.loop-signal-preserved
loop-signal-preserved c =
    let signals = c.as_slice-signal-items.result.now in
    learned c.args.instance.now signals c.loop-signal.signal-index c.signal-item.result c.loop-signal.known c.learn_net.new.known (known_with (driven_from c.args.instance.now signals) c.args.known.now)
    c.loop-signal-test.true c.signal-item.is (λ n. c.in_ok-learn_net.ensures n) c.loop-signal.invariant

pub returns : goal.returns
returns c = λ n.
    let signals = c.as_slice-signal-items.result.now in
    all_learned c.args.instance.now signals c.loop-signal.signal-index c.loop-signal.known (known_with (driven_from c.args.instance.now signals) c.args.known.now) c.loop-signal-test.false c.loop-signal.invariant n
    ∙ ap (λ ss. has_name (known_with (driven_from c.args.instance.now ss) c.args.known.now) n) c.as_slice-signal-items.ensures
