use Rattle.std.proofs.Common.{◌∙◌, ap, sym}
use Rattle.pe_instances.specs.Pins.{view_of}
use Rattle.pe_instances.proofs.Ordering.{passed}
use Rattle.pe_instances.proofs.wiring.admit.Goals as goal

pub returns-in_ok-learn-in-Some : goal.returns-in_ok-learn-in-Some
returns-in_ok-learn-in-Some c = λ more.
    passed c.args.c.now c.args.ports.now c.args.known.now c.learn.new.known c.args.instance.now c.in-Some.view.now more (ap (view_of c.args.c.now) (sym c.bytes.ensures) ∙ sym c.in-Some.ensures) c.requires.ports
    (sym c.is_joined.ensures ∙ c.if-not-is_joined.false) (λ n. c.in_ok-learn-in-Some.ensures n)
