use Rattle.std.proofs.Common.{◌∙◌, ap}
use Rattle.pe_base.specs.Names.{has_name}
use Rattle.pe_instances.specs.Wired.{are_ordered}
use Rattle.pe_instances.proofs.Ordering.{ordered_same}
use Rattle.pe_instances.proofs.wiring.are_ordered.Goals as goal

pub loop-instance-init : goal.loop-instance-init
loop-instance-init c =
    ap (are_ordered c.args.c.now c.in_ok-known.known) c.as_slice-instance-items.ensures
    ∙ ordered_same c.args.c.now c.in_ok-known.known c.args.c.now.given c.args.c.now.netlist.instances (λ n. c.in_ok-known.ensures n ∙ ap (λ names. has_name names n) c.as_slice-2.ensures)
