use Rattle.std.proofs.lemmas.List.{drop_all}
use Rattle.pe_verilog_read.proofs.Building.{carried_step, head_ports_shape}
use Rattle.pe_verilog_read.proofs.head.make_head_ports.Goals as goal

pub loop-next-preserved : goal.loop-next-preserved
loop-next-preserved c = record {
  derives = c.last_port-last.ensures.port;
  so_far =
      carried_step _ _ c.loop-next.next-index c.next-item.result _ _ _ _ _ _ _ _ c.loop-next-test.true c.next-item.is c.parts.ensures.is c.loop-next.invariant.so_far
      c.in_ok-make_head_port.ensures c.last_port-last.ensures.is c.in_ok-push-2.ensures.ok;
}

pub returns : goal.returns
returns c =
    head_ports_shape _ _ _ _ _ _ _ _ _ _ c.listed.ensures.is c.in_ok-port.ensures c.new-all.ensures c.in_ok-push.ensures.ok (drop_all _ _ c.loop-next-test.false) c.loop-next.invariant.so_far
