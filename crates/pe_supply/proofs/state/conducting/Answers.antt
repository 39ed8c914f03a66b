use Rattle.std.proofs.Common.{◌≡◌, ◌++◌, length, drop, take, length-drop, arith, ap, ◌∙◌, append_assoc}
use Rattle.pe_supply.specs.States.{conducts}
use Rattle.pe_supply.proofs.Settling.{conducting_step, ports_step}
use Rattle.pe_supply.proofs.state.conducting.Goals as goal

pub loop-switch-preserved : goal.loop-switch-preserved
loop-switch-preserved c =
    let ws = c.args.switches.now in
    let i = c.loop-switch.switch-index in
    let w = c.switch-item.result in
    let rest = c.loop-switch.rest.now in
    let flags = c.loop-switch.flags in
    let own : c.conducts.result ≡ conducts w (take (length w.controls) rest) = c.conducts.ensures ∙ ap (conducts w) (c.first_of.ensures ∙ ap (λ n. take n rest) c.len-ports.ensures) in
    let behind : c.rest_of-rest.result.now ≡ drop (length w.controls) rest = c.rest_of-rest.ensures ∙ ap (λ n. drop n rest) c.len-ports.ensures in
    let step = conducting_step ws i w rest c.loop-switch-test.true c.switch-item.is in
    let ports = ports_step ws i w c.loop-switch-test.true c.switch-item.is in
    record {
      ports = omega (arith, ap length behind, length-drop (length w.controls) rest, ports, c.loop-switch.invariant.ports);
      so_far = rw (c.in_ok-push.ensures.ok, own, behind, append_assoc) (c.loop-switch.invariant.so_far ∙ ap (λ xs. flags ++ xs) step);
    }
