use Rattle.std.proofs.Common.{◌≡◌, ◌+◌, ◌-◌, [], arith}
use Rattle.std.specs.List.{cons_option}
use Rattle.pe_text.specs.Inputs.{next_name, behind_next, names_of, names_from, Added}
use Rattle.pe_text.proofs.InputNames.{names_step, found_more}
use Rattle.pe_text.proofs.inputs.add_names.Goals as goal

pub loop-steps-preserved : goal.loop-steps-preserved
loop-steps-preserved c =
    let h = c.loop-steps.invariant.found in
    let one : c.loop-steps.steps ≡ c.loop-steps.steps - 1 + 1 = omega (arith, c.loop-steps-test.true) in
    let step = names_step c.loop-steps.steps (c.loop-steps.steps - 1) c.loop-steps.rest.now one in
    let g : Added c.loop-steps.names c.add_name.new.names c.in_ok-count.field-0 (cons_option (next_name c.loop-steps.rest.now) []) = rw c.next_name.ensures at c.in_ok-count.ensures.added in
    let few = c.in_ok-count.ensures.few in
    record {
      few = omega (arith, few, c.loop-steps.invariant.few, one);
      found = rw c.behind_next-rest.ensures (found_more (names_of c.args.bytes.now) c.args.names.now c.loop-steps.names c.add_name.new.names c.loop-steps.count c.in_ok-count.field-0 h.0 (cons_option (next_name c.loop-steps.rest.now) []) (names_from c.loop-steps.steps c.loop-steps.rest.now) (names_from (c.loop-steps.steps - 1) (behind_next c.loop-steps.rest.now)) h.1 g h.2 step);
    }
