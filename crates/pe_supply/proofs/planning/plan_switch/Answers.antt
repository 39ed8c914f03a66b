use Rattle.std.proofs.Common.{◌≡◌, refl, ap, ◌∙◌}
use Rattle.pe_supply.specs.Plans.{output_name}
use Rattle.pe_supply.proofs.planning.plan_switch.Goals as goal

pub returns : goal.returns
returns c =
    let output : c.in_ok-output.output ≡ output_name c.args.switch.name c.args.switch.output.0 =
    c.in_ok-output.ensures ∙ ap (λ n. output_name n c.bytes-2.result.now) c.bytes.ensures ∙ ap (output_name c.args.switch.name) c.bytes-2.ensures in
    rw (
      c.in_ok-names.ensures,
      c.in_ok-ports.ensures,
      c.new.ensures,
      c.in_ok-ties.ensures,
      c.in_ok-uses.ensures,
      c.new-2.ensures,
      c.new-3.ensures,
      c.new-4.ensures,
      c.new-5.ensures,
      c.in_ok-switches.ensures,
      output,
    ) refl
