use Rattle.std.proofs.Common.{◌≡◌, inr, refl, ap, sym, ◌∙◌, subst}
use Rattle.pe_supply.specs.Plans.{plan_of}
use Rattle.pe_supply.specs.Whole.{IsWhole}
use Rattle.pe_supply.proofs.Ending.{answer_to, found_by, formed_by, refused_by, exact_by}
use Rattle.pe_supply.proofs.Wholeness.{whole_of}
use Rattle.pe_supply.proofs.built.build.Goals as goal

pub build_plan-answer-requires : goal.build_plan-answer-requires
build_plan-answer-requires c =
    let same : c.in-Ok.plan ≡ plan_of c.args.intent.now.commands = c.in-Ok.ensures ∙ ap plan_of c.as_slice.ensures in
    subst IsWhole (sym same) (whole_of c.args.intent.now.commands)

pub returns-in-Ok : goal.returns-in-Ok
returns-in-Ok c =
    let p = plan_of c.args.intent.now.commands in
    let same : c.in-Ok.plan ≡ plan_of c.args.intent.now.commands = c.in-Ok.ensures ∙ ap plan_of c.as_slice.ensures in
    let r = c.build_plan-answer.result in
    let h = answer_to p c.in-Ok.plan r same c.build_plan-answer.ensures in
    record { found = found_by p r h; well_formed = formed_by p r (whole_of c.args.intent.now.commands) h; refused = refused_by p r h; exact = λ outcome k. exact_by p r outcome h k }

pub returns-in-Err : goal.returns-in-Err
returns-in-Err c = record { found = tt; well_formed = tt; refused = tt; exact = λ outcome k. inr refl }
