use Rattle.std.proofs.Common.{◌≡◌, inl, inr, map, ap, ◌∙◌, subst}
use Rattle.std.specs.Prelude.{Any}
use Rattle.pe_bool_expr.specs.declared.style.Style.TheVariants.{Upf}
use Rattle.pe_bool_expr.specs.Reading.{IsFunction}
use Rattle.pe_supply.specs.Building.{controls_of, IsUnread}
use Rattle.pe_supply.proofs.switches.make_switch.Goals as goal

pub with_functions-requires-clause-on : goal.with_functions-requires-clause-on
with_functions-requires-clause-on c =
    let text = c.args.text.now in
    let names : c.as_slice-2.result.now ≡ controls_of text = c.as_slice-2.ensures ∙ c.in_ok-controls.ensures ∙ ap (λ cs. map (λ x. x.0) cs) c.as_slice.ensures in
    let read : IsFunction Upf c.as_slice-2.result.now text.on c.in-Some.on = rw c.in-Some.is at c.in_ok-on.ensures in
    subst (λ ns. IsFunction Upf ns text.on c.in-Some.on) names read

pub returns-in-Some : goal.returns-in-Some
returns-in-Some c =
    let text = c.args.text.now in
    let names : c.as_slice-in-Some-2.result.now ≡ controls_of text = c.as_slice-in-Some-2.ensures ∙ c.in_ok-controls.ensures ∙ ap (λ cs. map (λ x. x.0) cs) c.as_slice.ensures in
    let unread : Any (IsUnread c.as_slice-in-Some-2.result.now) c.as_slice-in-Some.result.now = rw c.in-None-2.is at c.in_ok-off-in-Some.ensures in
    inr (subst (λ ts. Any (IsUnread (controls_of text)) ts) c.as_slice-in-Some.ensures (subst (λ ns. Any (IsUnread ns) c.as_slice-in-Some.result.now) names unread))

pub returns : goal.returns
returns c =
    let text = c.args.text.now in
    let names : c.as_slice-2.result.now ≡ controls_of text = c.as_slice-2.ensures ∙ c.in_ok-controls.ensures ∙ ap (λ cs. map (λ x. x.0) cs) c.as_slice.ensures in
    let unread : IsUnread c.as_slice-2.result.now text.on = rw c.in-None.is at c.in_ok-on.ensures in
    inl (subst (λ ns. IsUnread ns text.on) names unread)
