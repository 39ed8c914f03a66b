use Rattle.std.proofs.Common.{◌≡◌, ◌-◌, ◌<◌, ◌≤◌, ◌++◌, ◌∷◌, [], length, arith, ap, ◌∙◌}
use Rattle.std.proofs.lemmas.List.{length_push}
use Rattle.pe_base.specs.declared.value.Val.TheVariants.{Zero, One}
use Rattle.pe_bool_expr.specs.Functions.{holds}
use Rattle.pe_rail_ops.proofs.Rails.{rails_kept}
use Rattle.pe_rail_ops.proofs.ExtensionLemmas.{cut_back, front_on, front_of_push, front_short, exact_leaf, exact_step, exact_passed}
use Rattle.pe_rail_ops.proofs.extension.+rest.Goals as goal

pub returns-then-pin-pins-clause-gives : goal.returns-then-pin-pins-clause-gives
returns-then-pin-pins-clause-gives t c =
    let fixed = c.pass.new.fixed.items in
    let n : c.len-pin.result ≡ length fixed = c.len-pin.ensures ∙ c.pass.new.fixed.ok.0 in
    let all = c.if-pin-pins.true in
    exact_leaf c.args.function.now c.args.graph.now c.args.pins.now c.args.fixed.now.items fixed c.constant.result c.in_ok-pass.ensures.same (omega arith)
    (c.constant.ensures.is_rail _ c.graph_law.ensures)
    (λ v. c.constant.ensures.value _ v c.graph_law.ensures ∙ rw c.as_slice.ensures.value at c.eval3.ensures)

pub rest-requires-2 : goal.rest-requires-2
rest-requires-2 t c =
    let fixed = c.pass.new.fixed.items in
    let k : c.len-pin.result ≡ length fixed = c.len-pin.ensures ∙ c.pass.new.fixed.ok.0 in
    let cut = cut_back fixed _ _ _ Zero _ k c.in_ok-push.ensures.items c.in_ok-zero.ensures.front c.truncate.ensures.items in
    let two = c.in_ok-push-2.ensures.items ∙ ap (λ xs. xs ++ One ∷ []) cut in
    let n = ap length two ∙ length_push fixed One in
    let front = ap length c.in_ok-pass.ensures.front in
    let all : length c.args.pins.now - length c.args.fixed.now.items ≡ t = c.decreases in
    let few : length fixed ≤ length c.args.pins.now = c.in_ok-pass.ensures.fits in
    let longer : length c.args.fixed.now.items ≤ length fixed = front_short _ _ c.in_ok-pass.ensures.front in
    let ne = c.if-pin-pins.false in
    let less : length c.args.pins.now - length c.push-2.new.self.items < t = omega arith in
    let fits : length c.push-2.new.self.items ≤ length c.args.pins.now = omega arith in
    (less, (c.requires.few, (rails_kept _ _ _ c.in_ok-zero.ensures.gives.grows c.requires.pins_in, fits)))

pub returns-clause-front : goal.returns-clause-front
returns-clause-front t c =
    let fixed = c.pass.new.fixed.items in
    let k : c.len-pin.result ≡ length fixed = c.len-pin.ensures ∙ c.pass.new.fixed.ok.0 in
    let cut = cut_back fixed _ _ _ Zero _ k c.in_ok-push.ensures.items c.in_ok-zero.ensures.front c.truncate.ensures.items in
    let two = c.in_ok-push-2.ensures.items ∙ ap (λ xs. xs ++ One ∷ []) cut in
    front_on _ fixed _ c.in_ok-pass.ensures.front (front_on fixed c.push-2.new.self.items _ (front_of_push fixed _ One two) c.in_ok-one.ensures.front)

pub returns-clause-gives : goal.returns-clause-gives
returns-clause-gives t c =
    let fixed = c.pass.new.fixed.items in
    let k : c.len-pin.result ≡ length fixed = c.len-pin.ensures ∙ c.pass.new.fixed.ok.0 in
    let one = c.in_ok-push.ensures.items in
    let cut = cut_back fixed _ _ _ Zero _ k one c.in_ok-zero.ensures.front c.truncate.ensures.items in
    let two = c.in_ok-push-2.ensures.items ∙ ap (λ xs. xs ++ One ∷ []) cut in
    let few : length fixed ≤ length c.args.pins.now = c.in_ok-pass.ensures.fits in
    let ne = c.if-pin-pins.false in
    let lt : c.len-pin.result < length c.args.pins.now = omega arith in
    exact_passed c.args.function.now c.args.graph.now c.pick.new.graph c.args.pins.now c.args.fixed.now.items fixed c.in_ok-rail.rail c.in_ok-pass.ensures.same
    (exact_step _ _ _ _ c.args.pins.now fixed (holds c.args.function.now) _ c.in_ok-zero.zero c.in_ok-one.one c.in_ok-rail.rail c.index-pins-pin.result k lt c.index-pins-pin.is c.requires.pins_in
    (rw one at c.in_ok-zero.ensures.gives) (rw two at c.in_ok-one.ensures.gives) c.in_ok-rail.ensures.gives)
