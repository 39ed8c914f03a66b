use Rattle.std.proofs.Common.{◌≡◌, ◌-◌, ◌<◌, ◌≤◌, ◌&&◌, true, false, length, map, slice_index, ap, sym, ◌∙◌, arith}
use Rattle.pe_supply.specs.Rows.{is_on}
use Rattle.pe_supply.specs.States.{state_of}
use Rattle.pe_supply.specs.WellFormed.{place, input_of}
use Rattle.pe_supply.proofs.Settling.{state_root, state_switch}
use Rattle.pe_supply.proofs.supplies.Supplies.+state_of.Goals as goal

pub returns-then-root-len : goal.returns-then-root-len
returns-then-root-len t c =
    let s = c.args.self.now in
    let root : c.place_among-root.result ≡ place s.roots c.args.supply = c.place_among-root.ensures ∙ ap (λ xs. place xs c.args.supply) c.as_slice.ensures in
    let inside : place s.roots c.args.supply < length s.roots = omega (arith, root, c.len.ensures, c.if-root-len.true) in
    c.is_on.ensures ∙ ap (is_on c.args.roots.now) root ∙ sym (state_root s c.args.roots.now c.args.conducts.now c.args.left c.args.supply (omega arith) inside)

pub returns-then-is_on : goal.returns-then-is_on
returns-then-is_on t c =
    let s = c.args.self.now in
    let root : c.place_among-root.result ≡ place s.roots c.args.supply = c.place_among-root.ensures ∙ ap (λ xs. place xs c.args.supply) c.as_slice.ensures in
    let outside : length s.roots ≤ place s.roots c.args.supply = omega (arith, root, c.len.ensures, c.if-root-len.false) in
    let switch : c.switch_of-place.result ≡ place (map (λ w. w.output) s.switches) c.args.supply = c.switch_of-place.ensures ∙ ap (λ ws. place (map (λ w. w.output) ws) c.args.supply) c.as_slice-2.ensures in
    let on : is_on c.args.conducts.now (place (map (λ w. w.output) s.switches) c.args.supply) ≡ true = ap (is_on c.args.conducts.now) (sym switch) ∙ sym c.is_on-2.ensures ∙ c.if-is_on.true in
    let all = state_switch s c.args.roots.now c.args.conducts.now c.args.left c.args.supply (omega arith) outside in
    let rest = state_of s c.args.roots.now c.args.conducts.now (c.args.left - 1) (input_of s (place (map (λ w. w.output) s.switches) c.args.supply)) in
    let input : c.input_of.result ≡ input_of s (place (map (λ w. w.output) s.switches) c.args.supply) =
    c.input_of.ensures ∙ ap (λ ws. slice_index (map (λ w. w.input) ws) c.switch_of-place.result) c.as_slice-then-is_on.ensures ∙ ap (input_of s) switch in
    c.state_of.ensures ∙ ap (state_of s c.args.roots.now c.args.conducts.now (c.args.left - 1)) input ∙ sym (all ∙ ap (λ on. on && rest) on)

pub returns-else-is_on : goal.returns-else-is_on
returns-else-is_on t c =
    let s = c.args.self.now in
    let root : c.place_among-root.result ≡ place s.roots c.args.supply = c.place_among-root.ensures ∙ ap (λ xs. place xs c.args.supply) c.as_slice.ensures in
    let outside : length s.roots ≤ place s.roots c.args.supply = omega (arith, root, c.len.ensures, c.if-root-len.false) in
    let switch : c.switch_of-place.result ≡ place (map (λ w. w.output) s.switches) c.args.supply = c.switch_of-place.ensures ∙ ap (λ ws. place (map (λ w. w.output) ws) c.args.supply) c.as_slice-2.ensures in
    let off : is_on c.args.conducts.now (place (map (λ w. w.output) s.switches) c.args.supply) ≡ false = ap (is_on c.args.conducts.now) (sym switch) ∙ sym c.is_on-2.ensures ∙ c.if-is_on.false in
    let all = state_switch s c.args.roots.now c.args.conducts.now c.args.left c.args.supply (omega arith) outside in
    let rest = state_of s c.args.roots.now c.args.conducts.now (c.args.left - 1) (input_of s (place (map (λ w. w.output) s.switches) c.args.supply)) in
    c.if-is_on.false ∙ sym (all ∙ ap (λ on. on && rest) off)
