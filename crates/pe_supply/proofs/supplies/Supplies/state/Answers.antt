use Rattle.std.proofs.Common.{◌≡◌, ◌+◌, map, ap, sym, ◌∙◌, subst, arith}
use Rattle.std.specs.List.{range_with_len}
use Rattle.std.proofs.lemmas.List.FromFn.{map-range_with_len_more}
use Rattle.pe_supply.specs.States.{IsSettled, state_of, conducting}
use Rattle.pe_supply.specs.WellFormed.{count_of}
use Rattle.pe_supply.proofs.Settling.{found_settled}
use Rattle.pe_supply.proofs.supplies.Supplies.state.Goals as goal

pub loop-supply-preserved : goal.loop-supply-preserved
loop-supply-preserved c =
    let s = c.args.self.now in
    let flags = conducting s.switches c.args.controls.now in
    let count : c.len.result + c.len-2.result ≡ count_of s = omega (arith, c.len.ensures, c.len-2.ensures) in
    let last : c.state_of.result ≡ state_of s c.args.roots.now flags (count_of s) c.loop-supply.supply =
    c.state_of.ensures
    ∙ ap (λ xs. state_of s c.args.roots.now xs (c.len.result + c.len-2.result) c.loop-supply.supply) (c.as_slice-in-loop-supply.ensures ∙ c.in_ok-conducts.ensures ∙ ap (λ ws. conducting ws c.args.controls.now) c.as_slice.ensures)
    ∙ ap (λ n. state_of s c.args.roots.now flags n c.loop-supply.supply) count in
    let more = map-range_with_len_more (state_of s c.args.roots.now flags (count_of s)) 0 c.loop-supply.supply c.loop-supply.supply (omega arith) in
    let pushed = c.in_ok-push.ensures.ok in
    cc

pub returns : goal.returns
returns c =
    let s = c.args.self.now in
    let flags = conducting s.switches c.args.controls.now in
    let end : c.loop-supply.supply ≡ count_of s = omega (arith, c.len.ensures, c.len-2.ensures) in
    subst (IsSettled s c.args.roots.now c.args.controls.now) (sym (c.loop-supply.invariant ∙ ap (λ n. map (state_of s c.args.roots.now flags (count_of s)) (range_with_len 0 n)) end))
    (found_settled s c.args.roots.now c.args.controls.now c.requires.well_formed)
