use Rattle.std.proofs.Common.{◌≡◌, ◌+◌, ◌-◌, Some, true, false, cond, ap, sym, ◌∙◌}
use Rattle.std.specs.Prelude.{find}
use Rattle.std.specs.List.{range_with_len}
use Rattle.pe_supply.specs.Drivers.{is_driven_twice}
use Rattle.pe_supply.proofs.Gatherings.{find_range}
use Rattle.pe_supply.proofs.Outputs.{several}
use Rattle.pe_supply.proofs.drivers.first_driven_twice.Goals as goal

pub returns-then-are_several : goal.returns-then-are_several
returns-then-are_several c =
    let p = is_driven_twice c.args.edges.now in
    let n = c.loop-supply.supply in
    let yes : is_driven_twice c.args.edges.now n ≡ true = sym (several c.args.edges.now c.args.count c.in_ok-counts.counts.items c.in_ok-counts.ensures n c.loop-supply-test.true c.index.result.now c.index.ensures) ∙ sym c.are_several.ensures ∙ c.if-are_several.true in
    sym (c.loop-supply.invariant ∙ find_range p n c.args.count c.loop-supply-test.true ∙ ap (λ b. cond b (Some n) (find p (range_with_len (n + 1) (c.args.count - (n + 1))))) yes)

pub loop-supply-preserved : goal.loop-supply-preserved
loop-supply-preserved c =
    let p = is_driven_twice c.args.edges.now in
    let n = c.loop-supply.supply in
    let no : is_driven_twice c.args.edges.now n ≡ false = sym (several c.args.edges.now c.args.count c.in_ok-counts.counts.items c.in_ok-counts.ensures n c.loop-supply-test.true c.index.result.now c.index.ensures) ∙ sym c.are_several.ensures ∙ c.if-are_several.false in
    c.loop-supply.invariant ∙ find_range p n c.args.count c.loop-supply-test.true ∙ ap (λ b. cond b (Some n) (find p (range_with_len (n + 1) (c.args.count - (n + 1))))) no
