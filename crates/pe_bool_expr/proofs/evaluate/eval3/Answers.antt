use Rattle.std.proofs.Common.{◌≡◌, ◌≢◌, ℕ, ◌<◌, ◌≤◌, ◌*◌, ◌%◌, ◌^◌, Bool, true, false, not, length, arith, ap, sym, ◌∙◌}
use Rattle.std.proofs.Math.Bool.{beq}
use Rattle.std.proofs.Math.Nat.{mod-eq_of_lt, pow-le-pow_right}
use Rattle.pe_bool_expr.specs.Choices.{corrupt_pins}
use Rattle.pe_bool_expr.specs.Functions.{formula, with_new}
use Rattle.pe_bool_expr.proofs.Choosing.{exact_corrupt, exact_known, corrupt_few}
use Rattle.pe_bool_expr.proofs.evaluate.eval3.Goals as goal

-- two bits that the test finds different
differing : (a b : Bool) → not (beq a b) ≡ true → a ≢ b
differing true true h e = cc
differing true false h e = cc
differing false true h e = cc
differing false false h e = cc

-- a shift by at most 10 loses nothing
shifted : (n : ℕ) → n ≤ 10 → (1 * 2 ^ n) % 4294967296 ≡ 2 ^ n
shifted n h =
    let p : 2 ^ n ≤ 2 ^ 10 = pow-le-pow_right (omega arith) h in
    let q : 1 * 2 ^ n < 4294967296 = omega arith in
    let e : 1 * 2 ^ n ≡ 2 ^ n = omega arith in
    mod-eq_of_lt q ∙ e

pub returns-then-value-first : goal.returns-then-value-first
returns-then-value-first c =
    let ne = differing c.value.result c.value-first.result c.if-value-first.true in
    sym (exact_corrupt c.args.values.now (formula c.args.e.now) c.collect.new.corrupt.items c.loop-choice.choice 0 (λ e. ne (cc)))

pub returns : goal.returns
returns c =
    let few = corrupt_few c.args.values.now (formula c.args.e.now) in
    let begun = ap (λ ps. with_new ps (corrupt_pins c.args.values.now (formula c.args.e.now))) c.new-corrupt.ensures in
    let low : length (with_new c.new-corrupt.result.items (corrupt_pins c.args.values.now (formula c.args.e.now))) ≤ 10 = omega (arith, few, ap length begun, c.requires.few) in
    let all = c.collect.ensures low ∙ begun in
    let ten : c.len.result ≤ 10 = omega (arith, few, ap length all, c.requires.few, c.len.ensures.value) in
    let last = shifted c.len.result ten in
    let size : 2 ^ length c.collect.new.corrupt.items ≤ c.loop-choice.choice = omega (arith, last, ap (λ n. 2 ^ n) c.len.ensures.value, c.loop-choice-test.false) in
    c.known.ensures ∙ sym (exact_known c.args.values.now (formula c.args.e.now) c.collect.new.corrupt.items c.value-first.result all (λ n h. c.loop-choice.invariant n (omega arith)))
