use Rattle.std.proofs.Common.{rules, ◌≡◌, ◌<◌, ◌+◌, ℕ, length, true, false, List, get_or, drop, drop-cons, add-one, eqb, refl, ◌∙◌}
use Rattle.pe_text.specs.Width.{grown_of, is_size_over}
use Rattle.pe_text.proofs.width.is_size_over.Goals as goal

-- behind a byte that is no quote
over_behind : (n : ℕ) (number : List ℕ) (i : ℕ) → i < length number → eqb (get_or number i 0) 39 ≡ false
    → is_size_over n (drop i number) ≡ is_size_over (grown_of n (get_or number i 0)) (drop (i + 1) number)
over_behind n number i lt ne = rw (drop-cons number i 0 lt, ne, add-one i) refl

pub loop-byte-preserved : goal.loop-byte-preserved
loop-byte-preserved c =
    let h = c.loop-byte.invariant.1 in
    let ne : eqb (get_or c.args.number.now c.loop-byte.byte-index 0) 39 ≡ false = search rules in
    (c.grown-size.ensures.small, (grown_of h.0 (get_or c.args.number.now c.loop-byte.byte-index 0), h.1 ∙ over_behind h.0 c.args.number.now c.loop-byte.byte-index c.loop-byte-test.true ne, c.grown-size.ensures.stands h.0 h.2))
