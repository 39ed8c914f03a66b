use Rattle.std.proofs.Common.{◌<◌, length, refl, sym, ap, ◌∙◌}
use Rattle.std.specs.Prelude.{map}
use Rattle.std.proofs.lemmas.List.{take_all, length-map}
use Rattle.pe_base.specs.Values.{known_of}
use Rattle.pe_base.specs.Words.{is_one}
use Rattle.pe_base.proofs.Numbers.{sum_more, sum_all, bits_more, length-bits}
use Rattle.pe_base.proofs.words.numbers.sum.Goals as goal

pub loop-i-preserved : goal.loop-i-preserved
loop-i-preserved c =
    let a = c.args.a.now in let b = c.args.b.now in let i = c.loop-i.i in
    let lt_a : i < length a = c.loop-i-test.true in
    let lt_b : i < length b = rw c.requires at lt_a in
    let s = c.sum_bit.ensures in let carry = c.carry_bit-carry.ensures in
    let x = c.is_one-x.ensures in let y = c.is_one-y.ensures in
    rw (bits_more a i lt_a, bits_more b i lt_b, c.in_ok-push.ensures.items, s, carry, x, y)
    (sum_more _ _ c.args.carry_in _ c.loop-i.carry _ _ (length-bits a i lt_a ∙ sym (length-bits b i lt_b)) c.loop-i.invariant)

pub returns : goal.returns
returns c =
    let a = c.args.a.now in let b = c.args.b.now in let i = c.loop-i.i in
    let past = c.loop-i-test.false in
    let widths = c.requires in
    let sum = rw (take_all i a past, take_all i b (rw widths at past)) at c.loop-i.invariant in
    c.from_vec.ensures ∙ c.in_ok-bits.ensures ∙ ap (map known_of) (c.deref.ensures.value ∙ sum_all _ _ _ _ _ sum ∙ rw (length-map a is_one) refl)
