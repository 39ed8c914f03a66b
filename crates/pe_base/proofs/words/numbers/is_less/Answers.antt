use Rattle.std.proofs.Common.{◌<◌, length, get_or, take, sym, ◌∙◌}
use Rattle.std.specs.Prelude.{map}
use Rattle.pe_base.specs.Words.{is_one}
use Rattle.pe_base.proofs.Numbers.{less_more, bits_more, length-bits}
use Rattle.pe_base.proofs.words.numbers.is_less.Goals as goal

pub loop-i-preserved : goal.loop-i-preserved
loop-i-preserved c =
    let a = c.args.a.now in let b = c.args.b.now in let i = c.loop-i.i in
    let lt_a : i < length a = c.loop-i-test.true in
    let lt_b : i < length b = rw c.requires at lt_a in
    let less = c.less_bit-less.ensures in
    let x = c.is_one-x.ensures in let y = c.is_one-y.ensures in
    rw (bits_more a i lt_a, bits_more b i lt_b, less, x, y, c.loop-i.invariant)
    (sym (less_more (map is_one (take i a)) (map is_one (take i b)) (length-bits a i lt_a ∙ sym (length-bits b i lt_b)) (is_one (get_or a i _)) (is_one (get_or b i _))))
