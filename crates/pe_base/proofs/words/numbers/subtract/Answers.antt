use Rattle.std.proofs.Common.{◌≡◌, true, length, ◌∙◌, ap}
use Rattle.pe_base.specs.Words.{all_known, number_bits}
use Rattle.pe_base.proofs.Numbers.{difference}
use Rattle.pe_base.proofs.words.numbers.subtract.Goals as goal

pub returns-in_ok-difference : goal.returns-in_ok-difference
returns-in_ok-difference c =
    let known_a : all_known c.args.a.now ≡ true = cc in
    let known_b : all_known c.args.b.now ≡ true = cc in
    rw (known_a, known_b)
    (c.in_ok-difference.ensures ∙ rw (c.as_slice.ensures, c.in_ok-complement.ensures) (ap (number_bits (length c.args.a.now)) (difference c.args.a.now c.args.b.now c.requires known_b)))
