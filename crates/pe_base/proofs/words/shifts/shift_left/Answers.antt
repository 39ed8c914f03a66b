use Rattle.std.proofs.Common.{◌≡◌, ◌-◌, ◌++◌, true, take, length, ◌∙◌, ap}
use Rattle.pe_base.specs.Words.{all_known, value_number}
use Rattle.pe_base.proofs.Shifted.{left_by}
use Rattle.pe_base.proofs.words.shifts.shift_left.Goals as goal

pub returns : goal.returns
returns c =
    let a = c.args.a.now in
    let by = c.number_up_to-by in
    let known : all_known c.args.amount.now ≡ true = cc in
    rw known
    (c.from_vec.ensures ∙ c.in_ok-extend_from_slice.ensures.items
    ∙ ap (λ xs. xs ++ take (length a - by.result) a) (c.in_ok-bits.ensures.items_if_clones_equal (λ y e. e))
    ∙ left_by a (value_number c.args.amount.now) by.result by.ensures)
