use Rattle.std.proofs.Common.{◌≡◌, ◌-◌, true, drop, length, ◌∙◌, arith}
use Rattle.std.proofs.lemmas.List.{take_all, length-drop}
use Rattle.pe_base.specs.Words.{all_known, value_number}
use Rattle.pe_base.proofs.Shifted.{right_by}
use Rattle.pe_base.proofs.words.shifts.shift_right.Goals as goal

pub returns : goal.returns
returns c =
    let a = c.args.a.now in
    let by = c.number_up_to-by in
    let known : all_known c.args.amount.now ≡ true = cc in
    let size = length-drop by.result a in
    let rest = take_all (length a - by.result) (drop by.result a) (omega arith) in
    let items = c.in_ok-bits.ensures.items in
    let width = c.in_ok-bits.ensures.len in
    rw known (c.from_vec.ensures ∙ c.in_ok-resize.ensures.items ∙ rw (width, items, rest) (right_by a (value_number c.args.amount.now) by.result by.ensures))
