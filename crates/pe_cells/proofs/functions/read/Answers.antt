use Rattle.std.proofs.Common.{◌≤◌, ℕ, List, length, sym, subst}
use Rattle.pe_cells.specs.Functions.{use_of, Reads}
use Rattle.pe_cells.proofs.Reading.{read_judges, read_used}
use Rattle.pe_cells.proofs.Shorts.{text_short}
use Rattle.pe_cells.proofs.functions.read.Goals as goal

pub function_of-requires : goal.function_of-requires
function_of-requires c = let P : List ℕ → Type 0 = λ t. length t ≤ 16777216 in subst P (sym c.text.ensures) (text_short c.args.group.now c.args.attribute.now c.requires)

pub returns-clause-judged : goal.returns-clause-judged
returns-clause-judged c =
    let P : List ℕ → Type 0 = λ t. Reads c.args.names.now t c.in_ok-function.function in
    read_judges (use_of c.args.names.now c.args.group.now c.args.attribute.now) c.in_ok-function.function c.args.faults.now c.add_if.new.faults
    c.is_none-wrong.result c.place-place.result (subst P c.text.ensures c.in_ok-function.ensures) c.is_none-wrong.ensures c.place-place.ensures c.in_ok-add_if.ensures

pub returns-clause-function : goal.returns-clause-function
returns-clause-function c = λ none.
    let P : List ℕ → Type 0 = λ t. Reads c.args.names.now t c.in_ok-function.function in
    read_used (use_of c.args.names.now c.args.group.now c.args.attribute.now) c.in_ok-function.function c.args.faults.now c.add_if.new.faults
    c.is_none-wrong.result c.place-place.result (subst P c.text.ensures c.in_ok-function.ensures) c.is_none-wrong.ensures c.place-place.ensures c.in_ok-add_if.ensures none
