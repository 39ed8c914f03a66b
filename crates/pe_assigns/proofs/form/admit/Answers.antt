use Rattle.std.proofs.Common.{◌∙◌, ap, sym, ◌∷◌, ◌++◌, ◌&&◌, ◌||◌}
use Rattle.std.specs.Str.{bytes_eq}
use Rattle.pe_base.specs.Names.{has_name}
use Rattle.pe_assigns.specs.Form.{are_ordered}
use Rattle.pe_assigns.proofs.Reading.{ordered_same}
use Rattle.pe_assigns.proofs.form.admit.Goals as goal

pub returns-in_ok-insert-in-Some : goal.returns-in_ok-insert-in-Some
returns-in_ok-insert-in-Some c = λ more.
    let old = c.args.known.now in
    let name = c.in-Some.name.now in
    ap (λ some. are_ordered old (some ++ more)) c.in-Some.ensures
    ∙ ap (λ b. b && are_ordered (name ∷ old) more) (sym c.is_read.ensures ∙ c.if-not-is_read.false)
    ∙ sym (ordered_same c.insert.new.self (name ∷ old) more
    (λ n. c.in_ok-insert-in-Some.ensures.added n ∙ ap (λ x. bytes_eq x n || has_name old n) c.bytes.ensures))
