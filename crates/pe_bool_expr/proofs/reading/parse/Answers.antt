use Rattle.std.proofs.Common.{◌≡◌, ◌≤◌, ℕ, length, List, Result, Ok, Err, inl, refl, subst, sym, ap, ◌∙◌}
use Rattle.std.specs.Prelude.{IfOk, MatchResult}
use Rattle.pe_text.specs.declared.fault.LexFault.TheVariants.{Bad}
use Rattle.pe_text.specs.declared.token.Token.{Token}
use Rattle.pe_text.specs.Cut.{IsBadAt, IsCut}
use Rattle.pe_text.proofs.Order.{in_order}
use Rattle.pe_bool_expr.specs.declared.expr.Expr.{Expr}
use Rattle.pe_bool_expr.specs.declared.fault.ExprFault.{ExprFault}
use Rattle.pe_bool_expr.specs.declared.fault.ExprFault.TheVariants.{Syntax}
use Rattle.pe_bool_expr.specs.declared.style.Style.{Style}
use Rattle.pe_bool_expr.specs.Functions.{different, pins_of}
use Rattle.pe_bool_expr.specs.Reading.{IsOf, IsRefused}
use Rattle.pe_bool_expr.specs.Styles.{class_of}
use Rattle.pe_bool_expr.proofs.Outcomes.{one_outcome, exact, answered}
use Rattle.pe_bool_expr.proofs.reading.parse.Goals as goal

-- the place of a fault
same_place : (r : Result Expr ExprFault) (x at : ℕ) → r ≡ Err (Syntax x) → r ≡ Err (Syntax at) → x ≡ at
same_place r x at p q = cc

pub read_tokens-answer-requires-clause-order : goal.read_tokens-answer-requires-clause-order
read_tokens-answer-requires-clause-order c = rw c.as_slice.ensures (in_order c.class.result c.args.text.now c.in-Ok.tokens c.in-Ok.ensures.found)

pub returns-in-Ok-clause-exact : goal.returns-in-Ok-clause-exact
returns-in-Ok-clause-exact c =
    let P : List Token → Type 0 = λ tokens. IsCut (class_of c.args.style) c.args.text.now tokens in
    let cut = subst P (sym c.as_slice.ensures) (rw c.class.ensures at c.in-Ok.ensures.found) in
    λ r p. exact c.args.style c.args.names.now c.args.text.now c.as_slice.result.now c.read_tokens-answer.result r cut c.read_tokens-answer.ensures p

pub returns-in-Ok-clause-only : goal.returns-in-Ok-clause-only
returns-in-Ok-clause-only c = λ e p. answered e c.read_tokens-answer.result (returns-in-Ok-clause-exact c (Ok e) p)

pub returns-in-Err-Bad-clause-exact : goal.returns-in-Err-Bad-clause-exact
returns-in-Err-Bad-clause-exact c =
    let bad : IsBadAt (class_of c.args.style) c.args.text.now c.in-Err-Bad.at = rw (sym c.class.ensures) (c.in-Err-Bad.ensures.bad c.in-Err-Bad.at (ap (λ f. Err f) c.in-Err-Bad.field-0-is)) in
    λ r p. inl (ap (λ v. Err (Syntax v)) c.in-Err-Bad.at-is ∙ one_outcome c.args.style c.args.names.now c.args.text.now (Err (Syntax c.in-Err-Bad.at)) r (inl bad) p)

pub returns-in-Err-Bad-clause-only : goal.returns-in-Err-Bad-clause-only
returns-in-Err-Bad-clause-only c = λ e p. answered e _ (returns-in-Err-Bad-clause-exact c (Ok e) p)

pub returns-in-Err-Bad-clause-syntax : goal.returns-in-Err-Bad-clause-syntax
returns-in-Err-Bad-clause-syntax c = λ at e.
    let place = sym c.in-Err-Bad.at-is ∙ same_place _ _ at refl e in
    inl (rw (sym c.class.ensures) (c.in-Err-Bad.ensures.bad at (ap (λ f. Err f) (c.in-Err-Bad.field-0-is ∙ ap Bad place))))

few_inputs : (style : Style) (names : List (List ℕ)) (text : List ℕ) (tokens : List Token) (r : Result Expr ExprFault) →
    MatchResult r (λ e. IsOf style names text tokens e) (λ f. IsRefused style names text tokens f) → IfOk r (λ e. length (different (pins_of e)) ≤ 10)
few_inputs style names text tokens (Ok e) h = h.few
few_inputs style names text tokens (Err f) h = tt

pub returns-in-Ok-clause-few : goal.returns-in-Ok-clause-few
returns-in-Ok-clause-few c = few_inputs c.args.style c.args.names.now c.args.text.now c.as_slice.result.now c.read_tokens-answer.result c.read_tokens-answer.ensures
