use Rattle.std.proofs.Common.{◌≡◌, Result, Ok, refl}
use Rattle.pe_grammar.specs.Written.{rule}
use Rattle.pe_grammar.proofs.Same.{from_table, to_table}
use Rattle.pe_bool_expr.specs.declared.expr.Expr.{Expr}
use Rattle.pe_bool_expr.specs.declared.fault.ExprFault.{ExprFault}
use Rattle.pe_bool_expr.specs.declared.liberty_table.TheConstants.{LIBERTY, AT_SUM}
use Rattle.pe_bool_expr.specs.declared.upf_table.TheConstants.{UPF, AT_ANY}
use Rattle.pe_bool_expr.specs.LibertyGrammar.{liberty_grammar}
use Rattle.pe_bool_expr.specs.UpfGrammar.{upf_grammar}
use Rattle.pe_bool_expr.proofs.Outcomes.{one_outcome}
use Rattle.pe_bool_expr.proofs.reading.one_function.Goals as goal

abbrev Answer : Type 0
Answer = Result Expr ExprFault

same_function : (e f : Expr) (a b : Answer) → a ≡ Ok e → b ≡ Ok f → a ≡ b → e ≡ f
same_function e f a b p q r = cc

pub returns-clause-outcome : goal.returns-clause-outcome
returns-clause-outcome c = one_outcome

pub returns-clause-one : goal.returns-clause-one
returns-clause-one c = λ style names text e f p q. same_function e f (Ok e) (Ok f) refl refl (one_outcome style names text (Ok e) (Ok f) p q)

pub returns-clause-liberty : goal.returns-clause-liberty
returns-clause-liberty c = λ d. (from_table LIBERTY liberty_grammar refl d AT_SUM (rule 0) refl, to_table LIBERTY liberty_grammar refl d AT_SUM (rule 0) refl)

pub returns-clause-upf : goal.returns-clause-upf
returns-clause-upf c = λ d. (from_table UPF upf_grammar refl d AT_ANY (rule 0) refl, to_table UPF upf_grammar refl d AT_ANY (rule 0) refl)
