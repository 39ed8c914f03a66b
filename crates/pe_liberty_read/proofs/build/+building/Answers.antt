use Rattle.std.proofs.Common.{◌≡◌, subst}
use Rattle.std.specs.Prelude.{IfOk}
use Rattle.std.proofs.lemmas.List.{take_all}
use Rattle.pe_grammar.specs.Derivation.{derivation}
use Rattle.pe_liberty_read.specs.declared.statement.Statement.{Statement}
use Rattle.pe_liberty_read.specs.Meaning.{statement_of}
use Rattle.pe_liberty_read.proofs.Statements.{contents_step, braced_shape, complex_shape}
use Rattle.pe_liberty_read.proofs.build.+building.Goals as goal

pub make_complex-returns : goal.make_complex-returns
make_complex-returns t c =
    let P : Statement → Type 0 = λ m. IfOk c.make_body.result (λ s. s ≡ m) in
    subst P (complex_shape _ _ _ _ _ _ _ _ _ _ _ c.parts.ensures.is c.parts-2.ensures.is c.parts-3.ensures.is c.in_ok-arguments.ensures) c.make_body.ensures

pub make_contents-loop-item-preserved : goal.make_contents-loop-item-preserved
make_contents-loop-item-preserved t c =
    contents_step (λ t. statement_of c.args.text.now c.args.tokens.now (derivation t)) _ _ _ _ _ _ c.loop-item-test.true c.item-item.is c.loop-item.invariant c.in_ok-statement.ensures c.in_ok-add.ensures

pub make_contents-returns : goal.make_contents-returns
make_contents-returns t c =
    braced_shape _ _ _ _ _ _ _ _ _ _ c.parts.ensures.is c.parts-2.ensures.is c.items-item-items.ensures.is (take_all _ _ c.loop-item-test.false) c.loop-item.invariant
