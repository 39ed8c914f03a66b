use Rattle.std.proofs.Common.{◌≡◌, List, refl, ap, sym, ◌∙◌, take}
use Rattle.std.specs.Prelude.{map, Option}
use Rattle.std.proofs.lemmas.List.{take_all}
use Rattle.pe_grammar.specs.Derivation.{Derivation, derivation, repeated, leaf, pair, done}
use Rattle.pe_grammar.specs.declared.terminal.Token.{Token}
use Rattle.pe_grammar.specs.declared.tree.Tree.{Tree}
use Rattle.pe_grammar.proofs.Lists.{each_value}
use Rattle.pe_grammar_sample.specs.Meaning.{statement_of, statements_of, block_of, test_of, otherwise_of}
use Rattle.pe_grammar_sample.specs.declared.statement.Statement.{Statement}
use Rattle.pe_grammar_sample.specs.declared.statement.Statement.TheVariants.{Block, Test}
use Rattle.pe_grammar_sample.proofs.build.+building.Goals as goal

block_shape : (d b r l e : Derivation) (ts : List Tree) (all : List Statement) → d ≡ pair b r → r ≡ pair l e → l ≡ repeated (map derivation ts) done → all ≡ map (λ t. statement_of (derivation t)) ts → Block all ≡ block_of d
block_shape d b r l e ts all p q u v =
    let x : d ≡ pair b (pair l e) = cc in
    ap Block (v ∙ sym (each_value statement_of statements_of refl (λ c f. refl) ts) ∙ ap statements_of (sym u)) ∙ sym (ap block_of x)

pub make_block-returns : goal.make_block-returns
make_block-returns t c =
    let ts = c.items-item-items.result.now in
    let whole : take c.loop-item.item-index ts ≡ ts = take_all _ _ c.loop-item-test.false in
    let all : c.loop-item.all ≡ map (λ t. statement_of (derivation t)) ts = c.loop-item.invariant ∙ ap (λ us. map (λ t. statement_of (derivation t)) us) whole in
    block_shape _ _ _ _ _ ts c.loop-item.all c.parts.ensures.is c.parts-2.ensures.is c.items-item-items.ensures.is all

test_shape : (d i r o r2 n r3 k r4 s tail : Derivation) (name : Token) (then : Statement) (other : Option Statement) → d ≡ pair i r → r ≡ pair o r2 → r2 ≡ pair n r3 → n ≡ leaf name → r3 ≡ pair k r4 → r4 ≡ pair s tail →
    then ≡ statement_of s → other ≡ otherwise_of tail → Test name then other ≡ test_of d
test_shape d i r o r2 n r3 k r4 s tail name then other p q u v w x y z =
    let e : d ≡ pair i (pair o (pair (leaf name) (pair k (pair s tail)))) = cc in
    ap (λ a. Test name a other) y ∙ ap (λ b. Test name (statement_of s) b) z ∙ sym (ap test_of e)

pub make_test-returns : goal.make_test-returns
make_test-returns t c =
    test_shape _ _ _ _ _ _ _ _ _ _ _ _ _ _ c.parts.ensures.is c.parts-2.ensures.is c.parts-3.ensures.is c.token-name.ensures c.parts-4.ensures.is c.parts-5.ensures.is
    (c.in_ok-then.ensures ∙ c.in_ok-make_statement.ensures) c.in_ok-other.ensures
