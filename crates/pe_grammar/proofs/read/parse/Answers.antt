use Rattle.std.proofs.Common.{◌≡◌, ◌-◌, length, subst}
use Rattle.pe_grammar.specs.Reading.{IsRefused}
use Rattle.pe_grammar.specs.Grammar.{IsFault}
use Rattle.pe_grammar.proofs.Theory.{longer_fault, refused_fault}
use Rattle.pe_grammar.proofs.Test.{deterministic}
use Rattle.pe_grammar.proofs.read.parse.Goals as goal

pub returns-in-Ok-clause-only : goal.returns-in-Ok-clause-only
returns-in-Ok-clause-only c = (longer_fault c.args.grammar.now (deterministic c.args.grammar.now c.requires.grammar) c.args.start c.args.tokens.now c.in-Ok.rest.now _ c.in-Ok.ensures c.in-Ok.len_at_least).no_text

pub returns-in-Ok-clause-fault : goal.returns-in-Ok-clause-fault
returns-in-Ok-clause-fault c = λ at e.
    let q : length c.args.tokens.now - length c.in-Ok.rest.now ≡ at = cc in
    subst (λ k. IsFault c.args.grammar.now c.args.start c.args.tokens.now k) q
    (longer_fault c.args.grammar.now (deterministic c.args.grammar.now c.requires.grammar) c.args.start c.args.tokens.now c.in-Ok.rest.now _ c.in-Ok.ensures c.in-Ok.len_at_least)

refused : (c : goal.In-Err-Left) → IsRefused c.args.grammar.now c.args.start c.args.tokens.now c.in-Err-Left.left
refused c = rw c.in-Err-Left.field-0-is at c.in-Err-Left.ensures

pub returns-in-Err-Left-clause-only : goal.returns-in-Err-Left-clause-only
returns-in-Err-Left-clause-only c = (refused_fault c.args.grammar.now (deterministic c.args.grammar.now c.requires.grammar) c.args.start c.args.tokens.now c.in-Err-Left.left (refused c)).no_text

pub returns-in-Err-Left-clause-fault : goal.returns-in-Err-Left-clause-fault
returns-in-Err-Left-clause-fault c = λ at e.
    let q : length c.args.tokens.now - c.in-Err-Left.left ≡ at = cc in
    subst (λ k. IsFault c.args.grammar.now c.args.start c.args.tokens.now k) q
    (refused_fault c.args.grammar.now (deterministic c.args.grammar.now c.requires.grammar) c.args.start c.args.tokens.now c.in-Err-Left.left (refused c))

pub read-requires-clause-grammar : goal.read-requires-clause-grammar
read-requires-clause-grammar c = deterministic c.args.grammar.now c.requires.grammar
