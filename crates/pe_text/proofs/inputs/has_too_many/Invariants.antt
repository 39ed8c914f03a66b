use Rattle.std.proofs.Common.{◌≡◌, ◌≤◌, ◌+◌, ℕ, List, [], drop, ◌++◌}
use Rattle.pe_text.specs.Lexemes.{lexemes_of}
use Rattle.pe_text.specs.Inputs.{names_in, inside, Added}
use Rattle.pe_text.proofs.inputs.has_too_many.Given as goal

abbrev pub invariant-loop-token : goal.invariant-loop-token
invariant-loop-token l = record {
  few : l.count ≤ 10;
  shallow : l.braces ≤ l.token-index;
  found : (before : List (List ℕ)) × Added [] l.names l.count before
      × (names_in (inside 0 (lexemes_of l.text l.tokens)) ≡ before ++ names_in (inside l.braces (lexemes_of l.text (drop l.token-index l.tokens))));
}
