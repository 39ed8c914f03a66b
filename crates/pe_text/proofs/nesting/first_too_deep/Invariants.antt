use Rattle.std.proofs.Common.{◌≡◌, ◌≤◌, ◌+◌, drop}
use Rattle.pe_text.specs.Lexemes.{lexemes_of, first_in}
use Rattle.pe_text.specs.Nesting.{none_open, is_too_deep, nest_behind}
use Rattle.pe_text.proofs.nesting.first_too_deep.Given as goal

abbrev pub invariant-loop-i : goal.invariant-loop-i
invariant-loop-i l = record {
  first : first_in (is_too_deep l.lang) (nest_behind l.lang) none_open (lexemes_of l.text l.tokens)
      ≡ l.i + first_in (is_too_deep l.lang) (nest_behind l.lang) l.nest (lexemes_of l.text (drop l.i l.tokens));
  few : l.nest.opened + l.nest.pending ≤ 64;
  short : l.nest.run ≤ 65;
}
