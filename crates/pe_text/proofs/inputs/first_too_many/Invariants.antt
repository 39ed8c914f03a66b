use Rattle.std.proofs.Common.{◌≡◌, ◌≤◌, ◌+◌, drop}
use Rattle.pe_text.specs.Lexemes.{lexemes_of, first_in}
use Rattle.pe_text.specs.Commands.{no_command, behind_command}
use Rattle.pe_text.specs.Inputs.{has_too_many}
use Rattle.pe_text.proofs.inputs.first_too_many.Given as goal

abbrev pub invariant-loop-i : goal.invariant-loop-i
invariant-loop-i l = record {
  first : first_in has_too_many behind_command no_command (lexemes_of l.text l.tokens)
      ≡ l.i + first_in has_too_many behind_command l.command (lexemes_of l.text (drop l.i l.tokens));
  few : l.command.braces ≤ l.i;
}
