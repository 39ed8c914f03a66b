use Rattle.std.proofs.Common.{◌≡◌, ◌≤◌, ◌+◌, drop}
use Rattle.pe_text.specs.Lexemes.{lexemes_of, first_in}
use Rattle.pe_text.specs.Commands.{no_command, is_command_left_out, behind_command}
use Rattle.pe_text.proofs.left_out.upf.Given as goal

abbrev pub invariant-loop-i : goal.invariant-loop-i
invariant-loop-i l = record {
  first : first_in is_command_left_out behind_command no_command (lexemes_of l.text l.tokens)
      ≡ l.i + first_in is_command_left_out behind_command l.command (lexemes_of l.text (drop l.i l.tokens));
  few : l.command.braces ≤ l.i;
}
