use Rattle.std.proofs.Common.{◌≡◌, ◌+◌, drop}
use Rattle.pe_text.specs.Lexemes.{lexemes_of, first_in}
use Rattle.pe_text.specs.Width.{is_too_wide, nothing_behind}
use Rattle.pe_text.proofs.width.first_too_wide.Given as goal

abbrev pub invariant-loop-i : goal.invariant-loop-i
invariant-loop-i l = first_in is_too_wide nothing_behind tt (lexemes_of l.text l.tokens)
    ≡ l.i + first_in is_too_wide nothing_behind tt (lexemes_of l.text (drop l.i l.tokens))
