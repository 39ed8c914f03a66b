use Rattle.pe_text.proofs.lexing.lex.Goals as goal

pub returns-clause-only : goal.returns-clause-only
returns-clause-only c = rw (← c.class.ensures) c.cut.ensures.only

pub returns-clause-only_bad : goal.returns-clause-only_bad
returns-clause-only_bad c = rw (← c.class.ensures) c.cut.ensures.only_bad
