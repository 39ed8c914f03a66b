use Rattle.pe_questions.proofs.cases.+add_cases.Given as goal

abbrev pub decreases-add_cases : goal.decreases-add_cases
decreases-add_cases l = l.left
