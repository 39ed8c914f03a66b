use Rattle.pe_text.proofs.Walking as walking
use Rattle.pe_text.proofs.laws.one_cut.Goals as goal

pub returns : goal.returns
returns c = record { one = walking.one_cut; not_both = walking.not_both; one_bad = walking.one_bad }
