use Rattle.pe_reader.proofs.Readings.{one, never_both, one_fault}
use Rattle.pe_reader.proofs.laws.one_reading.Goals as goal

pub returns-clause-one : goal.returns-clause-one
returns-clause-one c = one

pub returns-clause-not_both : goal.returns-clause-not_both
returns-clause-not_both c = never_both

pub returns-clause-one_fault : goal.returns-clause-one_fault
returns-clause-one_fault c = one_fault
