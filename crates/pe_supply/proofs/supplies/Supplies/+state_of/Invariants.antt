use Rattle.pe_supply.proofs.supplies.Supplies.+state_of.Given as goal

abbrev pub decreases-state_of : goal.decreases-state_of
decreases-state_of l = l.left
