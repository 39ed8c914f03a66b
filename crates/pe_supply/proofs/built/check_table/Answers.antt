use Rattle.std.proofs.Common.{Some, ap, sym, ◌∙◌}
use Rattle.pe_supply.specs.Tables.{second_table}
use Rattle.pe_supply.proofs.built.check_table.Goals as goal

pub returns-in_ok-name-in-Some : goal.returns-in_ok-name-in-Some
returns-in_ok-name-in-Some c = (c.args.names.now, c.requires, ap second_table (sym c.as_slice.ensures) ∙ sym c.in-Some.ensures ∙ ap (λ n. Some n) (sym c.in_ok-name-in-Some.ensures))

pub returns-in-None : goal.returns-in-None
returns-in-None c = record { rows = c.requires; one = ap second_table (sym c.as_slice.ensures) ∙ sym c.in-None.ensures }
