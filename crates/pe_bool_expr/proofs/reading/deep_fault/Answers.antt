use Rattle.std.proofs.Common.{sym, subst}
use Rattle.pe_bool_expr.proofs.KnownKinds.{are_terminals}
use Rattle.pe_bool_expr.proofs.Scanning.{AreTerminals}
use Rattle.pe_bool_expr.proofs.reading.deep_fault.Goals as goal

pub first_wrong-requires : goal.first_wrong-requires
first_wrong-requires c = subst AreTerminals (sym c.requires.terminals) (are_terminals c.args.style c.args.text.now 0 c.args.tokens.now)
