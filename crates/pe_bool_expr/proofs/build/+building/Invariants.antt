use Rattle.std.proofs.Common.{◌≡◌, ◌+◌, ◌++◌, take, drop}
use Rattle.std.specs.Prelude.{map}
use Rattle.pe_grammar.specs.Derivation.{derivation}
use Rattle.pe_bool_expr.specs.Meaning.{behind_operator}
use Rattle.pe_bool_expr.specs.Styles.{operators}
use Rattle.pe_bool_expr.proofs.build.+building.Given as goal

abbrev pub invariant-make_operands-loop-next : goal.invariant-make_operands-loop-next
invariant-make_operands-loop-next l =
    l.all ≡ l.initial.all ++ map (λ t. behind_operator (operators l.style) l.pins (drop (l.level + 1) (operators l.style)) (derivation t)) (take l.next-index l.rest)
