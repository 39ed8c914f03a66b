use Rattle.std.proofs.Common.{◌≡◌, ◌<◌, ◌-◌, ◌≤◌, ℕ, true}
use Rattle.std.specs.Prelude.{eqb}
use Rattle.std.specs.List.{list_any}
use Rattle.pe_grammar.specs.Derivation.{has}
use Rattle.pe_grammar.proofs.look.has_each.Given as goal

abbrev pub invariant-loop-kind : goal.invariant-loop-kind
invariant-loop-kind l = (l.kind ≤ 128) × ((k : ℕ) → k < l.kind → has l.needed k ≡ true → list_any (λ y. eqb y k) l.used ≡ true)

abbrev pub decreases-loop-kind : goal.decreases-loop-kind
decreases-loop-kind l = 128 - l.kind
