use Rattle.std.proofs.Common.{◌≡◌, ◌<◌, ℕ, Some}
use Rattle.pe_graph.specs.Nodes.{IsIn}
use Rattle.pe_cnf.specs.declared.equality.Equality.{Equality}
use Rattle.pe_refute.specs.Entries.{seen_at}
use Rattle.pe_refute.proofs.checkable.all_in.Given as goal

abbrev pub invariant-loop-place : goal.invariant-loop-place
invariant-loop-place l = (i : ℕ) → i < l.place-index → (e : Equality) → seen_at l.seen i ≡ Some e → (IsIn l.graph e.a) × (IsIn l.graph e.b)
