-- Evidence that is judged: good, or wrong at a step.
use Rattle.std.proofs.Common.{◌≡◌, ℕ, ◌≤◌, ◌<◌, ◌↔◌, Bool, true, false, not, IsTrue, Option, None, Some, is_none, List, [], ◌∷◌, map, length, get_or, refl, sym, arith, inl, inr, zero, suc}
use Rattle.std.specs.Prelude.{MatchOption, is_some}
use Rattle.pe_graph.specs.declared.graph.Node.{Node}
use Rattle.pe_graph.specs.Nodes.{IsGraph}
use Rattle.pe_cnf.specs.Clause.{IsBelow, AllBelow}
use Rattle.pe_cnf.specs.ClauseSet.{ClauseSet}
use Rattle.pe_cnf.specs.Cone.{HasGoal, HasCited}
use Rattle.pe_cnf.specs.Meaning.{AreTrue, Holds}
use Rattle.pe_cnf.specs.declared.equality.Equality.{Equality}
use Rattle.pe_refute.specs.Chain.{clause_of, IsGoodChain}
use Rattle.pe_refute.specs.Faults.{IsChainFault, IsWrongAt}
use Rattle.pe_refute.specs.Evidence.{IsGood, IsWithin, ProvesGoal}
use Rattle.pe_refute.specs.Entries.{goal_of, IsJudged}
use Rattle.pe_refute.specs.declared.evidence.Derived.{Derived}
use Rattle.pe_refute.specs.declared.evidence.Evidence.{Evidence}
use Rattle.pe_refute.specs.declared.evidence.Evidence.TheVariants.{Table, Chain}
use Rattle.pe_refute.proofs.Walk.{false_is_true}
use Rattle.pe_refute.proofs.Sound.{chain_proves, table_proves, below_wider}

chain_wrong : (given : List (List ℕ)) (chain : List Derived) (step : ℕ) → IsChainFault given chain step → IsGoodChain given chain → ⊥
chain_wrong given [] step f g = omega (arith, g.ends.0)
chain_wrong given (d ∷ chain) step f g = elim f.wrong [
  | inl w ↦ w.1 d (g.derived step d w.0)
  | inr w ↦ w.1 g.ends
]

some_none : (o : Option ℕ) → IsTrue (is_none o) → IsTrue (is_some o) → ⊥
some_none None a b = false_is_true false refl b
some_none (Some x) a b = false_is_true false refl a

-- what is wrong at a step is not good
pub wrong_not_good : (set : ClauseSet) (e : Evidence) (step : ℕ) → IsWrongAt set e step → IsGood set e → ⊥
wrong_not_good set Table step f g = elim f [
  | inl w ↦ elim w.0 [ inl n ↦ cc | inr more ↦ omega (arith, more, g.few) ]
  | inr w ↦ g.none w.breaks.0 w.breaks.2
]
wrong_not_good set (Chain chain) step f g = chain_wrong set.clauses _ step f g

-- evidence is good exactly where nothing is wrong
pub good_at : (set : ClauseSet) (e : Evidence) (o : Option ℕ) (b : Bool) → is_some o ≡ not b → MatchOption o (IsGood set e) (IsWrongAt set e) → IsTrue b ↔ IsGood set e
good_at set e None true h m = (λ t. m, λ g. refl)
good_at set e None false h m = absurd (false_is_true false refl h)
good_at set e (Some step) true h m = absurd (false_is_true false refl (sym h))
good_at set e (Some step) false h m = (λ t. absurd (false_is_true false refl t), λ g. absurd (wrong_not_good set e step m g))

pub evidence_proves : (set : ClauseSet) (e : Evidence) → IsGood set e → ProvesGoal set
evidence_proves set Table g = table_proves set g
evidence_proves set (Chain chain) g = chain_proves set _ g

-- from a verdict to the equality
pub judged_proves : (nodes : List Node) (width : ℕ) (eq : Equality) (cited : List Equality) (e : Evidence) (fault : Option ℕ) → IsGraph nodes → HasGoal nodes (goal_of 0 eq) → HasCited nodes cited →
    IsJudged nodes width eq cited e fault → fault ≡ None → AreTrue nodes eq.ctx cited → Holds nodes eq
judged_proves nodes width eq cited e None g hg hc j is t =
    evidence_proves j.0 e j.2 nodes (goal_of width eq) width cited g (record { ctx = hg.ctx; a = hg.a; b = hg.b }) hc j.1 t
judged_proves nodes width eq cited e (Some step) g hg hc j is t = absurd cc

-- more room
pub within_wider : (n m : ℕ) (e : Evidence) → n ≤ m → IsWithin n e → IsWithin m e
within_wider n m Table h w = w
within_wider n m (Chain chain) h w = below_wider n m _ h w

pub each_below : (n : ℕ) (chain : List Derived) → ((j : ℕ) (d : Derived) → j < length chain → IsBelow n (clause_of (get_or chain j d))) → AllBelow n (map clause_of chain)
each_below n [] s id l h = absurd (false_is_true false refl h)
each_below n (d ∷ chain) s zero l h = s 0 d (omega arith) l h
each_below n (d ∷ chain) s (suc id) l h = each_below n chain (λ j e lt. s (suc j) e (omega arith)) id l h
