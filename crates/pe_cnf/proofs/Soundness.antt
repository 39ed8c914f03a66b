-- What holds of the clauses of a cone.
use Rattle.std.proofs.Common.{◌≡◌, ℕ, ◌<◌, Bool, true, List, [], ◌∷◌, ◌++◌, length, refl, inl, inr}
use Rattle.pe_graph.specs.declared.graph.Node.{Node}
use Rattle.pe_graph.specs.Literals.{var_of}
use Rattle.pe_graph.specs.Nodes.{IsGraph}
use Rattle.pe_graph.specs.declared.job.Goal.{Goal}
use Rattle.pe_cnf.specs.declared.equality.Equality.{Equality}
use Rattle.pe_cnf.specs.Clause.{AllBelow}
use Rattle.pe_cnf.specs.ClauseSet.{ClauseSet}
use Rattle.pe_cnf.specs.Sound.{IsSound}
use Rattle.pe_cnf.specs.Cone.{here, is_used, used_before, front_clauses, goal_clauses, cited_clauses, IsConeBy, HasGoal, HasCited}
use Rattle.pe_cnf.proofs.MarkLemmas.{before_strict}
use Rattle.pe_cnf.proofs.ConeLemmas.{ConeBelow, cone_within, cone_closed, used_cone, used_cited, variable_below, all_more, all_append, below_more, below_nothing, gates_below, goal_below, cited_below}
use Rattle.pe_cnf.proofs.GateLemmas.{cone_gated}

-- the clauses of a cone have variables below the number of used nodes
pub cone_sound : (cone : ℕ → Bool) (variable : ℕ → ℕ) (nodes : List Node) (goal : Goal) (width : ℕ) (cited : List Equality) (set : ClauseSet) → IsGraph nodes → HasGoal nodes goal → HasCited nodes cited → IsConeBy cone variable nodes goal width cited set → IsSound set
cone_sound cone variable nodes goal width cited set graph has_goal has_cited s =
    let used = is_used cone cited in
    let n = used_before used (length nodes) in
    let inside : (x : ℕ) → cone x ≡ true → x < length nodes = λ x t. cone_within nodes goal x graph has_goal ((s.cone_is x).0 t) in
    let in_cone : ConeBelow cone variable n = λ x t. variable_below used variable (length nodes) x s.variable_is (used_cone cone cited x t) (inside x t) in
    let ctx : cone (var_of goal.ctx) ≡ true = (s.cone_is (var_of goal.ctx)).1 (inl here) in
    let a : cone (var_of goal.a) ≡ true = (s.cone_is (var_of goal.a)).1 (inr (inl here)) in
    let b : cone (var_of goal.b) ≡ true = (s.cone_is (var_of goal.b)).1 (inr (inr here)) in
    let zero_used : 0 < n = before_strict used 0 (length nodes) refl graph.some in
    let all : AllBelow n (front_clauses cone variable nodes ++ goal_clauses variable goal ++ cited_clauses variable cited) =
    all_append n (front_clauses cone variable nodes ++ goal_clauses variable goal) _
    (all_append n (front_clauses cone variable nodes) _
    (all_more n (0 ∷ []) _ (below_more n 0 [] zero_used (below_nothing n)) (gates_below cone variable nodes n (length nodes) in_cone (cone_closed cone nodes goal s.cone_is)))
    (goal_below variable n goal (in_cone _ ctx) (in_cone _ a) (in_cone _ b)))
    (cited_below variable n cited (λ x h. variable_below used variable (length nodes) x s.variable_is (used_cited cone cited x h) (has_cited x h))) in
    record {
      below = rw (s.clauses_are, s.vars_are) all;
      leaves_below = λ i h. let r = s.leaves_are.each i h in rw (r.3, s.vars_are) (in_cone r.0 r.1);
      gated = λ _. cone_gated cone variable nodes goal width cited set graph has_goal s;
    }
