-- The clauses of a cone.
use Rattle.std.proofs.Common.{◌≡◌, ℕ, zero, suc, ◌+◌, ◌<◌, ◌≤◌, ◌==◌, ◌||◌, ◌⊎◌, ◌↔◌, Some, Bool, true, false, List, [], ◌∷◌, ◌++◌, length, get_or, take, refl, sym, ap, ◌∙◌, subst, arith, inl, inr, append_assoc}
use Rattle.std.proofs.lemmas.Bool.{eqb-true}
use Rattle.std.proofs.lemmas.List.{take_more}
use Rattle.pe_graph.specs.declared.graph.Node.{Node}
use Rattle.pe_graph.specs.declared.graph.Node.TheVariants.{True, Leaf, And}
use Rattle.pe_graph.specs.Literals.{var_of, is_negated, complement_of}
use Rattle.pe_graph.specs.Nodes.{node_at, AreBelow as NamesBelow, IsGraph}
use Rattle.pe_graph.proofs.Gates.{var_of-complement_of}
use Rattle.pe_graph.proofs.Growth.{var_of-lit_of}
use Rattle.pe_graph.specs.declared.job.Goal.{Goal}
use Rattle.pe_cnf.specs.declared.equality.Equality.{Equality}
use Rattle.pe_cnf.specs.Clause.{has, IsBelow, AllBelow}
use Rattle.pe_cnf.specs.ClauseSet.{and_clauses}
use Rattle.pe_cnf.specs.Cone.{Reaches, here, left, right, InCone, cites, is_used, used_before, literal_of, node_clauses, gate_clauses, front_clauses, goal_clauses, cited_clauses, AreLeaves, IsConeBy, HasGoal}
use Rattle.pe_cnf.specs.Marks.{mark_of, entry_of, AreNumbers}
use Rattle.pe_cnf.proofs.MarkLemmas.{or_cases, or_left, or_right, true_or_false, not_both, before_strict, cites_at}

cited-append : (variable : ℕ → ℕ) (xs ys : List Equality) → cited_clauses variable (xs ++ ys) ≡ cited_clauses variable xs ++ cited_clauses variable ys
cited-append variable [] ys = refl
cited-append variable (e ∷ xs) ys = ap (λ rest. (complement_of (literal_of variable e.a) ∷ literal_of variable e.b ∷ []) ∷ (literal_of variable e.a ∷ complement_of (literal_of variable e.b) ∷ []) ∷ rest) (cited-append variable xs ys)

-- one more cited equality
pub cited_more : (variable : ℕ → ℕ) (cited : List Equality) (i : ℕ) (e : Equality) (was before mid now : List (List ℕ)) → i < length cited → get_or cited i e ≡ e → before ≡ was ++ cited_clauses variable (take i cited) → mid ≡ before ++ (complement_of (literal_of variable e.a) ∷ literal_of variable e.b ∷ []) ∷ [] → now ≡ mid ++ (literal_of variable e.a ∷ complement_of (literal_of variable e.b) ∷ []) ∷ [] → now ≡ was ++ cited_clauses variable (take (i + 1) cited)
cited_more variable cited i e was before mid now lt is start first second =
    let front = cited_clauses variable (take i cited) in
    let x = complement_of (literal_of variable e.a) ∷ literal_of variable e.b ∷ [] in
    let y = literal_of variable e.a ∷ complement_of (literal_of variable e.b) ∷ [] in
    let more : cited_clauses variable (take (i + 1) cited) ≡ front ++ (x ∷ y ∷ []) =
    ap (cited_clauses variable) (take_more cited i e lt ∙ ap (λ d. take i cited ++ d ∷ []) is) ∙ cited-append variable (take i cited) (e ∷ []) in
    let joined : now ≡ ((was ++ front) ++ x ∷ []) ++ y ∷ [] = second ∙ ap (λ xs. xs ++ y ∷ []) (first ∙ ap (λ xs. xs ++ x ∷ []) start) in
    joined ∙ append_assoc (was ++ front) (x ∷ []) (y ∷ []) ∙ append_assoc was front (x ∷ y ∷ []) ∙ ap (λ xs. was ++ xs) (sym more)

lt_or_le : (a b : ℕ) → (a < b) ⊎ (b ≤ a)
lt_or_le a b = grind arith

pub below_nothing : (n : ℕ) → IsBelow n []
below_nothing n l h = absurd (not_both false h refl)

pub below_more : (n x : ℕ) (xs : List ℕ) → var_of x < n → IsBelow n xs → IsBelow n (x ∷ xs)
below_more n x xs b s l h = elim (or_cases (x == l) (has xs l) h) [ inl at ↦ subst (λ k. var_of k < n) (eqb-true x l at) b | inr more ↦ s l more ]

pub all_nothing : (n : ℕ) → AllBelow n []
all_nothing n id = below_nothing n

pub all_more : (n : ℕ) (c : List ℕ) (cs : List (List ℕ)) → IsBelow n c → AllBelow n cs → AllBelow n (c ∷ cs)
all_more n c cs b s zero = b
all_more n c cs b s (suc id) = s id

pub all_append : (n : ℕ) (xs ys : List (List ℕ)) → AllBelow n xs → AllBelow n ys → AllBelow n (xs ++ ys)
all_append n [] ys a b = b
all_append n (x ∷ xs) ys a b = all_more n x (xs ++ ys) (a 0) (all_append n xs ys (λ id. a (suc id)) b)

-- what is reached is of the graph
reaches_within : (nodes : List Node) (top x : ℕ) → IsGraph nodes → top < length nodes → Reaches nodes top x → x < length nodes
reaches_within nodes top x graph lt here = lt
reaches_within nodes top x graph lt (left y p q r e) =
    let below = reaches_within nodes top y graph lt r in
    let named : NamesBelow y (And p q) = rw e at (graph.later y below) in
    omega (arith, named.0)
reaches_within nodes top x graph lt (right y p q r e) =
    let below = reaches_within nodes top y graph lt r in
    let named : NamesBelow y (And p q) = rw e at (graph.later y below) in
    omega (arith, named.1)

pub cone_within : (nodes : List Node) (goal : Goal) (x : ℕ) → IsGraph nodes → HasGoal nodes goal → InCone nodes goal x → x < length nodes
cone_within nodes goal x graph h c = elim c [
  | inl r ↦ reaches_within nodes (var_of goal.ctx) x graph h.ctx r
  | inr more ↦ elim more [
    | inl r ↦ reaches_within nodes (var_of goal.a) x graph h.a r
    | inr r ↦ reaches_within nodes (var_of goal.b) x graph h.b r
  ]
]

-- the inputs of a gate of the cone are in it
pub cone_left : (nodes : List Node) (goal : Goal) (x p q : ℕ) → node_at nodes x ≡ And p q → InCone nodes goal x → InCone nodes goal (var_of p)
cone_left nodes goal x p q e c = elim c [
  | inl r ↦ inl (left x p q r e)
  | inr more ↦ elim more [ inl r ↦ inr (inl (left x p q r e)) | inr r ↦ inr (inr (left x p q r e)) ]
]

pub cone_right : (nodes : List Node) (goal : Goal) (x p q : ℕ) → node_at nodes x ≡ And p q → InCone nodes goal x → InCone nodes goal (var_of q)
cone_right nodes goal x p q e c = elim c [
  | inl r ↦ inl (right x p q r e)
  | inr more ↦ elim more [ inl r ↦ inr (inl (right x p q r e)) | inr r ↦ inr (inr (right x p q r e)) ]
]

-- the used nodes, and their variables
pub used_cone : (cone : ℕ → Bool) (cited : List Equality) (x : ℕ) → cone x ≡ true → is_used cone cited x ≡ true
used_cone cone cited x h = or_right (x == 0) _ (or_left _ _ h)

pub used_cited : (cone : ℕ → Bool) (cited : List Equality) (x : ℕ) → cites cited x ≡ true → is_used cone cited x ≡ true
used_cited cone cited x h = or_right (x == 0) _ (or_right (cone x) _ h)

-- the variable of a used node is below the number of used nodes
abbrev pub AreVariables : (ℕ → Bool) → (ℕ → ℕ) → ℕ → Type 0
AreVariables used variable n = (x : ℕ) → x < n → variable x ≡ used_before used x

pub variable_below : (used : ℕ → Bool) (variable : ℕ → ℕ) (n x : ℕ) → AreVariables used variable n → used x ≡ true → x < n → variable x < used_before used n
variable_below used variable n x s t lt = rw (s x lt) (before_strict used x n t lt)

var-literal_of : (variable : ℕ → ℕ) (l : ℕ) → var_of (literal_of variable l) ≡ variable (var_of l)
var-literal_of variable l = var_of-lit_of (variable (var_of l)) (is_negated l)

literal_below : (variable : ℕ → ℕ) (n l : ℕ) → variable (var_of l) < n → var_of (literal_of variable l) < n
literal_below variable n l h = rw (var-literal_of variable l) h

complement_below : (n l : ℕ) → var_of l < n → var_of (complement_of l) < n
complement_below n l h = rw (var_of-complement_of l) h

two_below : (n x y : ℕ) → var_of x < n → var_of y < n → IsBelow n (x ∷ y ∷ [])
two_below n x y a b = below_more n x (y ∷ []) a (below_more n y [] b (below_nothing n))

and_below : (n x p q : ℕ) → var_of x < n → var_of p < n → var_of q < n → AllBelow n (and_clauses x p q)
and_below n x p q a b c =
    let nx = complement_below n x a in
    let np = complement_below n p b in
    let nq = complement_below n q c in
    let third = x ∷ complement_of p ∷ complement_of q ∷ [] in
    all_more n (complement_of x ∷ p ∷ []) ((complement_of x ∷ q ∷ []) ∷ third ∷ []) (two_below n (complement_of x) p nx b)
    (all_more n (complement_of x ∷ q ∷ []) (third ∷ []) (two_below n (complement_of x) q nx c)
    (all_more n third [] (below_more n x (complement_of p ∷ complement_of q ∷ []) a (two_below n (complement_of p) (complement_of q) np nq)) (all_nothing n)))

-- the variable of each node of the cone is below n
abbrev pub ConeBelow : (ℕ → Bool) → (ℕ → ℕ) → ℕ → Type 0
ConeBelow cone variable n = (x : ℕ) → cone x ≡ true → variable x < n

-- and the cone holds the inputs of its gates
abbrev pub IsClosed : (ℕ → Bool) → List Node → Type 0
IsClosed cone nodes = (x p q : ℕ) → cone x ≡ true → node_at nodes x ≡ And p q → (cone (var_of p) ≡ true) × (cone (var_of q) ≡ true)

node_below : (variable : ℕ → ℕ) (n x : ℕ) (node : Node) → variable x < n → ((p q : ℕ) → node ≡ And p q → (variable (var_of p) < n) × (variable (var_of q) < n)) → AllBelow n (node_clauses variable x node)
node_below variable n x True h s = all_nothing n
node_below variable n x (Leaf k) h s = all_nothing n
node_below variable n x (And p q) h s =
    let r = s p q refl in
    and_below n _ _ _ (rw (var_of-lit_of (variable x) false) h) (literal_below variable n p r.0) (literal_below variable n q r.1)

pub gates_below : (cone : ℕ → Bool) (variable : ℕ → ℕ) (nodes : List Node) (n x : ℕ) → ConeBelow cone variable n → IsClosed cone nodes → AllBelow n (gate_clauses cone variable nodes x)
gates_below cone variable nodes n zero s k = all_nothing n
gates_below cone variable nodes n (suc x) s k =
    all_append n (gate_clauses cone variable nodes x) _ (gates_below cone variable nodes n x s k)
    (elim (true_or_false (cone x)) [
      | inl t ↦ rw t (node_below variable n x (node_at nodes x) (s x t) (λ p q e. let r = k x p q t e in (s (var_of p) r.0, s (var_of q) r.1)))
      | inr f ↦ rw f (all_nothing n)
    ])

pub goal_below : (variable : ℕ → ℕ) (n : ℕ) (goal : Goal) → variable (var_of goal.ctx) < n → variable (var_of goal.a) < n → variable (var_of goal.b) < n → AllBelow n (goal_clauses variable goal)
goal_below variable n goal c a b =
    let lc = literal_below variable n goal.ctx c in
    let la = literal_below variable n goal.a a in
    let lb = literal_below variable n goal.b b in
    let a_lit = literal_of variable goal.a in
    let b_lit = literal_of variable goal.b in
    let differ = a_lit ∷ b_lit ∷ [] in
    let differ_not = complement_of a_lit ∷ complement_of b_lit ∷ [] in
    all_more n (literal_of variable goal.ctx ∷ []) (differ ∷ differ_not ∷ []) (below_more n (literal_of variable goal.ctx) [] lc (below_nothing n))
    (all_more n differ (differ_not ∷ []) (two_below n a_lit b_lit la lb)
    (all_more n differ_not [] (two_below n (complement_of a_lit) (complement_of b_lit) (complement_below n a_lit la) (complement_below n b_lit lb)) (all_nothing n)))

pub cited_below : (variable : ℕ → ℕ) (n : ℕ) (cited : List Equality) → ((x : ℕ) → cites cited x ≡ true → variable x < n) → AllBelow n (cited_clauses variable cited)
cited_below variable n [] s = all_nothing n
cited_below variable n (e ∷ cited) s =
    let r = cites_at (e ∷ cited) 0 e (omega arith) refl in
    let la = literal_below variable n e.a (s (var_of e.a) r.0) in
    let lb = literal_below variable n e.b (s (var_of e.b) r.1) in
    let a_lit = literal_of variable e.a in
    let b_lit = literal_of variable e.b in
    let second = a_lit ∷ complement_of b_lit ∷ [] in
    all_more n (complement_of a_lit ∷ b_lit ∷ []) (second ∷ cited_clauses variable cited) (two_below n (complement_of a_lit) b_lit (complement_below n a_lit la) lb)
    (all_more n second (cited_clauses variable cited) (two_below n a_lit (complement_of b_lit) la (complement_below n b_lit lb))
    (cited_below variable n cited (λ x h. s x (or_right ((x == var_of e.a) || (x == var_of e.b)) _ h))))

-- the cone holds its roots and the inputs of its gates
pub cone_closed : (cone : ℕ → Bool) (nodes : List Node) (goal : Goal) → ((x : ℕ) → (cone x ≡ true → InCone nodes goal x) × (InCone nodes goal x → cone x ≡ true)) → IsClosed cone nodes
cone_closed cone nodes goal s x p q t e = ((s (var_of p)).1 (cone_left nodes goal x p q e ((s x).0 t)), (s (var_of q)).1 (cone_right nodes goal x p q e ((s x).0 t)))

-- what the parts of a cone make
pub made_cone : (nodes : List Node) (goal : Goal) (width : ℕ) (cited : List Equality) (marks marks2 : List Bool) (numbers numbers2 : List ℕ) (leaves : List (ℕ × ℕ)) (truth gates : ℕ) (none first front mid all : List (List ℕ)) → length marks ≡ length nodes → ((x : ℕ) → (mark_of marks x ≡ true) ↔ InCone nodes goal x) → marks2 ≡ marks → numbers2 ≡ numbers → AreNumbers (is_used (mark_of marks2) cited) (length marks2) numbers → AreLeaves (mark_of marks2) (entry_of numbers2) nodes leaves → none ≡ [] → truth ≡ 0 → first ≡ none ++ (truth ∷ []) ∷ [] → front ≡ first ++ gate_clauses (mark_of marks2) (entry_of numbers2) nodes (length nodes) → gates ≡ length front → mid ≡ front ++ goal_clauses (entry_of numbers2) goal → all ≡ mid ++ cited_clauses (entry_of numbers2) cited → IsConeBy (mark_of marks2) (entry_of numbers2) nodes goal width cited (record { clauses = all; vars = get_or numbers2 (length marks2) 0; leaves = leaves; width = width; goal = Some goal; gates = gates })
made_cone nodes goal width cited marks marks2 numbers numbers2 leaves truth gates none first front mid all room marked em en count leaves_are e0 et e1 e2 eg e3 e4 =
    let size : length marks2 ≡ length nodes = ap length em ∙ room in
    let front_is : front ≡ front_clauses (mark_of marks2) (entry_of numbers2) nodes =
    e2 ∙ ap (λ xs. xs ++ gate_clauses (mark_of marks2) (entry_of numbers2) nodes (length nodes)) (e1 ∙ ap (λ xs. xs ++ (truth ∷ []) ∷ []) e0 ∙ ap (λ t. (t ∷ []) ∷ []) et) in
    record {
      cone_is = subst (λ m. (x : ℕ) → (mark_of m x ≡ true) ↔ InCone nodes goal x) (sym em) marked;
      variable_is = λ x lt. ap (λ xs. entry_of xs x) en ∙ count.each x (omega arith);
      clauses_are = e4 ∙ ap (λ xs. xs ++ cited_clauses (entry_of numbers2) cited) (e3 ∙ ap (λ xs. xs ++ goal_clauses (entry_of numbers2) goal) front_is);
      vars_are = ap (λ xs. entry_of xs (length marks2)) en ∙ count.each (length marks2) (omega arith) ∙ ap (used_before (is_used (mark_of marks2) cited)) size;
      leaves_are = leaves_are;
      width_is = refl;
      goal_is = refl;
      gates_are = eg ∙ ap length front_is;
    }
