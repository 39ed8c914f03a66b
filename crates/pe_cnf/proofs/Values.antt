-- The values of the variables of a cone.
use Rattle.std.proofs.Common.{◌≡◌, ◌≢◌, ℕ, zero, suc, ◌<◌, ◌==◌, ◌||◌, ◌&&◌, ◌⊎◌, Bool, true, false, cond, not, List, [], ◌∷◌, ◌++◌, length, get_or, refl, sym, ap, ◌∙◌, arith, inl, inr, eq-eqb}
use Rattle.std.proofs.lemmas.Bool.Decides.{eqb_tells}
use Rattle.pe_graph.specs.declared.graph.Node.{Node}
use Rattle.pe_graph.specs.declared.graph.Node.TheVariants.{True, Leaf, And}
use Rattle.pe_graph.specs.Literals.{var_of, is_negated, lit_of, complement_of}
use Rattle.pe_graph.specs.Nodes.{node_at, node_value, values, value_in, IsGraph}
use Rattle.pe_graph.proofs.Gates.{var_of-complement_of, is_negated-complement_of, value_in-true}
use Rattle.pe_graph.proofs.Growth.{var_of-lit_of, is_negated-lit_of, value_in-plain}
use Rattle.pe_graph.specs.declared.job.Goal.{Goal}
use Rattle.pe_cnf.specs.declared.equality.Equality.{Equality}
use Rattle.pe_cnf.specs.Clause.{literal_value, clause_value, Satisfies}
use Rattle.pe_cnf.specs.ClauseSet.{ClauseSet, and_clauses}
use Rattle.pe_cnf.specs.Cone.{here, cites, is_used, used_before, literal_of, node_clauses, gate_clauses, front_clauses, goal_clauses, cited_clauses, IsConeBy, HasGoal, HasCited}
use Rattle.pe_cnf.specs.Meaning.{AreTrue}
use Rattle.pe_cnf.proofs.MarkLemmas.{or_right, true_or_false, before_strict, cites_at}
use Rattle.pe_cnf.proofs.ConeLemmas.{AreVariables, IsClosed, cone_within, cone_closed, used_cone, used_cited}

-- the complement of a literal has the other value
not_cond : (t x : Bool) → cond (not t) (not x) x ≡ not (cond t (not x) x)
not_cond true true = refl
not_cond true false = refl
not_cond false x = refl

pub value_complement : (w : ℕ → Bool) (l : ℕ) → literal_value w (complement_of l) ≡ not (literal_value w l)
value_complement w l = rw (var_of-complement_of l, is_negated-complement_of l) (not_cond (is_negated l) (w (var_of l)))

-- clauses that are true
pub all_true : (w : ℕ → Bool) → Satisfies w []
all_true w id h = absurd (omega arith)

pub more_true : (w : ℕ → Bool) (c : List ℕ) (cs : List (List ℕ)) → clause_value w c ≡ true → Satisfies w cs → Satisfies w (c ∷ cs)
more_true w c cs t s zero h = t
more_true w c cs t s (suc id) h = s id (omega arith)

pub append_true : (w : ℕ → Bool) (xs ys : List (List ℕ)) → Satisfies w xs → Satisfies w ys → Satisfies w (xs ++ ys)
append_true w [] ys s t = t
append_true w (x ∷ xs) ys s t = more_true w x (xs ++ ys) (s 0 (omega arith)) (append_true w xs ys (λ id h. s (suc id) (omega arith)) t)

-- the used node of a number, among the first n
abbrev pub node_of : (ℕ → Bool) → ℕ → ℕ → ℕ
node_of used zero k = 0
node_of used (suc x) k = cond (used x && (used_before used x == k)) x (node_of used x k)

lt_or_at : (x m : ℕ) → x < suc m → (x < m) ⊎ (x ≡ m)
lt_or_at x m h = grind arith

no_number : (u t : Bool) → t ≡ false → (u && t) ≡ false
no_number true t h = h
no_number false t h = refl

pub node_of_number : (used : ℕ → Bool) (n x : ℕ) → used x ≡ true → x < n → node_of used n (used_before used x) ≡ x
node_of_number used zero x t lt = absurd (omega arith)
node_of_number used (suc m) x t lt =
    elim (lt_or_at x m lt) [
      | inl less ↦
          let rise = before_strict used x m t less in
          let other : (used_before used m == used_before used x) ≡ false =
          elim (eqb_tells (used_before used m) (used_before used x)) [ inl same ↦ absurd (omega (arith, same.1)) | inr f ↦ f.0 ] in
          rw (no_number (used m) (used_before used m == used_before used x) other) (node_of_number used m x t less)
      | inr at ↦
          let same : (used_before used m == used_before used x) ≡ true = eq-eqb _ _ (ap (used_before used) (sym at)) in
          let here_used : used m ≡ true = ap used (sym at) ∙ t in
          rw (same, here_used) (sym at)
    ]

-- the values of the variables: those of their nodes
abbrev pub values_of : (ℕ → Bool) → (ℕ → Bool) → List Node → ℕ → Bool
values_of used v nodes k = get_or (values v nodes) (node_of used (length nodes) k) false

-- the literal of a used node has the node's value
pub value_literal : (used : ℕ → Bool) (variable : ℕ → ℕ) (v : ℕ → Bool) (nodes : List Node) (l : ℕ) → AreVariables used variable (length nodes) → used (var_of l) ≡ true → var_of l < length nodes → literal_value (values_of used v nodes) (literal_of variable l) ≡ value_in v nodes l
value_literal used variable v nodes l s t lt =
    let at : values_of used v nodes (variable (var_of l)) ≡ get_or (values v nodes) (var_of l) false =
    ap (λ k. values_of used v nodes k) (s (var_of l) lt) ∙ ap (λ x. get_or (values v nodes) x false) (node_of_number used (length nodes) (var_of l) t lt) in
    rw (var_of-lit_of (variable (var_of l)) (is_negated l), is_negated-lit_of (variable (var_of l)) (is_negated l), at) refl

pub and_true : (x p q : Bool) → x ≡ (p && q) → ((not x || (p || false)) ≡ true) × ((not x || (q || false)) ≡ true) × ((x || (not p || (not q || false))) ≡ true)
and_true x true true e = rw e (refl, refl, refl)
and_true x true false e = rw e (refl, refl, refl)
and_true x false q e = rw e (refl, refl, refl)

pub gate_true : (w : ℕ → Bool) (x p q : ℕ) → literal_value w x ≡ (literal_value w p && literal_value w q) → Satisfies w (and_clauses x p q)
gate_true w x p q e =
    let nx = value_complement w x in
    let np = value_complement w p in
    let nq = value_complement w q in
    let r = and_true (literal_value w x) (literal_value w p) (literal_value w q) e in
    let third = x ∷ complement_of p ∷ complement_of q ∷ [] in
    more_true w (complement_of x ∷ p ∷ []) ((complement_of x ∷ q ∷ []) ∷ third ∷ []) (ap (λ b. b || (literal_value w p || false)) nx ∙ r.0)
    (more_true w (complement_of x ∷ q ∷ []) (third ∷ []) (ap (λ b. b || (literal_value w q || false)) nx ∙ r.1)
    (more_true w third [] (ap (λ b. literal_value w x || (b || (literal_value w (complement_of q) || false))) np ∙ ap (λ b. literal_value w x || (not (literal_value w p) || (b || false))) nq ∙ r.2) (all_true w)))

-- the nodes of the cone are used
abbrev pub ConeUsed : (ℕ → Bool) → (ℕ → Bool) → List Node → Type 0
ConeUsed cone used nodes = (x : ℕ) → cone x ≡ true → (used x ≡ true) × (x < length nodes)

-- the literal of the node itself
plain_value : (used : ℕ → Bool) (variable : ℕ → ℕ) (v : ℕ → Bool) (nodes : List Node) (x : ℕ) (node : Node) → IsGraph nodes → AreVariables used variable (length nodes) → used x ≡ true → x < length nodes → node_at nodes x ≡ node → literal_value (values_of used v nodes) (lit_of (variable x) false) ≡ node_value v (values v nodes) node
plain_value used variable v nodes x node graph s t lt e =
    let l = lit_of x false in
    let at : var_of l ≡ x = var_of-lit_of x false in
    let plain : is_negated l ≡ false = is_negated-lit_of x false in
    let same : literal_of variable l ≡ lit_of (variable x) false = ap (λ y. lit_of (variable y) (is_negated l)) at ∙ ap (λ b. lit_of (variable x) b) plain in
    ap (literal_value (values_of used v nodes)) (sym same) ∙ value_literal used variable v nodes l s (ap used at ∙ t) (omega (arith, at)) ∙ value_in-plain v nodes node l graph (record { inside = omega (arith, at); plain = plain; is = ap (node_at nodes) at ∙ e })

node_true : (used : ℕ → Bool) (variable : ℕ → ℕ) (v : ℕ → Bool) (nodes : List Node) (x : ℕ) (node : Node) → IsGraph nodes → AreVariables used variable (length nodes) → used x ≡ true → x < length nodes → node_at nodes x ≡ node → ((p q : ℕ) → node ≡ And p q → ((used (var_of p) ≡ true) × (var_of p < length nodes)) × ((used (var_of q) ≡ true) × (var_of q < length nodes))) → Satisfies (values_of used v nodes) (node_clauses variable x node)
node_true used variable v nodes x True graph s t lt e k = all_true (values_of used v nodes)
node_true used variable v nodes x (Leaf n) graph s t lt e k = all_true (values_of used v nodes)
node_true used variable v nodes x (And p q) graph s t lt e k =
    let r = k p q refl in
    let w = values_of used v nodes in
    let out : literal_value w (lit_of (variable x) false) ≡ (value_in v nodes p && value_in v nodes q) = plain_value used variable v nodes x (And p q) graph s t lt e in
    let left_value = value_literal used variable v nodes p s r.0.0 r.0.1 in
    let right_value = value_literal used variable v nodes q s r.1.0 r.1.1 in
    gate_true w (lit_of (variable x) false) (literal_of variable p) (literal_of variable q)
    (out ∙ sym (ap (λ b. b && literal_value w (literal_of variable q)) left_value ∙ ap (λ b. value_in v nodes p && b) right_value))

gates_true : (cone used : ℕ → Bool) (variable : ℕ → ℕ) (v : ℕ → Bool) (nodes : List Node) (n : ℕ) → IsGraph nodes → AreVariables used variable (length nodes) → ConeUsed cone used nodes → IsClosed cone nodes → Satisfies (values_of used v nodes) (gate_clauses cone variable nodes n)
gates_true cone used variable v nodes zero graph s c k = all_true (values_of used v nodes)
gates_true cone used variable v nodes (suc x) graph s c k =
    append_true (values_of used v nodes) (gate_clauses cone variable nodes x) _ (gates_true cone used variable v nodes x graph s c k)
    (elim (true_or_false (cone x)) [
      | inl t ↦ rw t (node_true used variable v nodes x (node_at nodes x) graph s (c x t).0 (c x t).1 refl (λ p q e. let r = k x p q t e in (c (var_of p) r.0, c (var_of q) r.1)))
      | inr f ↦ rw f (all_true (values_of used v nodes))
    ])

-- the constant's clause and those of the gates are true
pub front_true : (cone used : ℕ → Bool) (variable : ℕ → ℕ) (v : ℕ → Bool) (nodes : List Node) → IsGraph nodes → used 0 ≡ true → AreVariables used variable (length nodes) → ConeUsed cone used nodes → IsClosed cone nodes → Satisfies (values_of used v nodes) (front_clauses cone variable nodes)
front_true cone used variable v nodes graph first s c k =
    let w = values_of used v nodes in
    let zero_is : variable 0 ≡ 0 = s 0 graph.some in
    let constant : literal_value w 0 ≡ true = ap (λ x. get_or (values v nodes) x false) (node_of_number used (length nodes) 0 first graph.some) ∙ value_in-true v nodes graph in
    more_true w (0 ∷ []) (gate_clauses cone variable nodes (length nodes)) (ap (λ b. b || false) constant) (gates_true cone used variable v nodes (length nodes) graph s c k)

differ_true : (a b : Bool) → (a ≡ b → ⊥) → ((a || (b || false)) ≡ true) × ((not a || (not b || false)) ≡ true)
differ_true true true h = absurd (h refl)
differ_true true false h = (refl, refl)
differ_true false true h = (refl, refl)
differ_true false false h = absurd (h refl)

equal_true : (a b : Bool) → a ≡ b → ((not a || (b || false)) ≡ true) × ((a || (not b || false)) ≡ true)
equal_true true b e = rw (← e) (refl, refl)
equal_true false b e = rw (← e) (refl, refl)

goal_true : (w : ℕ → Bool) (variable : ℕ → ℕ) (v : ℕ → Bool) (nodes : List Node) (goal : Goal) → literal_value w (literal_of variable goal.ctx) ≡ value_in v nodes goal.ctx → literal_value w (literal_of variable goal.a) ≡ value_in v nodes goal.a → literal_value w (literal_of variable goal.b) ≡ value_in v nodes goal.b → value_in v nodes goal.ctx ≡ true → value_in v nodes goal.a ≢ value_in v nodes goal.b → Satisfies w (goal_clauses variable goal)
goal_true w variable v nodes goal c a b t d =
    let la = literal_of variable goal.a in
    let lb = literal_of variable goal.b in
    let differ = la ∷ lb ∷ [] in
    let differ_not = complement_of la ∷ complement_of lb ∷ [] in
    let r = differ_true (literal_value w la) (literal_value w lb) (λ e. d (sym a ∙ e ∙ b)) in
    more_true w (literal_of variable goal.ctx ∷ []) (differ ∷ differ_not ∷ []) (ap (λ x. x || false) (c ∙ t))
    (more_true w differ (differ_not ∷ []) r.0
    (more_true w differ_not [] (ap (λ x. x || (literal_value w (complement_of lb) || false)) (value_complement w la) ∙ ap (λ x. not (literal_value w la) || (x || false)) (value_complement w lb) ∙ r.1) (all_true w)))

-- the values of the sides of cited equalities
abbrev pub HasValues : (ℕ → Bool) → (ℕ → ℕ) → (ℕ → Bool) → List Node → ℕ → Type 0
HasValues w variable v nodes l = literal_value w (literal_of variable l) ≡ value_in v nodes l

cited_true : (w : ℕ → Bool) (variable : ℕ → ℕ) (v : ℕ → Bool) (nodes : List Node) (ctx : ℕ) (cited : List Equality) → IsGraph nodes → ((l : ℕ) → cites cited (var_of l) ≡ true → HasValues w variable v nodes l) → value_in v nodes ctx ≡ true → AreTrue nodes ctx cited → Satisfies w (cited_clauses variable cited)
cited_true w variable v nodes ctx [] graph s t h = all_true w
cited_true w variable v nodes ctx (e ∷ cited) graph s t h =
    let r = cites_at (e ∷ cited) 0 e (omega arith) refl in
    let la = literal_of variable e.a in
    let lb = literal_of variable e.b in
    let on : value_in v nodes e.ctx ≡ true = elim h.0 [ inl same ↦ ap (value_in v nodes) same ∙ t | inr one ↦ ap (value_in v nodes) one ∙ value_in-true v nodes graph ] in
    let same : literal_value w la ≡ literal_value w lb = s e.a r.0 ∙ h.1 v on ∙ sym (s e.b r.1) in
    let two = equal_true (literal_value w la) (literal_value w lb) same in
    let second = la ∷ complement_of lb ∷ [] in
    more_true w (complement_of la ∷ lb ∷ []) (second ∷ cited_clauses variable cited) (ap (λ x. x || (literal_value w lb || false)) (value_complement w la) ∙ two.0)
    (more_true w second (cited_clauses variable cited) (ap (λ x. literal_value w la || (x || false)) (value_complement w lb) ∙ two.1)
    (cited_true w variable v nodes ctx cited graph (λ l q. s l (or_right ((var_of l == var_of e.a) || (var_of l == var_of e.b)) _ q)) t h.2))

-- where the context is 1, the sides differ and the cited equalities are true, each clause is true under some assignment
pub cone_satisfied : (cone : ℕ → Bool) (variable : ℕ → ℕ) (nodes : List Node) (goal : Goal) (width : ℕ) (cited : List Equality) (set : ClauseSet) (v : ℕ → Bool) → IsGraph nodes → HasGoal nodes goal → HasCited nodes cited → IsConeBy cone variable nodes goal width cited set → AreTrue nodes goal.ctx cited → value_in v nodes goal.ctx ≡ true → value_in v nodes goal.a ≢ value_in v nodes goal.b → (w : ℕ → Bool) × Satisfies w set.clauses
cone_satisfied cone variable nodes goal width cited set v graph has_goal has_cited s true_cited on differ =
    let used = is_used cone cited in
    let w = values_of used v nodes in
    let is_cone : ConeUsed cone used nodes = λ x t. (used_cone cone cited x t, cone_within nodes goal x graph has_goal ((s.cone_is x).0 t)) in
    let value_at : (l : ℕ) → used (var_of l) ≡ true → var_of l < length nodes → HasValues w variable v nodes l = λ l t lt. value_literal used variable v nodes l s.variable_is t lt in
    let in_cone : (l : ℕ) → cone (var_of l) ≡ true → HasValues w variable v nodes l = λ l t. value_at l (is_cone (var_of l) t).0 (is_cone (var_of l) t).1 in
    let ctx : cone (var_of goal.ctx) ≡ true = (s.cone_is (var_of goal.ctx)).1 (inl here) in
    let a : cone (var_of goal.a) ≡ true = (s.cone_is (var_of goal.a)).1 (inr (inl here)) in
    let b : cone (var_of goal.b) ≡ true = (s.cone_is (var_of goal.b)).1 (inr (inr here)) in (
      w,
      rw s.clauses_are (append_true w (front_clauses cone variable nodes ++ goal_clauses variable goal) (cited_clauses variable cited)
          (append_true w (front_clauses cone variable nodes) (goal_clauses variable goal)
          (front_true cone used variable v nodes graph refl s.variable_is is_cone (cone_closed cone nodes goal s.cone_is))
          (goal_true w variable v nodes goal (in_cone goal.ctx ctx) (in_cone goal.a a) (in_cone goal.b b) on differ))
          (cited_true w variable v nodes goal.ctx cited graph (λ l q. value_at l (used_cited cone cited (var_of l) q) (has_cited (var_of l) q)) on true_cited)),
    )
