-- What an assignment tells that makes the clauses of a question true.
use Rattle.std.proofs.Common.{◌≡◌, ◌≢◌, ℕ, zero, suc, ◌+◌, ◌<◌, ◌||◌, ◌&&◌, ◌⊎◌, Bool, true, false, cond, not, List, [], ◌∷◌, ◌++◌, length, get_or, take, refl, sym, ap, ◌∙◌, subst, arith, inl, inr, length-append}
use Rattle.std.proofs.Math.Seq.{take-append_seam}
use Rattle.pe_graph.specs.declared.graph.Node.{Node}
use Rattle.pe_graph.specs.declared.graph.Node.TheVariants.{True, Leaf, And}
use Rattle.pe_graph.specs.declared.job.Goal.{Goal}
use Rattle.pe_graph.specs.Literals.{var_of, is_negated, lit_of, complement_of}
use Rattle.pe_graph.specs.Nodes.{node_at, node_value, values, value_in, IsGraph}
use Rattle.pe_graph.proofs.Growth.{var_of-lit_of, is_negated-lit_of, value_in-plain}
use Rattle.pe_cnf.specs.declared.equality.Equality.{Equality}
use Rattle.pe_cnf.specs.Clause.{literal_value, Satisfies}
use Rattle.pe_cnf.specs.ClauseSet.{ClauseSet, and_clauses}
use Rattle.pe_cnf.specs.Cone.{here, literal_of, node_clauses, gate_clauses, front_clauses, goal_clauses, cited_clauses, IsConeBy, HasGoal}
use Rattle.pe_cnf.specs.Forced.{AgreeAtLeaves}
use Rattle.pe_cnf.proofs.MarkLemmas.{not_both}
use Rattle.pe_cnf.proofs.ConeLemmas.{cone_within}
use Rattle.pe_cnf.proofs.GateLemmas.{cone_frame, same_content}
use Rattle.pe_cnf.proofs.Values.{value_complement, all_true, more_true}

-- the parts of clauses that are true
pub left_true : (w : ℕ → Bool) (xs ys : List (List ℕ)) → Satisfies w (xs ++ ys) → Satisfies w xs
left_true w [] ys s = all_true w
left_true w (x ∷ xs) ys s = more_true w x xs (s 0 (omega arith)) (left_true w xs ys (λ id h. s (suc id) (omega arith)))

pub right_true : (w : ℕ → Bool) (xs ys : List (List ℕ)) → Satisfies w (xs ++ ys) → Satisfies w ys
right_true w [] ys s = s
right_true w (x ∷ xs) ys s = right_true w xs ys (λ id h. s (suc id) (omega arith))

-- the clauses of a gate make its output what its inputs give
and_forced : (x p q : Bool) → (not x || (p || false)) ≡ true → (not x || (q || false)) ≡ true → (x || (not p || (not q || false))) ≡ true → x ≡ (p && q)
and_forced true true true a b c = refl
and_forced true true false a b c = absurd (not_both false b refl)
and_forced true false q a b c = absurd (not_both false a refl)
and_forced false true true a b c = absurd (not_both false c refl)
and_forced false true false a b c = refl
and_forced false false q a b c = refl

pub gate_forced : (w : ℕ → Bool) (x p q : ℕ) → Satisfies w (and_clauses x p q) → literal_value w x ≡ (literal_value w p && literal_value w q)
gate_forced w x p q s =
    let nx = value_complement w x in
    let np = value_complement w p in
    let nq = value_complement w q in
    and_forced (literal_value w x) (literal_value w p) (literal_value w q)
    (sym (ap (λ b. b || (literal_value w p || false)) nx) ∙ s 0 (omega arith))
    (sym (ap (λ b. b || (literal_value w q || false)) nx) ∙ s 1 (omega arith))
    (sym (ap (λ b. literal_value w x || (b || (literal_value w (complement_of q) || false))) np ∙ ap (λ b. literal_value w x || (not (literal_value w p) || (b || false))) nq) ∙ s 2 (omega arith))

lt_or_at : (x n : ℕ) → x < suc n → (x < n) ⊎ (x ≡ n)
lt_or_at x n h = grind arith

-- a gate of the cone has its clauses among those of the first n nodes
gate_true : (w : ℕ → Bool) (cone : ℕ → Bool) (variable : ℕ → ℕ) (nodes : List Node) (n x p q : ℕ) → x < n → cone x ≡ true → node_at nodes x ≡ And p q → Satisfies w (gate_clauses cone variable nodes n) → Satisfies w (and_clauses (lit_of (variable x) false) (literal_of variable p) (literal_of variable q))
gate_true w cone variable nodes zero x p q lt t e s = absurd (omega arith)
gate_true w cone variable nodes (suc m) x p q lt t e s =
    elim (lt_or_at x m lt) [
      | inl less ↦ gate_true w cone variable nodes m x p q less t e (left_true w (gate_clauses cone variable nodes m) _ s)
      | inr at ↦
          let c : cone m ≡ true = ap cone (sym at) ∙ t in
          let n : node_at nodes m ≡ And p q = ap (node_at nodes) (sym at) ∙ e in
          subst (Satisfies w)
          (ap (λ b. cond b (node_clauses variable m (node_at nodes m)) []) c ∙ ap (node_clauses variable m) n ∙ ap (λ y. node_clauses variable y (And p q)) (sym at))
          (right_true w (gate_clauses cone variable nodes m) _ s)
    ]

-- the value of a node, by its number
node_has : (v : ℕ → Bool) (nodes : List Node) (x : ℕ) (node : Node) → IsGraph nodes → x < length nodes → node_at nodes x ≡ node → get_or (values v nodes) x false ≡ node_value v (values v nodes) node
node_has v nodes x node graph lt e =
    let at = var_of-lit_of x false in
    let plain = is_negated-lit_of x false in
    let same : value_in v nodes (lit_of x false) ≡ get_or (values v nodes) x false = rw (at, plain) refl in
    sym same ∙ value_in-plain v nodes node (lit_of x false) graph (record { inside = omega (arith, at); plain = plain; is = ap (node_at nodes) at ∙ e })

-- a variable with its node's value
abbrev pub HasNodeValue : (ℕ → Bool) → (ℕ → ℕ) → (ℕ → Bool) → List Node → ℕ → Type 0
HasNodeValue w variable v nodes x = w (variable x) ≡ get_or (values v nodes) x false

literal_has : (w : ℕ → Bool) (variable : ℕ → ℕ) (v : ℕ → Bool) (nodes : List Node) (l : ℕ) → HasNodeValue w variable v nodes (var_of l) → literal_value w (literal_of variable l) ≡ value_in v nodes l
literal_has w variable v nodes l e = rw (var_of-lit_of (variable (var_of l)) (is_negated l), is_negated-lit_of (variable (var_of l)) (is_negated l), e) refl

plain_has : (w : ℕ → Bool) (y : ℕ) → literal_value w (lit_of y false) ≡ w y
plain_has w y = rw (var_of-lit_of y false, is_negated-lit_of y false) refl

node_forced : (cone : ℕ → Bool) (variable : ℕ → ℕ) (nodes : List Node) (goal : Goal) (width : ℕ) (cited : List Equality) (set : ClauseSet) (w v : ℕ → Bool) (x : ℕ) (node : Node) → IsGraph nodes → HasGoal nodes goal → IsConeBy cone variable nodes goal width cited set → AgreeAtLeaves w v set.leaves → w 0 ≡ true → Satisfies w (gate_clauses cone variable nodes (length nodes)) → cone x ≡ true → node_at nodes x ≡ node → ((y : ℕ) → y < x → cone y ≡ true → HasNodeValue w variable v nodes y) → HasNodeValue w variable v nodes x
node_forced cone variable nodes goal width cited set w v x True graph has_goal s agree one gates t e before =
    let frame = cone_frame cone variable nodes goal width cited set graph has_goal s in
    let lt = cone_within nodes goal x graph has_goal ((s.cone_is x).0 t) in
    ap w (frame.constant x t e) ∙ one ∙ sym (node_has v nodes x True graph lt e)
node_forced cone variable nodes goal width cited set w v x (Leaf k) graph has_goal s agree one gates t e before =
    let inside : (x : ℕ) → cone x ≡ true → x < length nodes = λ x t. cone_within nodes goal x graph has_goal ((s.cone_is x).0 t) in
    let r = s.leaves_are.all x k t e in
    let f = s.leaves_are.each r.0 r.1 in
    let same : node_at nodes f.0 ≡ node_at nodes x = f.2 ∙ ap Leaf r.2 ∙ sym e in
    let at = same_content nodes f.0 x graph (inside f.0 f.1) (inside x t) same in
    ap (λ y. w (variable y)) (sym at) ∙ ap w (sym f.3) ∙ agree r.0 r.1 ∙ ap v r.2 ∙ sym (node_has v nodes x (Leaf k) graph (inside x t) e)
node_forced cone variable nodes goal width cited set w v x (And p q) graph has_goal s agree one gates t e before =
    let frame = cone_frame cone variable nodes goal width cited set graph has_goal s in
    let lt = cone_within nodes goal x graph has_goal ((s.cone_is x).0 t) in
    let inputs = frame.closed x p q t e in
    let smaller = frame.below x p q t e in
    let out = gate_forced w (lit_of (variable x) false) (literal_of variable p) (literal_of variable q) (gate_true w cone variable nodes (length nodes) x p q lt t e gates) in
    let left = literal_has w variable v nodes p (before (var_of p) smaller.0 inputs.0) in
    let right = literal_has w variable v nodes q (before (var_of q) smaller.1 inputs.1) in
    sym (plain_has w (variable x)) ∙ out ∙ ap (λ b. b && literal_value w (literal_of variable q)) left ∙ ap (λ b. value_in v nodes p && b) right ∙ sym (node_has v nodes x (And p q) graph lt e)

-- the variables of the cone have the values of their nodes
nodes_forced : (cone : ℕ → Bool) (variable : ℕ → ℕ) (nodes : List Node) (goal : Goal) (width : ℕ) (cited : List Equality) (set : ClauseSet) (w v : ℕ → Bool) → IsGraph nodes → HasGoal nodes goal → IsConeBy cone variable nodes goal width cited set → AgreeAtLeaves w v set.leaves → w 0 ≡ true → Satisfies w (gate_clauses cone variable nodes (length nodes)) → (n x : ℕ) → x < n → cone x ≡ true → HasNodeValue w variable v nodes x
nodes_forced cone variable nodes goal width cited set w v graph has_goal s agree one gates zero x lt t = absurd (omega arith)
nodes_forced cone variable nodes goal width cited set w v graph has_goal s agree one gates (suc n) x lt t =
    node_forced cone variable nodes goal width cited set w v x (node_at nodes x) graph has_goal s agree one gates t refl
    (λ y less c. nodes_forced cone variable nodes goal width cited set w v graph has_goal s agree one gates n y (omega arith) c)

pub or_false : (b : Bool) → (b || false) ≡ true → b ≡ true
or_false true h = refl
or_false false h = h

differ_from : (a b : Bool) → (a || (b || false)) ≡ true → (not a || (not b || false)) ≡ true → a ≢ b
differ_from true true f g e = not_both false g refl
differ_from true false f g e = not_both false (sym e) refl
differ_from false true f g e = not_both false e refl
differ_from false false f g e = not_both false f refl

-- the clauses that are asked: those of the gates and of the goal
question_is : (cone : ℕ → Bool) (variable : ℕ → ℕ) (nodes : List Node) (goal : Goal) (width : ℕ) (cited : List Equality) (set : ClauseSet) → IsConeBy cone variable nodes goal width cited set → take (set.gates + 3) set.clauses ≡ front_clauses cone variable nodes ++ goal_clauses variable goal
question_is cone variable nodes goal width cited set s =
    let asked = front_clauses cone variable nodes ++ goal_clauses variable goal in
    let three : length asked ≡ length (front_clauses cone variable nodes) + 3 = length-append (front_clauses cone variable nodes) (goal_clauses variable goal) in
    let size : set.gates + 3 ≡ length asked = ap (λ n. n + 3) s.gates_are ∙ sym three in
    ap (λ n. take n set.clauses) size ∙ ap (take (length asked)) s.clauses_are ∙ take-append_seam asked (cited_clauses variable cited)

-- where they are true, the context is 1 and the sides differ
pub question_forced : (cone : ℕ → Bool) (variable : ℕ → ℕ) (nodes : List Node) (goal : Goal) (width : ℕ) (cited : List Equality) (set : ClauseSet) (w v : ℕ → Bool) → IsGraph nodes → HasGoal nodes goal → IsConeBy cone variable nodes goal width cited set → AgreeAtLeaves w v set.leaves → Satisfies w (take (set.gates + 3) set.clauses) → (value_in v nodes goal.ctx ≡ true) × (value_in v nodes goal.a ≢ value_in v nodes goal.b)
question_forced cone variable nodes goal width cited set w v graph has_goal s agree holds =
    let front = front_clauses cone variable nodes in
    let asked = subst (Satisfies w) (question_is cone variable nodes goal width cited set s) holds in
    let gates = left_true w front (goal_clauses variable goal) asked in
    let ends = right_true w front (goal_clauses variable goal) asked in
    let one : w 0 ≡ true = or_false (w 0) (gates 0 (omega arith)) in
    let has : (l : ℕ) → cone (var_of l) ≡ true → literal_value w (literal_of variable l) ≡ value_in v nodes l =
    λ l t. literal_has w variable v nodes l (nodes_forced cone variable nodes goal width cited set w v graph has_goal s agree one (λ id h. gates (suc id) (omega arith)) (suc (var_of l)) (var_of l) (omega arith) t) in
    let c = has goal.ctx ((s.cone_is (var_of goal.ctx)).1 (inl here)) in
    let a = has goal.a ((s.cone_is (var_of goal.a)).1 (inr (inl here))) in
    let b = has goal.b ((s.cone_is (var_of goal.b)).1 (inr (inr here))) in
    let la = literal_of variable goal.a in
    let lb = literal_of variable goal.b in
    let lc = literal_of variable goal.ctx in
    let differ = differ_from (literal_value w la) (literal_value w lb) (ends 1 (omega arith))
    (sym (ap (λ x. x || (literal_value w (complement_of lb) || false)) (value_complement w la) ∙ ap (λ x. not (literal_value w la) || (x || false)) (value_complement w lb)) ∙ ends 2 (omega arith)) in (
      sym c ∙ or_false (literal_value w lc) (ends 0 (omega arith)),
      λ e. differ (a ∙ e ∙ sym b),
    )
