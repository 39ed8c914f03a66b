-- The clauses of a cone begin with those of gates.
use Rattle.std.proofs.Common.{◌≡◌, ℕ, zero, suc, ◌+◌, ◌-◌, ◌<◌, ◌≤◌, ◌==◌, ◌||◌, ◌⊎◌, Bool, true, false, List, [], ◌∷◌, ◌++◌, length, get_or, refl, sym, ap, ◌∙◌, subst, arith, inl, inr, eq-eqb, append_assoc, length-append}
use Rattle.std.proofs.lemmas.Bool.{eqb-true}
use Rattle.std.proofs.lemmas.List.{append-nil, get_or_append_left}
use Rattle.std.proofs.Math.Seq.{get_or-append_right}
use Rattle.pe_graph.specs.declared.graph.Node.{Node}
use Rattle.pe_graph.specs.declared.graph.Node.TheVariants.{True, Leaf, And}
use Rattle.pe_graph.specs.Literals.{var_of, is_negated, lit_of, complement_of}
use Rattle.pe_graph.specs.Nodes.{node_at, AreBelow as NamesBelow, IsGraph}
use Rattle.pe_graph.proofs.Growth.{var_of-lit_of, is_negated-lit_of}
use Rattle.pe_graph.specs.declared.job.Goal.{Goal}
use Rattle.pe_cnf.specs.declared.equality.Equality.{Equality}
use Rattle.pe_cnf.specs.Clause.{clause_at}
use Rattle.pe_cnf.specs.ClauseSet.{ClauseSet, and_clauses, leaf_var}
use Rattle.pe_cnf.specs.Gates.{gate_start, output_of, left_of, right_of, is_output, is_leaf, has_value, IsGate, AreGates, AreApart, gate_count, IsGated}
use Rattle.pe_cnf.specs.Cone.{here, is_used, literal_of, node_clauses, gate_clauses, front_clauses, goal_clauses, cited_clauses, leaf_number, AreLeaves, IsConeBy, HasGoal}
use Rattle.pe_cnf.proofs.MarkLemmas.{or_cases, or_left, or_right, true_or_false, not_both, before_strict}
use Rattle.pe_cnf.proofs.ConeLemmas.{IsClosed, cone_within, cone_closed, used_cone}

-- clauses behind others leave these as they are
front_clause : (clauses more : List (List ℕ)) (id : ℕ) → id < length clauses → clause_at (clauses ++ more) id ≡ clause_at clauses id
front_clause clauses more id h = get_or_append_left clauses more [] id h

front_output : (clauses more : List (List ℕ)) (n y : ℕ) → gate_start n ≤ length clauses → is_output (clauses ++ more) n y ≡ is_output clauses n y
front_output clauses more zero y h = refl
front_output clauses more (suc g) y h =
    let same = front_clause clauses more (gate_start g + 2) (omega arith) in
    ap (λ c. (y == var_of (get_or c 0 0)) || is_output (clauses ++ more) g y) same ∙ ap (λ b. (y == var_of (output_of clauses g)) || b) (front_output clauses more g y (omega arith))

front_value : (leaves : List (ℕ × ℕ)) (clauses more : List (List ℕ)) (n y : ℕ) → gate_start n ≤ length clauses → has_value leaves (clauses ++ more) n y ≡ has_value leaves clauses n y
front_value leaves clauses more n y h = ap (λ b. (y == 0) || (is_leaf leaves y || b)) (front_output clauses more n y h)

-- three clauses make a gate
gate_from : (leaves : List (ℕ × ℕ)) (clauses : List (List ℕ)) (g x p q : ℕ) → clause_at clauses (gate_start g) ≡ complement_of x ∷ p ∷ [] → clause_at clauses (gate_start g + 1) ≡ complement_of x ∷ q ∷ [] → clause_at clauses (gate_start g + 2) ≡ x ∷ complement_of p ∷ complement_of q ∷ [] → is_negated x ≡ false → var_of p < var_of x → var_of q < var_of x → has_value leaves clauses g (var_of p) ≡ true → has_value leaves clauses g (var_of q) ≡ true → has_value leaves clauses g (var_of x) ≡ false → IsGate leaves clauses g
gate_from leaves clauses g x p q e0 e1 e2 plain lp lq kp kq fresh =
    let ex : output_of clauses g ≡ x = ap (λ c. get_or c 0 0) e2 in
    let ep : left_of clauses g ≡ p = ap (λ c. get_or c 1 0) e0 in
    let eq : right_of clauses g ≡ q = ap (λ c. get_or c 1 0) e1 in
    record {
      first = e0 ∙ ap (λ y. complement_of y ∷ p ∷ []) (sym ex) ∙ ap (λ y. complement_of (output_of clauses g) ∷ y ∷ []) (sym ep);
      second = e1 ∙ ap (λ y. complement_of y ∷ q ∷ []) (sym ex) ∙ ap (λ y. complement_of (output_of clauses g) ∷ y ∷ []) (sym eq);
      third = e2 ∙ ap (λ y. y ∷ complement_of p ∷ complement_of q ∷ []) (sym ex) ∙ ap (λ y. output_of clauses g ∷ complement_of y ∷ complement_of q ∷ []) (sym ep) ∙ ap (λ y. output_of clauses g ∷ complement_of (left_of clauses g) ∷ complement_of y ∷ []) (sym eq);
      plain = ap is_negated ex ∙ plain;
      left_smaller = subst (λ y. var_of y < var_of (output_of clauses g)) (sym ep) (subst (λ y. var_of p < var_of y) (sym ex) lp);
      right_smaller = subst (λ y. var_of y < var_of (output_of clauses g)) (sym eq) (subst (λ y. var_of q < var_of y) (sym ex) lq);
      left_known = ap (λ y. has_value leaves clauses g (var_of y)) ep ∙ kp;
      right_known = ap (λ y. has_value leaves clauses g (var_of y)) eq ∙ kq;
      fresh = ap (λ y. has_value leaves clauses g (var_of y)) ex ∙ fresh;
    }

-- gates in front of other clauses
front_gate : (leaves : List (ℕ × ℕ)) (clauses more : List (List ℕ)) (g : ℕ) → gate_start (suc g) ≤ length clauses → IsGate leaves clauses g → IsGate leaves (clauses ++ more) g
front_gate leaves clauses more g h gate =
    let value : (y : ℕ) → has_value leaves (clauses ++ more) g y ≡ has_value leaves clauses g y = λ y. front_value leaves clauses more g y (omega arith) in
    gate_from leaves (clauses ++ more) g (output_of clauses g) (left_of clauses g) (right_of clauses g)
    (front_clause clauses more (gate_start g) (omega arith) ∙ gate.first)
    (front_clause clauses more (gate_start g + 1) (omega arith) ∙ gate.second)
    (front_clause clauses more (gate_start g + 2) (omega arith) ∙ gate.third)
    gate.plain gate.left_smaller gate.right_smaller (value _ ∙ gate.left_known) (value _ ∙ gate.right_known) (value _ ∙ gate.fresh)

pub front_gates : (leaves : List (ℕ × ℕ)) (clauses more : List (List ℕ)) (n : ℕ) → AreGates leaves clauses n → AreGates leaves (clauses ++ more) n
front_gates leaves clauses more n s = record {
  room = let k = s.room in omega (arith, length-append clauses more);
  constant = front_clause clauses more 0 (let k = s.room in omega arith) ∙ s.constant;
  each = λ g h. let k = s.room in front_gate leaves clauses more g (omega arith) (s.each g h);
}

lt_or_at : (g n : ℕ) → g < suc n → (g < n) ⊎ (g ≡ n)
lt_or_at g n h = grind arith

behind : (clauses more : List (List ℕ)) (j id : ℕ) → id ≡ length clauses + j → clause_at (clauses ++ more) id ≡ clause_at more j
behind clauses more j id e =
    let at : id - length clauses ≡ j = omega arith in
    get_or-append_right clauses more id [] (omega arith) ∙ ap (clause_at more) at

-- one more gate
add_gate : (leaves : List (ℕ × ℕ)) (clauses : List (List ℕ)) (n x p q : ℕ) → AreGates leaves clauses n → length clauses ≡ gate_start n → is_negated x ≡ false → var_of p < var_of x → var_of q < var_of x → has_value leaves clauses n (var_of p) ≡ true → has_value leaves clauses n (var_of q) ≡ true → has_value leaves clauses n (var_of x) ≡ false → AreGates leaves (clauses ++ and_clauses x p q) (suc n)
add_gate leaves clauses n x p q s size plain lp lq kp kq fresh =
    let block = and_clauses x p q in
    let f = front_gates leaves clauses block n s in
    let value : (y : ℕ) → has_value leaves (clauses ++ block) n y ≡ has_value leaves clauses n y = λ y. front_value leaves clauses block n y (omega arith) in
    record {
      room = omega (arith, length-append clauses block);
      constant = f.constant;
      each = λ g h.
          elim (lt_or_at g n h) [
            | inl less ↦ f.each g less
            | inr at ↦
                subst (IsGate leaves (clauses ++ block)) (sym at)
                (gate_from leaves (clauses ++ block) n x p q
                (behind clauses block 0 (gate_start n) (omega arith))
                (behind clauses block 1 (gate_start n + 1) (omega arith))
                (behind clauses block 2 (gate_start n + 2) (omega arith))
                plain lp lq (value (var_of p) ∙ kp) (value (var_of q) ∙ kq) (value (var_of x) ∙ fresh))
          ];
    }

-- what is known of the nodes of a cone and of their variables
pub record IsFrame (cone : ℕ → Bool) (variable : ℕ → ℕ) (nodes : List Node) (leaves : List (ℕ × ℕ)) : Type 0 where
  pub rises : (y z : ℕ) → cone y ≡ true → cone z ≡ true → y < z → variable y < variable z
  pub above : (z : ℕ) → cone z ≡ true → 0 < z → 0 < variable z
  pub constant : (x : ℕ) → cone x ≡ true → node_at nodes x ≡ True → variable x ≡ 0
  pub leaf : (x k : ℕ) → cone x ≡ true → node_at nodes x ≡ Leaf k → is_leaf leaves (variable x) ≡ true
  pub no_leaf : (x p q : ℕ) → cone x ≡ true → node_at nodes x ≡ And p q → is_leaf leaves (variable x) ≡ false
  pub closed : IsClosed cone nodes
  pub below : (x p q : ℕ) → cone x ≡ true → node_at nodes x ≡ And p q → (var_of p < x) × (var_of q < x)

-- the clauses of the first x nodes of a cone
pub record IsBuilt (cone : ℕ → Bool) (variable : ℕ → ℕ) (leaves : List (ℕ × ℕ)) (x : ℕ) (clauses : List (List ℕ)) (n : ℕ) : Type 0 where
  pub gates : AreGates leaves clauses n
  pub size : length clauses ≡ gate_start n
  pub known : (y : ℕ) → y < x → cone y ≡ true → has_value leaves clauses n (variable y) ≡ true
  pub low : (u z : ℕ) → is_output clauses n u ≡ true → x ≤ z → cone z ≡ true → u < variable z

built_plain : (cone : ℕ → Bool) (variable : ℕ → ℕ) (leaves : List (ℕ × ℕ)) (x : ℕ) (clauses : List (List ℕ)) (n : ℕ) → (cone x ≡ true → has_value leaves clauses n (variable x) ≡ true) → IsBuilt cone variable leaves x clauses n → IsBuilt cone variable leaves (suc x) clauses n
built_plain cone variable leaves x clauses n h s = record {
  gates = s.gates;
  size = s.size;
  known = λ y lt t. elim (lt_or_at y x lt) [ inl less ↦ s.known y less t | inr at ↦ subst (λ z. has_value leaves clauses n (variable z) ≡ true) (sym at) (h (ap cone (sym at) ∙ t)) ];
  low = λ u z t le c. s.low u z t (omega arith) c;
}

pub value_leaf : (leaves : List (ℕ × ℕ)) (clauses : List (List ℕ)) (n y : ℕ) → is_leaf leaves y ≡ true → has_value leaves clauses n y ≡ true
value_leaf leaves clauses n y h = or_right (y == 0) _ (or_left _ _ h)

pub value_more : (leaves : List (ℕ × ℕ)) (clauses : List (List ℕ)) (n y : ℕ) → has_value leaves clauses n y ≡ true → has_value leaves clauses (suc n) y ≡ true
value_more leaves clauses n y h =
    elim (or_cases (y == 0) _ h) [
      | inl z ↦ or_left _ _ z
      | inr more ↦ elim (or_cases (is_leaf leaves y) _ more) [
        | inl l ↦ value_leaf leaves clauses (suc n) y l
        | inr o ↦ or_right (y == 0) _ (or_right (is_leaf leaves y) _ (or_right (y == var_of (output_of clauses n)) _ o))
      ]
    ]

built_gate : (cone : ℕ → Bool) (variable : ℕ → ℕ) (nodes : List Node) (leaves : List (ℕ × ℕ)) (x p q : ℕ) (clauses : List (List ℕ)) (n : ℕ) → IsFrame cone variable nodes leaves → cone x ≡ true → node_at nodes x ≡ And p q → IsBuilt cone variable leaves x clauses n → IsBuilt cone variable leaves (suc x) (clauses ++ node_clauses variable x (And p q)) (suc n)
built_gate cone variable nodes leaves x p q clauses n frame t e s =
    let out = lit_of (variable x) false in
    let lp = literal_of variable p in
    let lq = literal_of variable q in
    let block = and_clauses out lp lq in
    let inputs = frame.closed x p q t e in
    let before = frame.below x p q t e in
    let out_is : var_of out ≡ variable x = var_of-lit_of (variable x) false in
    let lp_is : var_of lp ≡ variable (var_of p) = var_of-lit_of (variable (var_of p)) (is_negated p) in
    let lq_is : var_of lq ≡ variable (var_of q) = var_of-lit_of (variable (var_of q)) (is_negated q) in
    let left_lt = frame.rises (var_of p) x inputs.0 t before.0 in
    let right_lt = frame.rises (var_of q) x inputs.1 t before.1 in
    let known_p : has_value leaves clauses n (var_of lp) ≡ true = ap (has_value leaves clauses n) lp_is ∙ s.known (var_of p) before.0 inputs.0 in
    let known_q : has_value leaves clauses n (var_of lq) ≡ true = ap (has_value leaves clauses n) lq_is ∙ s.known (var_of q) before.1 inputs.1 in
    let fresh : has_value leaves clauses n (variable x) ≡ false =
    elim (true_or_false (has_value leaves clauses n (variable x))) [
      | inr f ↦ f
      | inl k ↦ elim (or_cases (variable x == 0) _ k) [
        | inl z ↦ let zero_is = eqb-true (variable x) 0 z in let up = frame.above x t (omega arith) in absurd (omega arith)
        | inr more ↦ elim (or_cases (is_leaf leaves (variable x)) _ more) [
          | inl l ↦ absurd (not_both _ l (frame.no_leaf x p q t e))
          | inr o ↦ let lt = s.low (variable x) x o (omega arith) t in absurd (omega arith)
        ]
      ]
    ] in
    let gates = add_gate leaves clauses n out lp lq s.gates s.size (is_negated-lit_of (variable x) false) (omega arith) (omega arith) known_p known_q (ap (has_value leaves clauses n) out_is ∙ fresh) in
    let last : output_of (clauses ++ block) n ≡ out = ap (λ c. get_or c 0 0) (behind clauses block 2 (gate_start n + 2) (let k = s.size in omega arith)) in
    record {
      gates = gates;
      size = let k = s.size in omega (arith, length-append clauses block);
      known = λ y lt c.
          elim (lt_or_at y x lt) [
            | inl less ↦ value_more leaves (clauses ++ block) n (variable y) (front_value leaves clauses block n (variable y) (let k = s.size in omega arith) ∙ s.known y less c)
            | inr at ↦
                let same : variable y ≡ var_of (output_of (clauses ++ block) n) = ap variable at ∙ sym out_is ∙ ap var_of (sym last) in
                or_right (variable y == 0) _ (or_right (is_leaf leaves (variable y)) _ (or_left _ _ (eq-eqb (variable y) (var_of (output_of (clauses ++ block) n)) same)))
          ];
      low = λ u z o le c.
          elim (or_cases (u == var_of (output_of (clauses ++ block) n)) (is_output (clauses ++ block) n u) o) [
            | inl at ↦
                let same : u ≡ variable x = eqb-true u _ at ∙ ap var_of last ∙ out_is in
                let lt = frame.rises x z t c (omega arith) in
                omega arith
            | inr old ↦ s.low u z (sym (front_output clauses block n u (let k = s.size in omega arith)) ∙ old) (omega arith) c
          ];
    }

built_node : (cone : ℕ → Bool) (variable : ℕ → ℕ) (nodes : List Node) (leaves : List (ℕ × ℕ)) (x : ℕ) (node : Node) (clauses : List (List ℕ)) (n : ℕ) → IsFrame cone variable nodes leaves → cone x ≡ true → node_at nodes x ≡ node → IsBuilt cone variable leaves x clauses n → (m : ℕ) × IsBuilt cone variable leaves (suc x) (clauses ++ node_clauses variable x node) m
built_node cone variable nodes leaves x True clauses n frame t e s =
    let zero_is = frame.constant x t e in
    (n, rw append-nil (built_plain cone variable leaves x clauses n (λ c. or_left _ _ (eq-eqb (variable x) 0 zero_is)) s))
built_node cone variable nodes leaves x (Leaf k) clauses n frame t e s = (n, rw append-nil (built_plain cone variable leaves x clauses n (λ c. value_leaf leaves clauses n (variable x) (frame.leaf x k t e)) s))
built_node cone variable nodes leaves x (And p q) clauses n frame t e s = (suc n, built_gate cone variable nodes leaves x p q clauses n frame t e s)

pub built : (cone : ℕ → Bool) (variable : ℕ → ℕ) (nodes : List Node) (leaves : List (ℕ × ℕ)) (x : ℕ) → IsFrame cone variable nodes leaves → (n : ℕ) × IsBuilt cone variable leaves x ((0 ∷ []) ∷ gate_clauses cone variable nodes x) n
built cone variable nodes leaves zero frame = (
  0,
  record {
    gates = record { room = omega arith; constant = refl; each = λ g h. absurd (omega arith) };
    size = refl;
    known = λ y lt c. absurd (omega arith);
    low = λ u z o le c. absurd (not_both false o refl);
  },
)
built cone variable nodes leaves (suc x) frame =
    let r = built cone variable nodes leaves x frame in
    elim (true_or_false (cone x)) [
      | inl t ↦ rw t (built_node cone variable nodes leaves x (node_at nodes x) ((0 ∷ []) ∷ gate_clauses cone variable nodes x) r.0 frame t refl r.1)
      | inr f ↦ (r.0, rw (f, append-nil) (built_plain cone variable leaves x ((0 ∷ []) ∷ gate_clauses cone variable nodes x) r.0 (λ t. absurd (not_both (cone x) t f)) r.1))
    ]

pub order : (x y : ℕ) → (x < y) ⊎ ((x ≡ y) ⊎ (y < x))
order x y = grind arith

-- the variables of two nodes of the cone are the same only where the nodes are
same_node : (cone : ℕ → Bool) (variable : ℕ → ℕ) (x y : ℕ) → ((i j : ℕ) → cone i ≡ true → cone j ≡ true → i < j → variable i < variable j) → cone x ≡ true → cone y ≡ true → variable x ≡ variable y → x ≡ y
same_node cone variable x y rises cx cy e =
    elim (order x y) [
      | inl lt ↦ let up = rises x y cx cy lt in absurd (omega arith)
      | inr more ↦ elim more [
        | inl at ↦ at
        | inr gt ↦ let up = rises y x cy cx gt in absurd (omega arith)
      ]
    ]

-- two nodes with equal contents are one
pub same_content : (nodes : List Node) (x y : ℕ) → IsGraph nodes → x < length nodes → y < length nodes → node_at nodes x ≡ node_at nodes y → x ≡ y
same_content nodes x y graph lx ly e =
    elim (order x y) [
      | inl lt ↦ absurd (graph.apart x y lt ly e)
      | inr more ↦ elim more [
        | inl at ↦ at
        | inr gt ↦ absurd (graph.apart y x gt lx (sym e))
      ]
    ]

leaf_at : (leaves : List (ℕ × ℕ)) (i y : ℕ) → i < length leaves → leaf_var leaves i ≡ y → is_leaf leaves y ≡ true
leaf_at [] i y h e = absurd (omega arith)
leaf_at (l ∷ leaves) zero y h e = or_left _ _ (eq-eqb y l.1 (sym e))
leaf_at (l ∷ leaves) (suc i) y h e = or_right (y == l.1) _ (leaf_at leaves i y (omega arith) e)

pub leaf_of : (leaves : List (ℕ × ℕ)) (y : ℕ) → is_leaf leaves y ≡ true → (i : ℕ) × (i < length leaves) × (leaf_var leaves i ≡ y)
leaf_of [] y h = absurd (not_both false h refl)
leaf_of (l ∷ leaves) y h =
    elim (or_cases (y == l.1) _ h) [
      | inl at ↦ (0, omega arith, sym (eqb-true y l.1 at))
      | inr more ↦ let r = leaf_of leaves y more in (suc r.0, omega (arith, r.1), r.2)
    ]

leaf_no_gate : (k p q : ℕ) (node : Node) → node ≡ Leaf k → node ≡ And p q → ⊥
leaf_no_gate k p q node a b = let e : Leaf k ≡ And p q = sym a ∙ b in cc

true_no_leaf : (k : ℕ) (node : Node) → node ≡ True → node ≡ Leaf k → ⊥
true_no_leaf k node a b = let e : True ≡ Leaf k = sym a ∙ b in cc

leaf_inside : (k j : ℕ) (node : Node) → node ≡ Leaf k → node ≡ Leaf j → k ≡ j
leaf_inside k j node a b = let e : Leaf k ≡ Leaf j = sym a ∙ b in cc

pub cone_frame : (cone : ℕ → Bool) (variable : ℕ → ℕ) (nodes : List Node) (goal : Goal) (width : ℕ) (cited : List Equality) (set : ClauseSet) → IsGraph nodes → HasGoal nodes goal → IsConeBy cone variable nodes goal width cited set → IsFrame cone variable nodes set.leaves
cone_frame cone variable nodes goal width cited set graph has_goal s =
    let used = is_used cone cited in
    let inside : (x : ℕ) → cone x ≡ true → x < length nodes = λ x t. cone_within nodes goal x graph has_goal ((s.cone_is x).0 t) in
    let rises : (y z : ℕ) → cone y ≡ true → cone z ≡ true → y < z → variable y < variable z = λ y z cy cz lt. rw (s.variable_is y (inside y cy), s.variable_is z (inside z cz)) (before_strict used y z (used_cone cone cited y cy) lt) in
    record {
      rises = rises;
      above = λ z cz lt. let up = before_strict used 0 z refl lt in rw (s.variable_is z (inside z cz)) up;
      constant = λ x cx e.
          let at : x ≡ 0 = same_content nodes x 0 graph (inside x cx) graph.some (e ∙ sym graph.first) in
          ap variable at ∙ s.variable_is 0 graph.some;
      leaf = λ x k cx e.
          let r = s.leaves_are.all x k cx e in
          let f = s.leaves_are.each r.0 r.1 in
          let same : node_at nodes f.0 ≡ node_at nodes x = f.2 ∙ ap Leaf r.2 ∙ sym e in
          let at = same_content nodes f.0 x graph (inside f.0 f.1) (inside x cx) same in
          leaf_at set.leaves r.0 (variable x) r.1 (f.3 ∙ ap variable at);
      no_leaf = λ x p q cx e.
          elim (true_or_false (is_leaf set.leaves (variable x))) [
            | inr f ↦ f
            | inl t ↦
                let r = leaf_of set.leaves (variable x) t in
                let f = s.leaves_are.each r.0 r.1 in
                let at = same_node cone variable f.0 x rises f.1 cx (sym f.3 ∙ r.2) in
                absurd (leaf_no_gate (leaf_number set.leaves r.0) p q (node_at nodes x) (ap (node_at nodes) (sym at) ∙ f.2) e)
          ];
      closed = cone_closed cone nodes goal s.cone_is;
      below = λ x p q cx e. let named : NamesBelow x (And p q) = rw e at (graph.later x (inside x cx)) in (named.0, named.1);
    }

cone_apart : (cone : ℕ → Bool) (variable : ℕ → ℕ) (nodes : List Node) (leaves : List (ℕ × ℕ)) → IsGraph nodes → IsFrame cone variable nodes leaves → AreLeaves cone variable nodes leaves → AreApart leaves
cone_apart cone variable nodes leaves graph frame s = record {
  above = λ i h.
      let f = s.each i h in
      elim (order 0 f.0) [
        | inl lt ↦ let up = frame.above f.0 f.1 lt in let e = f.3 in omega arith
        | inr more ↦ elim more [
          | inl at ↦ absurd (true_no_leaf (leaf_number leaves i) (node_at nodes f.0) (ap (node_at nodes) (sym at) ∙ graph.first) f.2)
          | inr gt ↦ absurd (omega arith)
        ]
      ];
  apart = λ i j lt h e.
      let f = s.each i (omega arith) in
      let g = s.each j h in
      let at = same_node cone variable f.0 g.0 frame.rises f.1 g.1 (sym f.3 ∙ e ∙ g.3) in
      let same = leaf_inside (leaf_number leaves i) (leaf_number leaves j) (node_at nodes g.0) (ap (node_at nodes) (sym at) ∙ f.2) g.2 in
      let up = s.rise i j lt h in
      omega arith;
}

-- the clauses of a cone begin with gates
pub cone_gated : (cone : ℕ → Bool) (variable : ℕ → ℕ) (nodes : List Node) (goal : Goal) (width : ℕ) (cited : List Equality) (set : ClauseSet) → IsGraph nodes → HasGoal nodes goal → IsConeBy cone variable nodes goal width cited set → IsGated set
cone_gated cone variable nodes goal width cited set graph has_goal s =
    let frame = cone_frame cone variable nodes goal width cited set graph has_goal s in
    let b = built cone variable nodes set.leaves (length nodes) frame in
    let front = front_clauses cone variable nodes in
    let more = goal_clauses variable goal ++ cited_clauses variable cited in
    let n = b.0 in
    let size : length front ≡ gate_start n = b.1.size in
    let whole : set.clauses ≡ front ++ more = s.clauses_are ∙ append_assoc front (goal_clauses variable goal) (cited_clauses variable cited) in
    let gates_is : set.gates ≡ length front = s.gates_are in
    let count : gate_count set ≡ n = omega arith in
    let gates : AreGates set.leaves set.clauses (gate_count set) = subst (λ k. AreGates set.leaves set.clauses k) (sym count) (subst (λ cs. AreGates set.leaves cs n) (sym whole) (front_gates set.leaves front more n b.1.gates)) in
    let lc = literal_of variable goal.ctx in
    let la = literal_of variable goal.a in
    let lb = literal_of variable goal.b in
    let at_ctx : clause_at set.clauses set.gates ≡ lc ∷ [] = ap (λ cs. clause_at cs set.gates) whole ∙ behind front more 0 set.gates (omega arith) in
    let at_differ : clause_at set.clauses (set.gates + 1) ≡ la ∷ lb ∷ [] = ap (λ cs. clause_at cs (set.gates + 1)) whole ∙ behind front more 1 (set.gates + 1) (omega arith) in
    let at_not : clause_at set.clauses (set.gates + 2) ≡ complement_of la ∷ complement_of lb ∷ [] = ap (λ cs. clause_at cs (set.gates + 2)) whole ∙ behind front more 2 (set.gates + 2) (omega arith) in
    let known : (l : ℕ) → cone (var_of l) ≡ true → has_value set.leaves set.clauses (gate_count set) (var_of (literal_of variable l)) ≡ true = λ l t.
    ap (has_value set.leaves set.clauses (gate_count set)) (var_of-lit_of (variable (var_of l)) (is_negated l)) ∙
    ap (λ k. has_value set.leaves set.clauses k (variable (var_of l))) count ∙
    ap (λ cs. has_value set.leaves cs n (variable (var_of l))) whole ∙
    front_value set.leaves front more n (variable (var_of l)) (omega arith) ∙
    b.1.known (var_of l) (cone_within nodes goal (var_of l) graph has_goal ((s.cone_is (var_of l)).0 t)) t in
    let lc_known = known goal.ctx ((s.cone_is (var_of goal.ctx)).1 (inl here)) in
    let la_known = known goal.a ((s.cone_is (var_of goal.a)).1 (inr (inl here))) in
    let lb_known = known goal.b ((s.cone_is (var_of goal.b)).1 (inr (inr here))) in
    let ec : get_or (clause_at set.clauses set.gates) 0 0 ≡ lc = ap (λ c. get_or c 0 0) at_ctx in
    let ea : get_or (clause_at set.clauses (set.gates + 1)) 0 0 ≡ la = ap (λ c. get_or c 0 0) at_differ in
    let eb : get_or (clause_at set.clauses (set.gates + 1)) 1 0 ≡ lb = ap (λ c. get_or c 1 0) at_differ in
    let total : length set.clauses ≡ length front + length more = ap length whole ∙ length-append front more in
    let three : length more ≡ 3 + length (cited_clauses variable cited) = length-append (goal_clauses variable goal) (cited_clauses variable cited) in
    record {
      gates_are = gates;
      count = omega arith;
      room = omega arith;
      leaves_are = cone_apart cone variable nodes set.leaves graph frame s.leaves_are;
      ctx = at_ctx ∙ ap (λ x. x ∷ []) (sym ec);
      differ = at_differ ∙ ap (λ x. x ∷ lb ∷ []) (sym ea) ∙ ap (λ x. get_or (clause_at set.clauses (set.gates + 1)) 0 0 ∷ x ∷ []) (sym eb);
      differ_not = at_not ∙ ap (λ x. complement_of x ∷ complement_of lb ∷ []) (sym ea) ∙ ap (λ x. complement_of (get_or (clause_at set.clauses (set.gates + 1)) 0 0) ∷ complement_of x ∷ []) (sym eb);
      ctx_known = ap (λ l. has_value set.leaves set.clauses (gate_count set) (var_of l)) ec ∙ lc_known;
      a_known = ap (λ l. has_value set.leaves set.clauses (gate_count set) (var_of l)) ea ∙ la_known;
      b_known = ap (λ l. has_value set.leaves set.clauses (gate_count set) (var_of l)) eb ∙ lb_known;
    }
