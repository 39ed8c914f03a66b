-- Samples from the values of the cone's leaves.
use Rattle.std.proofs.Common.{◌≡◌, ◌≢◌, ℕ, ◌+◌, ◌-◌, ◌%◌, ◌<◌, ◌≤◌, ◌==◌, ◌⊎◌, Bool, true, false, List, [], ◌∷◌, length, get_or, refl, ap, sym, ◌∙◌, arith, inl, inr, zero, suc, eq-eqb, length-append, set}
use Rattle.std.proofs.lemmas.List.{get_or-set_same, get_or-set_other}
use Rattle.std.proofs.Math.ListN.{get_or-append}
use Rattle.pe_graph.specs.Literals.{var_of, is_negated, complement_of}
use Rattle.pe_cnf.specs.Clause.{clause_at}
use Rattle.pe_cnf.specs.ClauseSet.{ClauseSet, leaf_var}
use Rattle.pe_cnf.specs.Cone.{leaf_number}
use Rattle.pe_cnf.specs.Gates.{AreApart, IsGated}
use Rattle.pe_cnf.proofs.Samples.{question_forced}
use Rattle.pe_refute.specs.Follow.{denied}
use Rattle.pe_refute.specs.Table.{halved, leaf_bit}
use Rattle.pe_refute.proofs.Sight.{or_left, or_right}
use Rattle.pe_solver.specs.Walk.{Walks, BeginsWithAll}
use Rattle.pe_solver.specs.Derivation.{IsGrown}
use Rattle.pe_solver.specs.Prefix.{AreLeaves, AreNamed, IsPrefix, denials}
use Rattle.pe_solver.specs.Sample.{value_of, AreKnownBits, AreBreaking, IsSpread, AreNumbered, IsSample}
use Rattle.pe_solver.proofs.Literals.{complement_twice, complement_apart, complement_own}
use Rattle.pe_solver.proofs.Settled.{IsKnown, IsConsistent, IsOver, values_of, walk_satisfies, own_sign, own_var}
use Rattle.pe_solver.proofs.Enumerate.{has_map, apart_plain}

-- the values at their places are a sample
pub spread_sample : (set : ClauseSet) (bits values : List Bool) → AreBreaking set bits → IsSpread set bits values → IsSample set values
spread_sample set bits values b s = record {
  count = s.count;
  outside = s.outside;
  differs = λ nodes goal width cited graph has_goal has_cited cone.
      question_forced cone.0 cone.1.0 nodes goal width cited set b.1.0 (value_of values) graph has_goal cone.1.1
      (λ i h. b.1.1 i h ∙ sym (s.inside i h)) b.1.2;
}

denied_at : (prefix : List ℕ) (i : ℕ) → i < length prefix → denied (denials prefix) (get_or prefix i 0) ≡ true
denied_at [] i h = absurd (omega arith)
denied_at (x ∷ prefix) zero h = or_left (complement_of x == complement_of x) (denied (denials prefix) x) (eq-eqb (complement_of x) (complement_of x) refl)
denied_at (x ∷ prefix) (suc i) h = or_right (complement_of x == complement_of (get_or prefix i 0)) _ (denied_at prefix i (omega arith))

-- the literal of a prefix that is denied
denied_is : (prefix : List ℕ) (l : ℕ) → denied (denials prefix) l ≡ true → (i : ℕ) × (i < length prefix) × (get_or prefix i 0 ≡ l)
denied_is prefix l h =
    let r = has_map prefix (complement_of l) h in
    (r.0, r.1, sym (complement_twice _) ∙ ap complement_of r.2 ∙ complement_twice l)

order : (i j : ℕ) → (i ≡ j) ⊎ ((i < j) ⊎ (j < i))
order i j = grind arith

leaf_apart : (vars : ℕ) (leaves : List ℕ) (i j : ℕ) → AreLeaves vars leaves → i < length leaves → j < length leaves → get_or leaves i 0 ≡ get_or leaves j 0 → i ≡ j
leaf_apart vars leaves i j a li lj e = elim (order i j) [
  | inl same ↦ same
  | inr more ↦ elim more [
    | inl less ↦ absurd (a.apart i j less lj e)
    | inr less ↦ absurd (a.apart j i less li (sym e))
  ]
]

-- a prefix has no literal with its complement
pub prefix_consistent : (vars : ℕ) (leaves prefix : List ℕ) → AreLeaves vars leaves → IsPrefix leaves prefix → IsConsistent (denied (denials prefix))
prefix_consistent vars leaves prefix a p l s t =
    let x = denied_is prefix l s in
    let y = denied_is prefix (complement_of l) t in
    let i = x.0 in
    let j = y.0 in
    let li : i < length leaves = omega (arith, x.1, p.count) in
    let lj : j < length leaves = omega (arith, y.1, p.count) in
    let same : i ≡ j → ⊥ = λ e. complement_apart l (sym y.2 ∙ ap (λ n. get_or prefix n 0) (sym e) ∙ x.2) in
    elim (p.of_leaf i x.1) [
      | inl e ↦ elim (p.of_leaf j y.1) [
        | inl g ↦ apart_plain (get_or leaves i 0) (get_or leaves j 0) (a.plain i li) (a.plain j lj) (ap complement_of (sym e ∙ x.2) ∙ sym y.2 ∙ g)
        | inr g ↦
            let q : complement_of (get_or leaves i 0) ≡ complement_of (get_or leaves j 0) = ap complement_of (sym e ∙ x.2) ∙ sym y.2 ∙ g in
            same (leaf_apart vars leaves i j a li lj (sym (complement_twice _) ∙ ap complement_of q ∙ complement_twice _))
      ]
      | inr e ↦ elim (p.of_leaf j y.1) [
        | inl g ↦
            let q : get_or leaves i 0 ≡ get_or leaves j 0 = sym (complement_twice _) ∙ ap complement_of (sym e ∙ x.2) ∙ sym y.2 ∙ g in
            same (leaf_apart vars leaves i j a li lj q)
        | inr g ↦
            let q : get_or leaves i 0 ≡ complement_of (get_or leaves j 0) = sym (complement_twice _) ∙ ap complement_of (sym e ∙ x.2) ∙ sym y.2 ∙ g in
            apart_plain (get_or leaves j 0) (get_or leaves i 0) (a.plain j lj) (a.plain i li) (sym q)
      ]
    ]

-- a whole prefix gives each leaf a value
pub prefix_known : (set : ClauseSet) (leaves prefix : List ℕ) → AreNamed set.leaves leaves → IsPrefix leaves prefix → length leaves ≤ length prefix →
    (i : ℕ) → i < length set.leaves → IsKnown (denied (denials prefix)) (leaf_var set.leaves i)
prefix_known set leaves prefix n p whole i h =
    let count = n.count in
    let lt : i < length prefix = omega arith in
    let own = n.each i h in
    let k = denied (denials prefix) in
    elim (p.of_leaf i lt) [
      | inl e ↦ inl (ap k (sym (e ∙ own)) ∙ denied_at prefix i lt)
      | inr e ↦ inr (ap k (sym (e ∙ ap complement_of own ∙ complement_own (leaf_var set.leaves i))) ∙ denied_at prefix i lt)
    ]

-- where a walk from a whole prefix meets no conflict, what it knows of the leaves breaks the question
pub known_breaks : (set : ClauseSet) (all : List (List ℕ)) (vars : ℕ) (leaves prefix ids : List ℕ) (end : ℕ → Bool) (bits : List Bool) → IsGated set → IsGrown set.clauses all →
    AreLeaves vars leaves → AreNamed set.leaves leaves → IsPrefix leaves prefix → length leaves ≤ length prefix → BeginsWithAll (set.gates + 3) ids →
    Walks all (denied (denials prefix)) ids end → AreKnownBits end leaves bits → AreBreaking set bits
known_breaks set all vars leaves prefix ids end bits gated grown a n p whole begins walk known =
    let count = n.count in
    let over : IsOver set all ids = record {
      gated = gated;
      longer = omega (arith, ap length grown.1 ∙ length-append set.clauses grown.0);
      same = λ id h. ap (λ cs. clause_at cs id) grown.1 ∙ get_or-append set.clauses grown.0 [] id h;
      hints_are = begins;
    } in
    let bits_count = known.count in (
      bits_count ∙ count,
      (
        values_of end,
        (λ i h. let lt : i < length leaves = omega arith in sym (known.each i lt ∙ ap end (n.each i h))),
        walk_satisfies set all ids (denied (denials prefix)) end over (prefix_consistent vars leaves prefix a p) (prefix_known set leaves prefix n p whole) walk,
      ),
    )

lt_or_eq : (i n : ℕ) → i < n + 1 → (i < n) ⊎ (i ≡ n)
lt_or_eq i n h = grind arith

number_apart : (q : ClauseSet) (i k : ℕ) → AreNumbered q → i < length q.leaves → k < i → leaf_number q.leaves k ≢ leaf_number q.leaves i
number_apart q i k a lt less e = let r = a.rise k i less lt in omega arith

-- one more value at its place
pub spread_inside : (q : ClauseSet) (bits values next : List Bool) (i : ℕ) (b : Bool) → AreNumbered q → i < length q.leaves → length values ≡ q.width → next ≡ set values (leaf_number q.leaves i) b → b ≡ value_of bits i →
    ((k : ℕ) → k < i → value_of values (leaf_number q.leaves k) ≡ value_of bits k) → (k : ℕ) → k < i + 1 → value_of next (leaf_number q.leaves k) ≡ value_of bits k
spread_inside q bits values next i b a lt count g e s k h =
    let n = leaf_number q.leaves i in
    let below : n < length values = let r = a.below i lt in omega arith in
    elim (lt_or_eq k i h) [
      | inl less ↦ ap (λ v. value_of v (leaf_number q.leaves k)) g ∙ get_or-set_other values n (leaf_number q.leaves k) b false (number_apart q i k a lt less) ∙ s k less
      | inr same ↦
          ap (λ j. value_of next (leaf_number q.leaves j)) same ∙ ap (λ v. value_of v n) g ∙ get_or-set_same values n b false below ∙ e ∙ ap (value_of bits) (sym same)
    ]

pub spread_outside : (q : ClauseSet) (values next : List Bool) (i : ℕ) (b : Bool) → next ≡ set values (leaf_number q.leaves i) b →
    ((n : ℕ) → ((k : ℕ) → k < i → leaf_number q.leaves k ≢ n) → value_of values n ≡ false) → (n : ℕ) → ((k : ℕ) → k < i + 1 → leaf_number q.leaves k ≢ n) → value_of next n ≡ false
spread_outside q values next i b g s n h =
    ap (λ v. value_of v n) g ∙ get_or-set_other values (leaf_number q.leaves i) n b false (λ e. h i (omega arith) (sym e)) ∙ s n (λ k l. h k (omega arith))

-- one more bit, from the last on
pub bit_next : (step count left m rest : ℕ) (bits next : List Bool) (b : Bool) → left ≡ suc m → left ≤ count → length bits ≡ count → rest ≡ halved step (count - left) → next ≡ set bits m b → b ≡ (rest % 2 == 1) →
    ((i : ℕ) → left ≤ i → i < count → value_of bits i ≡ leaf_bit step count i) → (i : ℕ) → m ≤ i → i < count → value_of next i ≡ leaf_bit step count i
bit_next step count left m rest bits next b e le size r g t s i ge lt = elim (lt_or_eq m i (omega arith)) [
  | inl less ↦ ap (λ v. value_of v i) g ∙ get_or-set_other bits m i b false (λ q. absurd (omega arith)) ∙ s i (omega arith) lt
  | inr same ↦
      let place : count - left ≡ count - 1 - m = omega arith in
      ap (value_of next) (sym same) ∙ ap (λ v. value_of v m) g ∙ get_or-set_same bits m b false (omega arith) ∙ t ∙
      ap (λ x. x % 2 == 1) (r ∙ ap (halved step) place) ∙ ap (leaf_bit step count) same
]

-- the own literals of a cone's leaves
pub named_leaves : (set : ClauseSet) (own : List ℕ) (vars : ℕ) → ((i : ℕ) → i < length set.leaves → leaf_var set.leaves i < set.vars) → AreApart set.leaves → AreNamed set.leaves own → set.vars ≤ vars → AreLeaves vars own
named_leaves set own vars below apart n le =
    let count = n.count in
    let var_is : (i : ℕ) → i < length set.leaves → var_of (get_or own i 0) ≡ leaf_var set.leaves i = λ i h. ap var_of (n.each i h) ∙ own_var (leaf_var set.leaves i) in
    record {
      plain = λ i h. ap is_negated (n.each i (omega arith)) ∙ own_sign (leaf_var set.leaves i);
      below = λ i h. let lt : i < length set.leaves = omega arith in let b = below i lt in omega (arith, var_is i lt);
      apart = λ i j h lt e.
          let li : i < length set.leaves = omega arith in
          let lj : j < length set.leaves = omega arith in
          apart.apart i j h lj (sym (var_is i li) ∙ ap var_of e ∙ var_is j lj);
    }
