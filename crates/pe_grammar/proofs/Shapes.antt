-- Which tree has a derivation of a form.
use Rattle.std.proofs.Common.{◌≡◌, ℕ, zero, suc, ◌<◌, ◌≤◌, arith, List, [], ◌∷◌, Some, sym, ap, ◌∙◌, subst, inl, inr, ◌⊎◌}
use Rattle.std.specs.Prelude.{map, slice_get, max, ◌+◌}
use denote.Param.Weighed.{most}
use Rattle.pe_grammar.specs.declared.tree.Tree.TheViews.{sized-Once, sized-Repeat}
use Rattle.pe_grammar.specs.declared.terminal.Token.{Token}
use Rattle.pe_grammar.specs.declared.form.Bounds.{Bounds}
use Rattle.pe_grammar.specs.declared.form.Entry.{Entry}
use Rattle.pe_grammar.specs.declared.form.Form.TheVariants.{Terminal, Sequence, Choice, Clause}
use Rattle.pe_grammar.specs.declared.form.Form.TheVariants as form
use Rattle.pe_grammar.specs.declared.tree.Tree.{Tree, Tree-F, out-Tree, roll-Tree, roll-out-Tree, size-Tree}
use Rattle.pe_grammar.specs.declared.tree.Tree.TheVariants.{Leaf, Empty, Pair, Left, Right, Repeat, Present, Absent, Once, rolls-Once, rolls-Present, rolls-Absent, rolls-Leaf, rolls-Empty, rolls-Pair, rolls-Left, rolls-Right, rolls-Repeat}
use Rattle.pe_grammar.specs.declared.tree.Tree.TheOpen as layer
use Rattle.pe_grammar.specs.Derivation.{Derivation, derivation, leaf, nothing, pair, left, right, done, present, absent, once, repeated}
use Rattle.pe_grammar.specs.Grammar.{Derives, form_at}
use Rattle.pe_grammar.proofs.Trees.{derivation-Leaf, derivation-Empty, derivation-Pair, derivation-Left, derivation-Right, derivation-Repeat, derivation-Present, derivation-Absent, derivation-Once}

-- one case for each variant
abbrev Cases : Tree → Type 0
Cases t =
    ((k : Token) × (t ≡ Leaf k))
    ⊎ ((t ≡ Empty)
    ⊎ (((x : Tree) × (y : Tree) × (t ≡ Pair (x, y)))
    ⊎ (((x : Tree) × (t ≡ Left x))
    ⊎ (((x : Tree) × (t ≡ Right x))
    ⊎ (((xs : List Tree) × (t ≡ Repeat xs))
    ⊎ (((k : Token) × (x : Tree) × (t ≡ Present (k, x)))
    ⊎ (((w : ℕ) × (t ≡ Absent w))
    ⊎ ((xs : List Tree) × (t ≡ Once xs)))))))))

cases_layer : (l : Tree-F Tree) → Cases (roll-Tree l)
cases_layer (layer.Leaf t) = inl (t, rolls-Leaf t)
cases_layer layer.Empty = inr (inl rolls-Empty)
cases_layer (layer.Pair p) = inr (inr (inl (p.0, p.1, rolls-Pair p)))
cases_layer (layer.Left x) = inr (inr (inr (inl (x, rolls-Left x))))
cases_layer (layer.Right x) = inr (inr (inr (inr (inl (x, rolls-Right x)))))
cases_layer (layer.Repeat xs) = inr (inr (inr (inr (inr (inl (xs, rolls-Repeat xs))))))
cases_layer (layer.Present p) = inr (inr (inr (inr (inr (inr (inl (p.0, p.1, rolls-Present p)))))))
cases_layer (layer.Absent w) = inr (inr (inr (inr (inr (inr (inr (inl (w, rolls-Absent w))))))))
cases_layer (layer.Once xs) = inr (inr (inr (inr (inr (inr (inr (inr (xs, rolls-Once xs))))))))

cases : (t : Tree) → Cases t
cases t = subst (λ v. Cases v) (roll-out-Tree t) (cases_layer (out-Tree t))

along : (g : List Entry) (n : ℕ) (t u : Tree) (d : Derivation) → t ≡ u → derivation u ≡ d → Derives g n (derivation t) → Derives g n d
along g n t u d p q h = subst (λ v. Derives g n v) (ap derivation p ∙ q) h

-- the form of a derivation
abbrev FormOf : List Entry → ℕ → Tree → Type 0
FormOf g n t =
    ((k : Token) × (t ≡ Leaf k) × (form_at g n ≡ Some (Terminal k.kind)))
    ⊎ (((x : Tree) × (y : Tree) × (a : ℕ) × (b : ℕ) × (t ≡ Pair (x, y)) × (form_at g n ≡ Some (Sequence a b)))
    ⊎ (((x : Tree) × (a : ℕ) × (b : ℕ) × (t ≡ Left x) × (form_at g n ≡ Some (Choice a b)))
    ⊎ (((x : Tree) × (a : ℕ) × (b : ℕ) × (t ≡ Right x) × (form_at g n ≡ Some (Choice a b)))
    ⊎ (((k : Token) × (x : Tree) × (set : ℕ) × (a : ℕ) × (t ≡ Present (k, x)) × (form_at g n ≡ Some (Clause set a)))
    ⊎ (((w : ℕ) × (a : ℕ) × (t ≡ Absent w) × (form_at g n ≡ Some (Clause w a)))
    ⊎ (((form_at g n ≡ Some form.Empty) ⊎ ((r : ℕ) × (bounds : Bounds) × (xs : List Tree) × (t ≡ Once xs) × (form_at g n ≡ Some (form.Once r bounds)))) ⊎ ((a : ℕ) × (xs : List Tree) × (t ≡ Repeat xs) × (form_at g n ≡ Some (form.Repeat a)))))))))

repeat_form : (g : List Entry) (n : ℕ) (ds : List Derivation) → Derives g n (repeated ds done) → (a : ℕ) × (form_at g n ≡ Some (form.Repeat a))
repeat_form g n [] h = h
repeat_form g n (d ∷ ds) h = (h.0, h.1)

pub form_of_tree : (g : List Entry) (n : ℕ) (t : Tree) → Derives g n (derivation t) → FormOf g n t
form_of_tree g n t h = elim (cases t) [
  | inl v ↦ inl (v.0, v.1, along g n t (Leaf v.0) (leaf v.0) v.1 (derivation-Leaf v.0) h)
  | inr w ↦ elim w [
    | inl v ↦ inr (inr (inr (inr (inr (inr (inl (inl (along g n t Empty nothing v derivation-Empty h))))))))
    | inr w ↦ elim w [
      | inl v ↦ let d = along g n t (Pair (v.0, v.1)) (pair (derivation v.0) (derivation v.1)) v.2 (derivation-Pair v.0 v.1) h in inr (inl (v.0, v.1, d.0, d.1, v.2, d.2))
      | inr w ↦ elim w [
        | inl v ↦ let d = along g n t (Left v.0) (left (derivation v.0)) v.1 (derivation-Left v.0) h in inr (inr (inl (v.0, d.0, d.1, v.1, d.2)))
        | inr w ↦ elim w [
          | inl v ↦ let d = along g n t (Right v.0) (right (derivation v.0)) v.1 (derivation-Right v.0) h in inr (inr (inr (inl (v.0, d.0, d.1, v.1, d.2))))
          | inr w ↦ elim w [
            | inl v ↦ let d = repeat_form g n (map derivation v.0) (along g n t (Repeat v.0) (repeated (map derivation v.0) done) v.1 (derivation-Repeat v.0) h) in inr (inr (inr (inr (inr (inr (inr (d.0, v.0, v.1, d.1)))))))
            | inr w ↦ elim w [
              | inl v ↦ let d = along g n t (Present (v.0, v.1)) (present v.0 (derivation v.1)) v.2 (derivation-Present v.0 v.1) h in inr (inr (inr (inr (inl (v.0, v.1, d.0, d.1, v.2, d.2)))))
              | inr w ↦ elim w [
                | inl v ↦ let d = along g n t (Absent v.0) (absent v.0) v.1 (derivation-Absent v.0) h in inr (inr (inr (inr (inr (inl (v.0, d.0, v.1, d.1))))))
                | inr v ↦ let d = along g n t (Once v.0) (once (repeated (map derivation v.0) done)) v.1 (derivation-Once v.0) h in inr (inr (inr (inr (inr (inr (inl (inr (d.0, d.1, v.0, v.1, d.2))))))))
              ]
            ]
          ]
        ]
      ]
    ]
  ]
]

pub sequence_tree : (g : List Entry) (n a b : ℕ) (t : Tree) → form_at g n ≡ Some (Sequence a b) → Derives g n (derivation t) → (x : Tree) × (y : Tree) × (t ≡ Pair (x, y))
sequence_tree g n a b t f h = elim (form_of_tree g n t h) [
  | inl v ↦ let p = v.2 in cc
  | inr w ↦ elim w [
    | inl v ↦ (v.0, v.1, v.4)
    | inr w ↦ elim w [
      | inl v ↦ let p = v.4 in cc
      | inr w ↦ elim w [
        | inl v ↦ let p = v.4 in cc
        | inr w ↦ elim w [
          | inl v ↦ let p = v.5 in cc
          | inr w ↦ elim w [
            | inl v ↦ let p = v.3 in cc
            | inr w ↦ elim w [ inl v ↦ elim v [ inl u ↦ cc | inr u ↦ let p = u.4 in cc ] | inr v ↦ let p = v.3 in cc ]
          ]
        ]
      ]
    ]
  ]
]

pub choice_tree : (g : List Entry) (n a b : ℕ) (t : Tree) → form_at g n ≡ Some (Choice a b) → Derives g n (derivation t) → ((x : Tree) × (t ≡ Left x)) ⊎ ((x : Tree) × (t ≡ Right x))
choice_tree g n a b t f h = elim (form_of_tree g n t h) [
  | inl v ↦ let p = v.2 in cc
  | inr w ↦ elim w [
    | inl v ↦ let p = v.5 in cc
    | inr w ↦ elim w [
      | inl v ↦ inl (v.0, v.3)
      | inr w ↦ elim w [
        | inl v ↦ inr (v.0, v.3)
        | inr w ↦ elim w [
          | inl v ↦ let p = v.5 in cc
          | inr w ↦ elim w [
            | inl v ↦ let p = v.3 in cc
            | inr w ↦ elim w [ inl v ↦ elim v [ inl u ↦ cc | inr u ↦ let p = u.4 in cc ] | inr v ↦ let p = v.3 in cc ]
          ]
        ]
      ]
    ]
  ]
]

pub clause_tree : (g : List Entry) (n u a : ℕ) (t : Tree) → form_at g n ≡ Some (Clause u a) → Derives g n (derivation t) → ((k : Token) × (x : Tree) × (t ≡ Present (k, x))) ⊎ (t ≡ Absent u)
clause_tree g n u a t f h = elim (form_of_tree g n t h) [
  | inl v ↦ let p = v.2 in cc
  | inr w ↦ elim w [
    | inl v ↦ let p = v.5 in cc
    | inr w ↦ elim w [
      | inl v ↦ let p = v.4 in cc
      | inr w ↦ elim w [
        | inl v ↦ let p = v.4 in cc
        | inr w ↦ elim w [
          | inl v ↦ inl (v.0, v.1, v.4)
          | inr w ↦ elim w [
            | inl v ↦ let p = v.3 in let q : v.0 ≡ u = cc in inr (v.2 ∙ ap Absent q)
            | inr w ↦ elim w [ inl v ↦ elim v [ inl u ↦ cc | inr u ↦ let p = u.4 in cc ] | inr v ↦ let p = v.3 in cc ]
          ]
        ]
      ]
    ]
  ]
]

pub terminal_tree : (g : List Entry) (n k : ℕ) (t : Tree) → form_at g n ≡ Some (Terminal k) → Derives g n (derivation t) → (u : Token) × (t ≡ Leaf u)
terminal_tree g n k t f h = elim (form_of_tree g n t h) [
  | inl v ↦ (v.0, v.1)
  | inr w ↦ elim w [
    | inl v ↦ let p = v.5 in cc
    | inr w ↦ elim w [
      | inl v ↦ let p = v.4 in cc
      | inr w ↦ elim w [
        | inl v ↦ let p = v.4 in cc
        | inr w ↦ elim w [
          | inl v ↦ let p = v.5 in cc
          | inr w ↦ elim w [
            | inl v ↦ let p = v.3 in cc
            | inr w ↦ elim w [ inl v ↦ elim v [ inl u ↦ cc | inr u ↦ let p = u.4 in cc ] | inr v ↦ let p = v.3 in cc ]
          ]
        ]
      ]
    ]
  ]
]

pub pair_is : (t : Tree) (p q : Tree × Tree) → t ≡ Pair p → q ≡ p → derivation t ≡ pair (derivation q.0) (derivation q.1)
pair_is t p q e r = ap derivation e ∙ derivation-Pair p.0 p.1 ∙ ap (λ w. pair (derivation w.0) (derivation w.1)) (sym r)

pub left_is : (t x u : Tree) → t ≡ Left x → u ≡ x → derivation t ≡ left (derivation u)
left_is t x u p q = ap derivation p ∙ derivation-Left x ∙ ap (λ w. left (derivation w)) (sym q)

pub right_is : (t x u : Tree) → t ≡ Right x → u ≡ x → derivation t ≡ right (derivation u)
right_is t x u p q = ap derivation p ∙ derivation-Right x ∙ ap (λ w. right (derivation w)) (sym q)

pub present_is : (t : Tree) (p q : Token × Tree) → t ≡ Present p → q ≡ p → derivation t ≡ present q.0 (derivation q.1)
present_is t p q e r = ap derivation e ∙ derivation-Present p.0 p.1 ∙ ap (λ w. present w.0 (derivation w.1)) (sym r)

pub leaf_is : (t : Tree) (k : Token) → t ≡ Leaf k → derivation t ≡ leaf k
leaf_is t k p = ap derivation p ∙ derivation-Leaf k

pub absent_is : (t : Tree) (w : ℕ) → t ≡ Absent w → derivation t ≡ absent w
absent_is t w p = ap derivation p ∙ derivation-Absent w

pub pair_derives : (g : List Entry) (n a b : ℕ) (c d e : Derivation) → form_at g n ≡ Some (Sequence a b) → Derives g n c → c ≡ pair d e → Derives g a d × Derives g b e
pair_derives g n a b c d e f h q =
    let k : Derives g n (pair d e) = subst (λ v. Derives g n v) q h in
    let p : k.0 ≡ a = cc in
    let r : k.1 ≡ b = cc in
    (subst (λ v. Derives g v d) p k.3, subst (λ v. Derives g v e) r k.4)

pub left_derives : (g : List Entry) (n a b : ℕ) (c d : Derivation) → form_at g n ≡ Some (Choice a b) → Derives g n c → c ≡ left d → Derives g a d
left_derives g n a b c d f h q =
    let k : Derives g n (left d) = subst (λ v. Derives g n v) q h in
    let p : k.0 ≡ a = cc in subst (λ v. Derives g v d) p k.3

pub right_derives : (g : List Entry) (n a b : ℕ) (c d : Derivation) → form_at g n ≡ Some (Choice a b) → Derives g n c → c ≡ right d → Derives g b d
right_derives g n a b c d f h q =
    let k : Derives g n (right d) = subst (λ v. Derives g n v) q h in
    let p : k.1 ≡ b = cc in subst (λ v. Derives g v d) p k.3

pub present_derives : (g : List Entry) (n w a : ℕ) (t : Token) (c d : Derivation) → form_at g n ≡ Some (Clause w a) → Derives g n c → c ≡ present t d → Derives g a d
present_derives g n w a t c d f h q =
    let k : Derives g n (present t d) = subst (λ v. Derives g n v) q h in
    let r = k.2 in
    let p : k.1 ≡ a = cc in subst (λ v. Derives g v d) p k.4

pub repeat_tree : (g : List Entry) (n a : ℕ) (t : Tree) → form_at g n ≡ Some (form.Repeat a) → Derives g n (derivation t) → (xs : List Tree) × (t ≡ Repeat xs)
repeat_tree g n a t f h = elim (form_of_tree g n t h) [
  | inl v ↦ let p = v.2 in cc
  | inr w ↦ elim w [
    | inl v ↦ let p = v.5 in cc
    | inr w ↦ elim w [
      | inl v ↦ let p = v.4 in cc
      | inr w ↦ elim w [
        | inl v ↦ let p = v.4 in cc
        | inr w ↦ elim w [
          | inl v ↦ let p = v.5 in cc
          | inr w ↦ elim w [
            | inl v ↦ let p = v.3 in cc
            | inr w ↦ elim w [ inl v ↦ elim v [ inl u ↦ cc | inr u ↦ let p = u.4 in cc ] | inr v ↦ (v.1, v.2) ]
          ]
        ]
      ]
    ]
  ]
]

pub once_tree : (g : List Entry) (n r : ℕ) (set : Bounds) (t : Tree) → form_at g n ≡ Some (form.Once r set) → Derives g n (derivation t) → (xs : List Tree) × (t ≡ Once xs)
once_tree g n r set t f h = elim (form_of_tree g n t h) [
  | inl v ↦ let p = v.2 in cc
  | inr w ↦ elim w [
    | inl v ↦ let p = v.5 in cc
    | inr w ↦ elim w [
      | inl v ↦ let p = v.4 in cc
      | inr w ↦ elim w [
        | inl v ↦ let p = v.4 in cc
        | inr w ↦ elim w [
          | inl v ↦ let p = v.5 in cc
          | inr w ↦ elim w [
            | inl v ↦ let p = v.3 in cc
            | inr w ↦ elim w [ inl v ↦ elim v [ inl u ↦ cc | inr u ↦ (u.2, u.3) ] | inr v ↦ let p = v.3 in cc ]
          ]
        ]
      ]
    ]
  ]
]

pub repeat_is : (t : Tree) (xs us : List Tree) → t ≡ Repeat xs → us ≡ xs → derivation t ≡ repeated (map derivation us) done
repeat_is t xs us p q = ap derivation p ∙ derivation-Repeat xs ∙ ap (λ w. repeated (map derivation w) done) (sym q)

most_get : (xs : List Tree) (i : ℕ) (u : Tree) → slice_get xs i ≡ Some u → size-Tree u ≤ most size-Tree xs
most_get [] i u e = cc
most_get (x ∷ xs) zero u e = let q : x ≡ u = cc in let r : size-Tree x ≡ size-Tree u = ap size-Tree q in omega arith
most_get (x ∷ xs) (suc i) u e = let h = most_get xs i u e in omega arith

pub element_smaller : (t : Tree) (xs us : List Tree) → t ≡ Repeat xs → us ≡ xs → (i : ℕ) (u : Tree) → slice_get us i ≡ Some u → size-Tree u < size-Tree t
element_smaller t xs us p q i u e =
    let s : size-Tree t ≡ size-Tree (Repeat xs) = ap size-Tree p in
    let v : slice_get xs i ≡ Some u = subst (λ w. slice_get w i ≡ Some u) q e in
    let h = most_get xs i u v in
    let z : size-Tree (Repeat xs) ≡ max (most size-Tree xs) 0 + 1 = sized-Repeat xs in
    omega arith

repeated_each : (g : List Entry) (n a : ℕ) → form_at g n ≡ Some (form.Repeat a) → (ts : List Tree) → Derives g n (repeated (map derivation ts) done) → (i : ℕ) (u : Tree) → slice_get ts i ≡ Some u → Derives g a (derivation u)
repeated_each g n a f [] h i u e = cc
repeated_each g n a f (t ∷ ts) h zero u e =
    let p : h.0 ≡ a = cc in
    let q : t ≡ u = cc in
    subst (λ v. Derives g a (derivation v)) q (subst (λ v. Derives g v (derivation t)) p h.2)
repeated_each g n a f (t ∷ ts) h (suc i) u e = repeated_each g n a f ts h.3 i u e

pub items_derive : (g : List Entry) (n a : ℕ) (t : Tree) (us : List Tree) → form_at g n ≡ Some (form.Repeat a) → Derives g n (derivation t) → derivation t ≡ repeated (map derivation us) done → (i : ℕ) (u : Tree) → slice_get us i ≡ Some u → Derives g a (derivation u)
items_derive g n a t us f h q i u e = repeated_each g n a f us (subst (λ v. Derives g n v) q h) i u e

pub once_is : (t : Tree) (xs us : List Tree) → t ≡ Once xs → us ≡ xs → derivation t ≡ once (repeated (map derivation us) done)
once_is t xs us p q = ap derivation p ∙ derivation-Once xs ∙ ap (λ w. once (repeated (map derivation w) done)) (sym q)

pub option_smaller : (t : Tree) (xs us : List Tree) → t ≡ Once xs → us ≡ xs → (i : ℕ) (u : Tree) → slice_get us i ≡ Some u → size-Tree u < size-Tree t
option_smaller t xs us p q i u e =
    let s : size-Tree t ≡ size-Tree (Once xs) = ap size-Tree p in
    let v : slice_get xs i ≡ Some u = subst (λ w. slice_get w i ≡ Some u) q e in
    let h = most_get xs i u v in
    let z : size-Tree (Once xs) ≡ max (most size-Tree xs) 0 + 1 = sized-Once xs in
    omega arith

pub options_derive : (g : List Entry) (n r : ℕ) (set : Bounds) (a : ℕ) (t : Tree) (us : List Tree) → form_at g n ≡ Some (form.Once r set) → form_at g r ≡ Some (form.Repeat a) → Derives g n (derivation t) → derivation t ≡ once (repeated (map derivation us) done) → (i : ℕ) (u : Tree) → slice_get us i ≡ Some u → Derives g a (derivation u)
options_derive g n r set a t us f f' h q i u e =
    let k : Derives g n (once (repeated (map derivation us) done)) = subst (λ v. Derives g n v) q h in
    let p : k.0 ≡ r = cc in
    repeated_each g r a f' us (subst (λ v. Derives g v (repeated (map derivation us) done)) p k.3) i u e
