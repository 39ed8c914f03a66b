-- In a function that is read from a text, each pin is told by a token that is a name.
use Rattle.std.proofs.Common.{◌≡◌, ℕ, zero, suc, ◌/◌, ◌%◌, Bool, true, false, cond, ltb, eqb, ◌<◌, arith, List, [], ◌∷◌, ◌++◌, length, take, drop, Option, Some, None, inl, inr, refl, sym, ap, ◌∙◌, subst}
use Rattle.std.specs.Prelude.{slice_index}
use Rattle.pe_grammar.specs.declared.form.Form.{Form}
use Rattle.pe_grammar.specs.declared.form.Form.TheVariants.{Terminal, Empty, Sequence, Choice, Repeat, Clause, Once}
use Rattle.pe_grammar.specs.declared.terminal.Token.{Token}
use Rattle.pe_grammar.specs.Derivation.{Derivation, leaf, nothing, pair, left, right, done, more, present, absent, once, text}
use Rattle.pe_grammar.specs.Grammar.{form_at, Derives}
use Rattle.pe_bool_expr.specs.declared.expr.Expr.{Expr}
use Rattle.pe_bool_expr.specs.declared.expr.Expr.TheVariants as tree
use Rattle.pe_bool_expr.specs.declared.liberty_table.TheConstants.{LIBERTY}
use Rattle.pe_bool_expr.specs.declared.style.Style.TheVariants.{Liberty}
use Rattle.pe_bool_expr.specs.Functions.{formula, pins}
use Rattle.pe_bool_expr.specs.Meaning.{joined, first_of, halved, balanced, negated, count_of, level_of, operands_of, behind_operator, operand_of}
use Rattle.pe_bool_expr.specs.Styles.{operators}
use Rattle.pe_bool_expr.proofs.Formulas.{formula-Const, formula-Pin, formula-Not, pins-two}

-- Q holds of each item
abbrev pub Each : {A : Type 0} → (A → Type 0) → List A → Type 0
Each Q [] = Unit {0}
Each Q (x ∷ xs) = Q x × Each Q xs

pub each-append : {A : Type 0} (Q : A → Type 0) (xs ys : List A) → Each Q xs → Each Q ys → Each Q (xs ++ ys)
each-append Q [] ys p q = q
each-append Q (x ∷ xs) ys p q = (p.0, each-append Q xs ys p.1 q)

pub each-front : {A : Type 0} (Q : A → Type 0) (xs ys : List A) → Each Q (xs ++ ys) → Each Q xs
each-front Q [] ys p = tt
each-front Q (x ∷ xs) ys p = (p.0, each-front Q xs ys p.1)

pub each-back : {A : Type 0} (Q : A → Type 0) (xs ys : List A) → Each Q (xs ++ ys) → Each Q ys
each-back Q [] ys p = p
each-back Q (x ∷ xs) ys p = each-back Q xs ys p.1

each-take : {A : Type 0} (Q : A → Type 0) (n : ℕ) (xs : List A) → Each Q xs → Each Q (take n xs)
each-take Q zero xs p = tt
each-take Q (suc n) [] p = tt
each-take Q (suc n) (x ∷ xs) p = (p.0, each-take Q n xs p.1)

each-drop : {A : Type 0} (Q : A → Type 0) (n : ℕ) (xs : List A) → Each Q xs → Each Q (drop n xs)
each-drop Q zero xs p = p
each-drop Q (suc n) [] p = tt
each-drop Q (suc n) (x ∷ xs) p = each-drop Q n xs p.1

-- Q holds of each pin of a tree
abbrev pub Good : (ℕ → Type 0) → Expr → Type 0
Good Q e = Each Q (pins (formula e))

good-Const : (Q : ℕ → Type 0) (b : Bool) → Good Q (tree.Const b)
good-Const Q b = subst (λ f. Each Q (pins f)) (sym (formula-Const b)) tt

good-Pin : (Q : ℕ → Type 0) (i : ℕ) → Q i → Good Q (tree.Pin i)
good-Pin Q i q = subst (λ f. Each Q (pins f)) (sym (formula-Pin i)) (q, tt)

good-Not : (Q : ℕ → Type 0) (e : Expr) → Good Q e → Good Q (tree.Not e)
good-Not Q e p = subst (λ f. Each Q (pins f)) (sym (formula-Not e)) p

good-And : (Q : ℕ → Type 0) (e f : Expr) → Good Q e → Good Q f → Good Q (tree.And e f)
good-And Q e f p q = subst (Each Q) (sym (pins-two (tree.And e f) e f (inl refl))) (each-append Q (pins (formula e)) (pins (formula f)) p q)

good-Or : (Q : ℕ → Type 0) (e f : Expr) → Good Q e → Good Q f → Good Q (tree.Or e f)
good-Or Q e f p q = subst (Each Q) (sym (pins-two (tree.Or e f) e f (inr (inl refl)))) (each-append Q (pins (formula e)) (pins (formula f)) p q)

good-Xor : (Q : ℕ → Type 0) (e f : Expr) → Good Q e → Good Q f → Good Q (tree.Xor e f)
good-Xor Q e f p q = subst (Each Q) (sym (pins-two (tree.Xor e f) e f (inr (inr refl)))) (each-append Q (pins (formula e)) (pins (formula f)) p q)

-- the operators of the grammar
abbrev Among : {A : Type 0} → List A → Type 0
Among {A} xs = A

abbrev Operator : Type 0
Operator = Among (operators Liberty)

-- two trees of which Q holds, joined by it, are one
abbrev Joins : (ℕ → Type 0) → Operator → Type 0
Joins Q op = (e f : Expr) → Good Q e → Good Q f → Good Q (joined op e f)

good-negated : (Q : ℕ → Type 0) (n : ℕ) (e : Expr) → Good Q e → Good Q (negated n e)
good-negated Q zero e p = p
good-negated Q (suc n) e p = good-Not Q (negated n e) (good-negated Q n e p)

good-first : (Q : ℕ → Type 0) (es : List Expr) → Each (Good Q) es → Good Q (first_of es)
good-first Q [] p = good-Const Q false
good-first Q (e ∷ es) p = p.0

good-if : (Q : ℕ → Type 0) (b : Bool) (e f : Expr) → Good Q e → Good Q f → Good Q (cond b e f)
good-if Q true e f p q = p
good-if Q false e f p q = q

good-halved : (Q : ℕ → Type 0) (op : Operator) → Joins Q op → (n : ℕ) (es : List Expr) → Each (Good Q) es → Good Q (halved op n es)
good-halved Q op j zero es p = good-first Q es p
good-halved Q op j (suc n) es p =
    let half = length es / 2 in
    good-if Q (ltb (length es) 2) (first_of es) (joined op (halved op n (take half es)) (halved op n (drop half es))) (good-first Q es p)
    (j (halved op n (take half es)) (halved op n (drop half es)) (good-halved Q op j n (take half es) (each-take (Good Q) half es p)) (good-halved Q op j n (drop half es) (each-drop (Good Q) half es p)))

good-balanced : (Q : ℕ → Type 0) (op : Operator) → Joins Q op → (es : List Expr) → Each (Good Q) es → Good Q (balanced op es)
unfolding balanced
good-balanced Q op j es p = good-halved Q op j (length es) es p

-- the levels of the grammar that have an operator: + and |, then * and & and nothing, then ^
data Rung : Type 0 where
  first : Rung
  second : Rung
  third : Rung

-- the operators of a level and of those behind it, and of those behind it alone
abbrev ops_at : Rung → List Operator
ops_at first = operators Liberty
ops_at second = drop 1 (operators Liberty)
ops_at third = drop 2 (operators Liberty)

abbrev behind_ops : Rung → List Operator
behind_ops first = drop 1 (operators Liberty)
behind_ops second = drop 2 (operators Liberty)
behind_ops third = []

-- what a place of the table is for the tree
data Tag : Type 0 where
  level : Rung → Tag
  rest : Rung → Tag
  each : Rung → Tag
  marked : Tag
  primed : Tag
  primary : Tag
  primary_2 : Tag
  primary_3 : Tag
  bracket : Tag
  inside : Tag

abbrev level_place : Rung → ℕ
level_place first = 0
level_place second = 1
level_place third = 2

abbrev rest_place : Rung → ℕ
rest_place first = 6
rest_place second = 11
rest_place third = 18

abbrev each_place : Rung → ℕ
each_place first = 7
each_place second = 12
each_place third = 19

abbrev operator_place : Rung → ℕ
operator_place first = 8
operator_place second = 13
operator_place third = 20

abbrev place : Tag → ℕ
place (level r) = level_place r
place (rest r) = rest_place r
place (each r) = each_place r
place marked = 3
place primed = 4
place primary = 5
place primary_2 = 26
place primary_3 = 28
place bracket = 30
place inside = 32

abbrev next : Rung → Tag
next first = level second
next second = level third
next third = marked

abbrev all : List Operator
all = operators Liberty

rest_form : (r : Rung) → form_at LIBERTY (rest_place r) ≡ Some (Repeat (each_place r))
rest_form first = refl
rest_form second = refl
rest_form third = refl

each_form : (r : Rung) → form_at LIBERTY (each_place r) ≡ Some (Sequence (operator_place r) (place (next r)))
each_form first = refl
each_form second = refl
each_form third = refl

-- the shapes of forms and of derivations
abbrev shape_in : Option Form → ℕ
shape_in None = 7
shape_in (Some (Terminal k)) = 0
shape_in (Some Empty) = 1
shape_in (Some (Sequence a b)) = 2
shape_in (Some (Choice a b)) = 3
shape_in (Some (Repeat a)) = 4
shape_in (Some (Clause set a)) = 5
shape_in (Some (Once a bounds)) = 6

abbrev shape_of : Derivation → ℕ
shape_of (leaf t) = 0
shape_of nothing = 1
shape_of (pair c d) = 2
shape_of (left d) = 3
shape_of (right d) = 3
shape_of done = 4
shape_of (more c d) = 4
shape_of (present t d) = 5
shape_of (absent k) = 5
shape_of (once d) = 6

shapes : (n : ℕ) (d : Derivation) → Derives LIBERTY n d → shape_in (form_at LIBERTY n) ≡ shape_of d
shapes n (leaf t) h = ap shape_in h
shapes n nothing h = ap shape_in h
shapes n (pair c d) h = ap shape_in h.2
shapes n (left d) h = ap shape_in h.2
shapes n (right d) h = ap shape_in h.2
shapes n done h = ap shape_in h.1
shapes n (more c d) h = ap shape_in h.1
shapes n (present t d) h = ap shape_in h.2
shapes n (absent k) h = ap shape_in h.1
shapes n (once d) h = ap shape_in h.2

abbrev tag_shape : Tag → ℕ
tag_shape (rest r) = 4
tag_shape primary = 3
tag_shape primary_2 = 3
tag_shape primary_3 = 3
tag_shape (level r) = 2
tag_shape (each r) = 2
tag_shape marked = 2
tag_shape primed = 2
tag_shape bracket = 2
tag_shape inside = 2

tag_form : (t : Tag) → shape_in (form_at LIBERTY (place t)) ≡ tag_shape t
tag_form (level first) = refl
tag_form (level second) = refl
tag_form (level third) = refl
tag_form (rest first) = refl
tag_form (rest second) = refl
tag_form (rest third) = refl
tag_form (each first) = refl
tag_form (each second) = refl
tag_form (each third) = refl
tag_form marked = refl
tag_form primed = refl
tag_form primary = refl
tag_form primary_2 = refl
tag_form primary_3 = refl
tag_form bracket = refl
tag_form inside = refl

low_shape : (t : Tag) (n : ℕ) → tag_shape t ≡ n → n < 2 → ⊥
low_shape (rest r) n e lt = omega arith
low_shape primary n e lt = omega arith
low_shape primary_2 n e lt = omega arith
low_shape primary_3 n e lt = omega arith
low_shape _ n e lt = omega arith

high_shape : (t : Tag) (n : ℕ) → tag_shape t ≡ n → 4 < n → ⊥
high_shape (rest r) n e lt = omega arith
high_shape primary n e lt = omega arith
high_shape primary_2 n e lt = omega arith
high_shape primary_3 n e lt = omega arith
high_shape _ n e lt = omega arith

apart : (m n : ℕ) → eqb m n ≡ false → m ≡ n → ⊥
apart m n h e = let f : eqb m m ≡ false = ap (eqb m) e ∙ h in same m f
  where
    same : (m : ℕ) → eqb m m ≡ false → ⊥
    same m f = grind arith

module _ (Q : ℕ → Type 0) (ps : List ℕ) where
  -- each token that is a name tells a pin of which Q holds
  abbrev pub Told : List Token → Type 0
  Told ts = Each (λ t. t.kind ≡ 7 → Q (slice_index ps t.place)) ts

  abbrev Says : Tag → Derivation → Type 0
  Says (level r) d = Good Q (level_of all ps (ops_at r) d)
  Says (rest r) d = Each (Good Q) (operands_of all ps (behind_ops r) d)
  Says (each r) d = Good Q (behind_operator all ps (behind_ops r) d)
  Says marked d = Good Q (level_of all ps [] d)
  Says primed d = Good Q (operand_of all ps d)
  Says primary d = Good Q (operand_of all ps d)
  Says primary_2 d = Good Q (operand_of all ps (right d))
  Says primary_3 d = Good Q (operand_of all ps (right (right d)))
  Says bracket d = Good Q (operand_of all ps (right (right (right d))))
  Says inside d = (before : Derivation) → Good Q (operand_of all ps (right (right (right (pair before d)))))

  next_says : (r : Rung) (d : Derivation) → Says (next r) d → Good Q (level_of all ps (behind_ops r) d)
  next_says first d h = h
  next_says second d h = h
  next_says third d h = h

  at : (n m : ℕ) (d : Derivation) → n ≡ m → Derives LIBERTY n d → Derives LIBERTY m d
  at n m d e h = subst (λ k. Derives LIBERTY k d) e h

  -- the places of the parts of a form
  same_two : (n a b x y : ℕ) → form_at LIBERTY n ≡ Some (Sequence a b) → form_at LIBERTY n ≡ Some (Sequence x y) → (x ≡ a) × (y ≡ b)
  same_two n a b x y e f = (cc, cc)

  same_choice : (n a b x y : ℕ) → form_at LIBERTY n ≡ Some (Choice a b) → form_at LIBERTY n ≡ Some (Choice x y) → (x ≡ a) × (y ≡ b)
  same_choice n a b x y e f = (cc, cc)

  same_repeat : (n a x : ℕ) → form_at LIBERTY n ≡ Some (Repeat a) → form_at LIBERTY n ≡ Some (Repeat x) → x ≡ a
  same_repeat n a x e f = cc

  says : (d : Derivation) (t : Tag) → Derives LIBERTY (place t) d → Told (text d) → Says t d
  says (pair c d) (level first) h k =
      let s = same_two (level_place first) (place (next first)) (rest_place first) h.0 h.1 refl h.2 in
      good-balanced Q _ (good-Or Q) (level_of all ps (behind_ops first) c ∷ operands_of all ps (behind_ops first) d)
      (next_says first c (says c (next first) (at h.0 _ c s.0 h.3) (each-front _ (text c) (text d) k)), says d (rest first) (at h.1 _ d s.1 h.4) (each-back _ (text c) (text d) k))
  says (pair c d) (level second) h k =
      let s = same_two (level_place second) (place (next second)) (rest_place second) h.0 h.1 refl h.2 in
      good-balanced Q _ (good-And Q) (level_of all ps (behind_ops second) c ∷ operands_of all ps (behind_ops second) d)
      (next_says second c (says c (next second) (at h.0 _ c s.0 h.3) (each-front _ (text c) (text d) k)), says d (rest second) (at h.1 _ d s.1 h.4) (each-back _ (text c) (text d) k))
  says (pair c d) (level third) h k =
      let s = same_two (level_place third) (place (next third)) (rest_place third) h.0 h.1 refl h.2 in
      good-balanced Q _ (good-Xor Q) (level_of all ps (behind_ops third) c ∷ operands_of all ps (behind_ops third) d)
      (next_says third c (says c (next third) (at h.0 _ c s.0 h.3) (each-front _ (text c) (text d) k)), says d (rest third) (at h.1 _ d s.1 h.4) (each-back _ (text c) (text d) k))
  says done (rest r) h k = tt
  says (more c d) (rest r) h k =
      let s = same_repeat (rest_place r) (each_place r) h.0 (rest_form r) h.1 in
      (says c (each r) (at h.0 _ c s h.2) (each-front _ (text c) (text d) k), says d (rest r) h.3 (each-back _ (text c) (text d) k))
  says (pair c d) (each r) h k =
      let s = same_two (each_place r) (operator_place r) (place (next r)) h.0 h.1 (each_form r) h.2 in
      next_says r d (says d (next r) (at h.1 _ d s.1 h.4) (each-back _ (text c) (text d) k))
  says (pair c d) marked h k =
      let s = same_two 3 21 4 h.0 h.1 refl h.2 in
      good-negated Q (count_of c) (operand_of all ps d) (says d primed (at h.1 4 d s.1 h.4) (each-back _ (text c) (text d) k))
  says (pair c d) primed h k =
      let s = same_two 4 5 23 h.0 h.1 refl h.2 in
      good-negated Q (count_of d % 2) (operand_of all ps c) (says c primary (at h.0 5 c s.0 h.3) (each-front _ (text c) (text d) k))
  says (left (leaf t)) primary h k =
      let s = same_choice 5 25 26 h.0 h.1 refl h.2 in
      let leaf_form = ap (form_at LIBERTY) (sym s.0) ∙ h.3 in
      let name : t.kind ≡ 7 = cc in
      good-Pin Q (slice_index ps t.place) (k.0 name)
  says (left d) primary h k = let s = same_choice 5 25 26 h.0 h.1 refl h.2 in absurd (apart 0 (shape_of d) refl (shapes 25 d (at h.0 25 d s.0 h.3)))
  says (right d) primary h k = let s = same_choice 5 25 26 h.0 h.1 refl h.2 in says d primary_2 (at h.1 26 d s.1 h.3) k
  says (left d) primary_2 h k = good-Const Q false
  says (right d) primary_2 h k = let s = same_choice 26 27 28 h.0 h.1 refl h.2 in says d primary_3 (at h.1 28 d s.1 h.3) k
  says (left d) primary_3 h k = good-Const Q true
  says (right d) primary_3 h k = let s = same_choice 28 29 30 h.0 h.1 refl h.2 in says d bracket (at h.1 30 d s.1 h.3) k
  says (pair c d) bracket h k = let s = same_two 30 31 32 h.0 h.1 refl h.2 in says d inside (at h.1 32 d s.1 h.4) (each-back _ (text c) (text d) k) c
  says (pair c d) inside h k = λ before. let s = same_two 32 0 33 h.0 h.1 refl h.2 in says c (level first) (at h.0 0 c s.0 h.3) (each-front _ (text c) (text d) k)
  says (leaf x) t h k = absurd (low_shape t 0 (sym (tag_form t) ∙ shapes (place t) (leaf x) h) (omega arith))
  says nothing t h k = absurd (low_shape t 1 (sym (tag_form t) ∙ shapes (place t) nothing h) (omega arith))
  says (present x d) t h k = absurd (high_shape t 5 (sym (tag_form t) ∙ shapes (place t) (present x d) h) (omega arith))
  says (absent n) t h k = absurd (high_shape t 5 (sym (tag_form t) ∙ shapes (place t) (absent n) h) (omega arith))
  says (once d) t h k = absurd (high_shape t 6 (sym (tag_form t) ∙ shapes (place t) (once d) h) (omega arith))
  says d t h k = absurd (apart (tag_shape t) (shape_of d) refl (sym (tag_form t) ∙ shapes (place t) d h))

  -- so of a function
  pub good_function : (d : Derivation) → Derives LIBERTY 0 d → Told (text d) → Good Q (level_of all ps all d)
  good_function d h k = says d (level first) h k
