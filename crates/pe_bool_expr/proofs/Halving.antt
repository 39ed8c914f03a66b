-- Balanced trees: enough steps give the whole tree, and a tree of two or more is one of its two halves.
use Rattle.std.proofs.Common.{◌≡◌, ℕ, zero, suc, ◌+◌, ◌-◌, ◌/◌, ◌<◌, ◌≤◌, true, false, ltb, List, [], ◌∷◌, ◌++◌, length, take, drop, length-drop, length-append, sym, refl, ap, ◌∙◌, inl, inr, arith}
use Rattle.std.proofs.lemmas.Bool.{cases_lt}
use Rattle.std.proofs.lemmas.List.{length-take-le, drop-take, drop-drop}
use Rattle.pe_bool_expr.specs.declared.expr.Expr.{Expr}
use Rattle.pe_bool_expr.specs.declared.style.Operator.{Operator}
use Rattle.pe_bool_expr.specs.Meaning.{joined, first_of, halved, balanced}

short_test : (n : ℕ) → n < 2 → ltb n 2 ≡ true
short_test n h = grind arith

long_test : (n : ℕ) → 2 ≤ n → ltb n 2 ≡ false
long_test n h = grind arith

short : (op : Operator) (n : ℕ) (es : List Expr) → length es < 2 → halved op n es ≡ first_of es
short op zero es h = refl
short op (suc n) es h = rw (short_test (length es) h) refl

long : (op : Operator) (n : ℕ) (es : List Expr) → 2 ≤ length es →
    halved op (suc n) es ≡ joined op (halved op n (take (length es / 2) es)) (halved op n (drop (length es / 2) es))
long op n es h = rw (long_test (length es) h) refl

joined_same : (op : Operator) (a b c d : Expr) → a ≡ c → b ≡ d → joined op a b ≡ joined op c d
joined_same op a b c d p q = ap (λ x. joined op x b) p ∙ ap (joined op c) q

half-le : (n : ℕ) → n / 2 ≤ n
half-le n = omega arith

length-front : (es : List Expr) → length (take (length es / 2) es) ≡ length es / 2
length-front es = length-take-le (length es / 2) es (half-le (length es))

-- more steps change nothing
enough : (op : Operator) (n m : ℕ) (es : List Expr) → length es ≤ n → length es ≤ m → halved op n es ≡ halved op m es
enough op zero m es h k = let s : length es < 2 = omega arith in short op zero es s ∙ sym (short op m es s)
enough op (suc n) zero es h k = let s : length es < 2 = omega arith in short op (suc n) es s ∙ sym (short op zero es s)
enough op (suc n) (suc m) es h k =
    elim (cases_lt (length es) 2) [
      | inl s ↦ short op (suc n) es s ∙ sym (short op (suc m) es s)
      | inr l ↦
          long op n es l
          ∙ joined_same op _ _ _ _
          (enough op n m (take (length es / 2) es) (omega (arith, length-front es)) (omega (arith, length-front es)))
          (enough op n m (drop (length es / 2) es) (omega (arith, length-drop (length es / 2) es)) (omega (arith, length-drop (length es / 2) es)))
          ∙ sym (long op m es l)
    ]

one_less : (n : ℕ) → 2 ≤ n → (m : ℕ) × (n ≡ suc m)
one_less n h = (n - 1, omega arith)

-- a tree of two or more
pub balanced_halves : (op : Operator) (es : List Expr) → 2 ≤ length es →
    balanced op es ≡ joined op (balanced op (take (length es / 2) es)) (balanced op (drop (length es / 2) es))
unfolding balanced
balanced_halves op es l =
    let m = one_less (length es) l in
    ap (λ n. halved op n es) m.1
    ∙ long op m.0 es l
    ∙ joined_same op _ _ _ _
    (enough op m.0 (length (take (length es / 2) es)) (take (length es / 2) es) (omega (arith, length-front es, m.1)) (omega arith))
    (enough op m.0 (length (drop (length es / 2) es)) (drop (length es / 2) es) (omega (arith, length-drop (length es / 2) es, m.1)) (omega arith))

-- the tree of the last operands, from that of the later half and then that of the earlier
pub joined_last : (op : Operator) (xs ys : List Expr) (count : ℕ) (a b e : Expr) → 2 ≤ count → count ≤ length xs →
    ys ≡ take (length xs - (count - count / 2)) xs → b ≡ balanced op (drop (length xs - (count - count / 2)) xs) →
    a ≡ balanced op (drop (length ys - count / 2) ys) → e ≡ joined op a b →
    e ≡ balanced op (drop (length xs - count) xs)
joined_last op xs ys count a b e two fits is_ys is_b is_a is_e =
    let zs = drop (length xs - count) xs in
    let size : length zs ≡ count = omega (arith, length-drop (length xs - count) xs) in
    let cut : length xs - (count - count / 2) ≡ (length xs - count) + count / 2 = omega arith in
    let long_ys : length ys ≡ (length xs - count) + count / 2 = ap length is_ys ∙ length-take-le (length xs - (count - count / 2)) xs (omega arith) ∙ cut in
    let back : length ys - count / 2 ≡ length xs - count = omega (arith, long_ys) in
    let front : drop (length ys - count / 2) ys ≡ take (length zs / 2) zs =
    ap (λ n. drop n ys) back ∙ ap (λ v. drop (length xs - count) v) (is_ys ∙ ap (λ n. take n xs) cut) ∙ drop-take (length xs - count) (count / 2) xs ∙ ap (λ n. take (n / 2) zs) (sym size) in
    let rest : drop (length xs - (count - count / 2)) xs ≡ drop (length zs / 2) zs =
    ap (λ n. drop n xs) cut ∙ sym (drop-drop (count / 2) (length xs - count) xs) ∙ ap (λ n. drop (n / 2) zs) (sym size) in
    is_e ∙ joined_same op _ _ _ _ (is_a ∙ ap (balanced op) front) (is_b ∙ ap (balanced op) rest) ∙ sym (balanced_halves op zs (omega (arith, size, two)))

drop_front : (ys : List Expr) (e : Expr) → drop (length ys) (ys ++ e ∷ []) ≡ e ∷ []
drop_front [] e = refl
drop_front (y ∷ ys) e = drop_front ys e

-- the last operand alone
pub last_alone : (op : Operator) (xs ys : List Expr) (e : Expr) → xs ≡ ys ++ e ∷ [] → e ≡ balanced op (drop (length xs - 1) xs)
unfolding balanced
last_alone op xs ys e p =
    let n : length xs - 1 ≡ length ys = omega (arith, ap length p, length-append ys (e ∷ [])) in
    let q : drop (length xs - 1) xs ≡ e ∷ [] = ap (λ k. drop k xs) n ∙ ap (drop (length ys)) p ∙ drop_front ys e in
    rw q refl
