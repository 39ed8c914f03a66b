-- What expressions and assignments read.
use Rattle.std.proofs.Common.{◌<◌, length, get_or, drop, suc, ◌+◌, drop-cons, add-one, ◌≡◌, ℕ, Bool, true, false, ◌&&◌, ◌||◌, List, [], ◌∷◌, ◌++◌, refl, sym, ap, ◌∙◌}
use Rattle.std.specs.Str.{bytes_eq}
use Rattle.std.proofs.lemmas.List.Folds.{list_any-append, list_all-append}
use Rattle.pe_base.specs.declared.value.Val.{Val}
use Rattle.pe_base.specs.Operators.{not_of}
use Rattle.pe_base.specs.Names.{has_name, all_among, HasSameNames}
use Rattle.pe_verilog_ast.specs.declared.expression.Ex.{Ex}
use Rattle.pe_assigns.specs.Logic.{Logic, net, inverse, both, either, other, logic_of, is_read, value_of}
use Rattle.std.specs.List.{flat_map}
use Rattle.pe_verilog_ast.specs.declared.item.Item.{Item}
use Rattle.pe_assigns.specs.Form.{are_ordered, assigns_in}
use Rattle.pe_nets.proofs.Names.{and_left, and_right, or_right, name_same}

-- the nets that an expression reads
abbrev pub operands : Logic → List (List ℕ)
operands (net name) = name ∷ []
operands (inverse x) = operands x
operands (both x y) = operands x ++ operands y
operands (either x y) = operands x ++ operands y
operands other = []

and_two : (a b : Bool) → a ≡ true → b ≡ true → (a && b) ≡ true
and_two true b e f = f
and_two false b e f = e

among_both : (known xs ys : List (List ℕ)) → all_among known xs ≡ true → all_among known ys ≡ true → all_among known (xs ++ ys) ≡ true
among_both known xs ys e f = list_all-append (has_name known) xs ys ∙ and_two (all_among known xs) (all_among known ys) e f

-- they are known
pub read_known : (known : List (List ℕ)) (x : Logic) → is_read known x ≡ true → all_among known (operands x) ≡ true
read_known known (net name) e = and_two (has_name known name) true e refl
read_known known (inverse x) e = read_known known x e
read_known known (both x y) e =
    among_both known (operands x) (operands y) (read_known known x (and_left (is_read known x) (is_read known y) e)) (read_known known y (and_right (is_read known x) (is_read known y) e))
read_known known (either x y) e =
    among_both known (operands x) (operands y) (read_known known x (and_left (is_read known x) (is_read known y) e)) (read_known known y (and_right (is_read known x) (is_read known y) e))
read_known known other e = refl

has_first : (xs ys : List (List ℕ)) (n : List ℕ) → has_name xs n ≡ true → has_name (xs ++ ys) n ≡ true
has_first xs ys n e = list_any-append (λ o. bytes_eq o n) xs ys ∙ ap (λ b. b || has_name ys n) e

has_second : (xs ys : List (List ℕ)) (n : List ℕ) → has_name ys n ≡ true → has_name (xs ++ ys) n ≡ true
has_second xs ys n e = list_any-append (λ o. bytes_eq o n) xs ys ∙ or_right (has_name xs n) (has_name ys n) e

-- a value depends on the nets that are read alone
pub value_agrees : (f g : List ℕ → Val) (x : Logic) → ((n : List ℕ) → has_name (operands x) n ≡ true → f n ≡ g n) → value_of f x ≡ value_of g x
value_agrees f g (net name) h = h name (ap (λ b. b || false) (name_same name name refl))
value_agrees f g (inverse x) h = ap not_of (value_agrees f g x h)
value_agrees f g (both x y) h =
    let a = value_agrees f g x (λ n k. h n (has_first (operands x) (operands y) n k)) in
    let b = value_agrees f g y (λ n k. h n (has_second (operands x) (operands y) n k)) in
    cc
value_agrees f g (either x y) h =
    let a = value_agrees f g x (λ n k. h n (has_first (operands x) (operands y) n k)) in
    let b = value_agrees f g y (λ n k. h n (has_second (operands x) (operands y) n k)) in
    cc
value_agrees f g other h = refl

-- known nets may stand in another order
pub read_same : (a b : List (List ℕ)) (x : Logic) → HasSameNames a b → is_read a x ≡ is_read b x
read_same a b (net name) h = h name
read_same a b (inverse x) h = read_same a b x h
read_same a b (both x y) h = let p = read_same a b x h in let q = read_same a b y h in cc
read_same a b (either x y) h = let p = read_same a b x h in let q = read_same a b y h in cc
read_same a b other h = refl

pub ordered_same : (a b : List (List ℕ)) (all : List (List ℕ × Ex)) → HasSameNames a b → are_ordered a all ≡ are_ordered b all
ordered_same a b [] h = refl
ordered_same a b (x ∷ more) h =
    let p = read_same a b (logic_of x.1) h in
    let q = ordered_same (x.0 ∷ a) (x.0 ∷ b) more (λ n. ap (λ r. bytes_eq x.0 n || r) (h n)) in
    cc

-- the assignments from one item on
pub assigns_at : (items : List Item) (i : ℕ) (x : Item) → i < length items → x ≡ get_or items i x → flat_map assigns_in (drop i items) ≡ assigns_in x ++ flat_map assigns_in (drop (i + 1) items)
assigns_at items i x lt e = ap (flat_map assigns_in) (drop-cons items i x lt ∙ ap (λ y. y ∷ drop (suc i) items) (sym e) ∙ ap (λ k. x ∷ drop k items) (sym (add-one i)))
