-- Chains of operands: what they read, and their value.
use Rattle.std.proofs.Common.{◌≡◌, ℕ, suc, ◌+◌, ◌<◌, Bool, true, false, ◌&&◌, List, [], ◌∷◌, length, drop, get_or, sym, refl, ap, ◌∙◌, drop-cons, add-one}
use Rattle.std.specs.Prelude.{map}
use Rattle.pe_verilog_ast.specs.declared.expression.Operand.{Operand}
use Rattle.pe_assigns.specs.Logic.{logic_of, step_of}
use Rattle.pe_assigns.proofs.Layers.{step_is}
use Rattle.pe_base.specs.declared.value.Val.{Val}
use Rattle.pe_verilog_ast.specs.declared.operator.BinOp.{BinOp}
use Rattle.pe_verilog_ast.specs.declared.operator.BinOp.TheVariants as op
use Rattle.pe_assigns.specs.Logic.{Logic, Step, is_read, is_join, are_read, joined, chained, value_of, joined_value, chained_value}

never : (b : Bool) → false ≡ (b && false)
never true = refl
never false = refl

join_read : (known : List (List ℕ)) (o : BinOp) (x y : Logic) → is_read known (joined o x y) ≡ (is_read known x && (is_join o && is_read known y))
join_read known op.And x y = refl
join_read known op.Or x y = refl
join_read known op.Add x y = never (is_read known x)
join_read known op.Sub x y = never (is_read known x)
join_read known op.ShiftLeft x y = never (is_read known x)
join_read known op.ShiftRight x y = never (is_read known x)
join_read known op.Less x y = never (is_read known x)
join_read known op.LessEqual x y = never (is_read known x)
join_read known op.Greater x y = never (is_read known x)
join_read known op.GreaterEqual x y = never (is_read known x)
join_read known op.Equal x y = never (is_read known x)
join_read known op.NotEqual x y = never (is_read known x)
join_read known op.Xor x y = never (is_read known x)
join_read known op.Xnor x y = never (is_read known x)
join_read known op.LogicAnd x y = never (is_read known x)
join_read known op.LogicOr x y = never (is_read known x)

and_assoc : (a b c : Bool) → ((a && b) && c) ≡ (a && (b && c))
and_assoc true b c = refl
and_assoc false b c = refl

and_true : (b : Bool) → b ≡ (b && true)
and_true true = refl
and_true false = refl

pub chain_read : (known : List (List ℕ)) (x : Logic) (steps : List Step) → is_read known (chained x steps) ≡ (is_read known x && are_read known steps)
chain_read known x [] = and_true (is_read known x)
chain_read known x (s ∷ steps) =
    chain_read known (joined s.op x s.value) steps
    ∙ ap (λ b. b && are_read known steps) (join_read known s.op x s.value)
    ∙ and_assoc (is_read known x) (is_join s.op && is_read known s.value) (are_read known steps)

join_value : (value : List ℕ → Val) (o : BinOp) (x y : Logic) → value_of value (joined o x y) ≡ joined_value o (value_of value x) (value_of value y)
join_value value op.And x y = refl
join_value value op.Or x y = refl
join_value value op.Add x y = refl
join_value value op.Sub x y = refl
join_value value op.ShiftLeft x y = refl
join_value value op.ShiftRight x y = refl
join_value value op.Less x y = refl
join_value value op.LessEqual x y = refl
join_value value op.Greater x y = refl
join_value value op.GreaterEqual x y = refl
join_value value op.Equal x y = refl
join_value value op.NotEqual x y = refl
join_value value op.Xor x y = refl
join_value value op.Xnor x y = refl
join_value value op.LogicAnd x y = refl
join_value value op.LogicOr x y = refl

pub chain_value : (value : List ℕ → Val) (x : Logic) (steps : List Step) → value_of value (chained x steps) ≡ chained_value value (value_of value x) steps
chain_value value x [] = refl
chain_value value x (s ∷ steps) = chain_value value (joined s.op x s.value) steps ∙ ap (λ v. chained_value value v steps) (join_value value s.op x s.value)

drop_one : {A : Type 0} (xs : List A) (i : ℕ) (x : A) → i < length xs → x ≡ get_or xs i x → drop i xs ≡ x ∷ drop (i + 1) xs
drop_one xs i x lt e = drop-cons xs i x lt ∙ ap (λ y. y ∷ drop (suc i) xs) (sym e) ∙ ap (λ k. x ∷ drop k xs) (sym (add-one i))

-- the operands from one on: it, and those behind it
steps_at : (more : List Operand) (i : ℕ) (o : Operand) → i < length more → o ≡ get_or more i o → map step_of (drop i more) ≡ step_of o ∷ map step_of (drop (i + 1) more)
steps_at more i o h e = ap (map step_of) (drop_one more i o h e)

and_first : (a b c : Bool) → a ≡ false → ((a && b) && c) ≡ false
and_first true b c e = absurd (let x : true ≡ false = e in cc)
and_first false b c e = refl

and_second : (a b c : Bool) → b ≡ false → ((a && b) && c) ≡ false
and_second true true c e = absurd (let x : true ≡ false = e in cc)
and_second true false c e = refl
and_second false b c e = refl

and_both : (a b c : Bool) → a ≡ true → b ≡ true → ((a && b) && c) ≡ c
and_both true true c e f = refl
and_both true false c e f = absurd (let x : false ≡ true = f in cc)
and_both false b c e f = absurd (let x : false ≡ true = e in cc)

pub read_at : (known : List (List ℕ)) (more : List Operand) (i : ℕ) (o : Operand) → i < length more → o ≡ get_or more i o → are_read known (map step_of (drop i more)) ≡ ((is_join o.op && is_read known (logic_of o.value)) && are_read known (map step_of (drop (i + 1) more)))
read_at known more i o h e =
    ap (are_read known) (steps_at more i o h e) ∙ ap (λ (s : Step). (is_join s.op && is_read known s.value) && are_read known (map step_of (drop (i + 1) more))) (step_is o)

pub value_at : (value : List ℕ → Val) (a : Val) (more : List Operand) (i : ℕ) (o : Operand) → i < length more → o ≡ get_or more i o → chained_value value a (map step_of (drop i more)) ≡ chained_value value (joined_value o.op a (value_of value (logic_of o.value))) (map step_of (drop (i + 1) more))
value_at value a more i o h e =
    ap (chained_value value a) (steps_at more i o h e) ∙ ap (λ (s : Step). chained_value value (joined_value s.op a (value_of value s.value)) (map step_of (drop (i + 1) more))) (step_is o)

-- an operand that is not read, and one that is
pub stops_join : (known : List (List ℕ)) (more : List Operand) (i : ℕ) (o : Operand) (all : Bool) → i < length more → o ≡ get_or more i o → is_join o.op ≡ false → are_read known (map step_of (drop i more)) ≡ all → false ≡ all
stops_join known more i o all h e j k = sym (and_first (is_join o.op) (is_read known (logic_of o.value)) (are_read known (map step_of (drop (i + 1) more))) j) ∙ sym (read_at known more i o h e) ∙ k

pub stops_read : (known : List (List ℕ)) (more : List Operand) (i : ℕ) (o : Operand) (all : Bool) → i < length more → o ≡ get_or more i o → is_read known (logic_of o.value) ≡ false → are_read known (map step_of (drop i more)) ≡ all → false ≡ all
stops_read known more i o all h e j k = sym (and_second (is_join o.op) (is_read known (logic_of o.value)) (are_read known (map step_of (drop (i + 1) more))) j) ∙ sym (read_at known more i o h e) ∙ k

pub goes_on : (known : List (List ℕ)) (more : List Operand) (i : ℕ) (o : Operand) (all : Bool) → i < length more → o ≡ get_or more i o → is_join o.op ≡ true → is_read known (logic_of o.value) ≡ true → are_read known (map step_of (drop i more)) ≡ all → are_read known (map step_of (drop (i + 1) more)) ≡ all
goes_on known more i o all h e j r k = sym (and_both (is_join o.op) (is_read known (logic_of o.value)) (are_read known (map step_of (drop (i + 1) more))) j r) ∙ sym (read_at known more i o h e) ∙ k
