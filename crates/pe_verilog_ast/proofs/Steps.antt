-- One more digit, and one more operand of a chain.
use Rattle.std.proofs.Common.{◌≡◌, ℕ, suc, ◌+◌, ◌*◌, ◌<◌, false, List, ◌∷◌, length, get_or, drop, drop-cons, add-one, sym, refl, ap, ◌∙◌}
use Rattle.std.specs.Prelude.{map, slice_index_or}
use Rattle.pe_verilog_ast.specs.declared.number.Digit.TheVariants.{Zero}
use Rattle.pe_verilog_ast.specs.declared.number.Digit.{Digit}
use Rattle.pe_verilog_ast.specs.declared.expression.Operand.{Operand}
use Rattle.pe_verilog_ast.specs.Sizes.{family_of}
use Rattle.pe_verilog_ast.specs.Weights.{Sized, Step, capped, bit_of, number_of, combined, chained, selected, applied, whole, bit, part, Bits, sized, step}
use Rattle.pe_verilog_ast.specs.declared.cost.Cost.{Cost}
use Rattle.pe_verilog_ast.specs.declared.operator.UnOp.{UnOp}
use Rattle.pe_verilog_ast.specs.declared.operator.UnOp.TheVariants as un
use Rattle.pe_verilog_ast.specs.Costs.{IsCost}
use Rattle.pe_verilog_ast.proofs.Caps.{capped_digit}
use Rattle.pe_verilog_ast.proofs.Layers.{step_is}

drop_one : {A : Type 0} (xs : List A) (i : ℕ) (x : A) → i < length xs → x ≡ get_or xs i x → drop i xs ≡ x ∷ drop (i + 1) xs
drop_one xs i x lt e = drop-cons xs i x lt ∙ ap (λ y. y ∷ drop (suc i) xs) (sym e) ∙ ap (λ k. x ∷ drop k xs) (sym (add-one i))

pub number_step : (ds : List Digit) (i : ℕ) (v p b m w q : ℕ) → i < length ds → ((d : Digit) → b ≡ bit_of (slice_index_or ds i d))
    → m ≡ capped (p * b) → w ≡ capped (v + m) → q ≡ capped (p + p)
    → capped (v + p * number_of (drop i ds)) ≡ capped (number_of ds) → capped (w + q * number_of (drop (i + 1) ds)) ≡ capped (number_of ds)
number_step ds i v p b m w q lt B M W Q inv =
    let n = number_of (drop (i + 1) ds) in
    let s : w ≡ capped (v + capped (p * b)) = W ∙ ap (λ x. capped (v + x)) M in
    let e : drop i ds ≡ get_or ds i Zero ∷ drop (i + 1) ds = drop-cons ds i Zero lt ∙ ap (λ k. get_or ds i Zero ∷ drop k ds) (sym (add-one i)) in
    let r : b + 2 * n ≡ number_of (drop i ds) = ap (λ x. x + 2 * n) (B Zero) ∙ sym (ap number_of e) in
    ap (λ x. capped (x + q * n)) s ∙ ap (λ x. capped (capped (v + capped (p * b)) + x * n)) Q ∙ capped_digit v p b n
    ∙ ap (λ x. capped (v + p * x)) r ∙ inv

pub chain_step : (nets : List (List ℕ × ℕ)) (more : List Operand) (i : ℕ) (s : Operand) (y z : Sized) → i < length more → s ≡ get_or more i s
    → chained y (map (step nets) (drop i more)) ≡ z
    → chained (combined (family_of s.op) y (sized nets s.value)) (map (step nets) (drop (i + 1) more)) ≡ z
chain_step nets more i s y z lt e inv =
    let t : map (step nets) (drop i more) ≡ step nets s ∷ map (step nets) (drop (i + 1) more) = ap (map (step nets)) (drop_one more i s lt e) in
    let u : chained y (step nets s ∷ map (step nets) (drop (i + 1) more)) ≡ chained (combined (family_of s.op) y (sized nets s.value)) (map (step nets) (drop (i + 1) more)) =
    ap (λ (k : Step). chained (combined (family_of k.op) y k.value) (map (step nets) (drop (i + 1) more))) (step_is nets s) in
    sym u ∙ sym (ap (chained y) t) ∙ inv

-- the operands before one of a chain, and what they cost together
pub record Follows (nets : List (List ℕ × ℕ)) (rest : List Operand) (z : Sized) (c : Cost) : Type 0 where
  pub before : Sized
  pub cost : IsCost before c
  pub same : chained before (map (step nets) rest) ≡ z

pub follows_step : (nets : List (List ℕ × ℕ)) (more : List Operand) (i : ℕ) (s : Operand) (z : Sized) (c d r : Cost) → i < length more → s ≡ get_or more i s
    → IsCost (sized nets s.value) d → ((x y : Sized) → IsCost x c → IsCost y d → IsCost (combined (family_of s.op) x y) r)
    → Follows nets (drop i more) z c → Follows nets (drop (i + 1) more) z r
follows_step nets more i s z c d r lt e p q k = record {
  before = combined (family_of s.op) k.before (sized nets s.value);
  cost = q k.before (sized nets s.value) k.cost p;
  same = chain_step nets more i s k.before z lt e k.same;
}

pub selected_number : (n : ℕ) (b : Bits) → (selected n b).is_number ≡ false
selected_number n whole = refl
selected_number n (bit i) = refl
selected_number n (part a b) = refl

pub selected_value : (n : ℕ) (b : Bits) → (selected n b).value ≡ 0
selected_value n whole = refl
selected_value n (bit i) = refl
selected_value n (part a b) = refl

pub applied_number : (op : UnOp) (x : Sized) → (applied op x).is_number ≡ false
applied_number un.Not x = refl
applied_number un.And x = refl
applied_number un.Nand x = refl
applied_number un.Or x = refl
applied_number un.Nor x = refl
applied_number un.Xor x = refl
applied_number un.Xnor x = refl
applied_number un.LogicNot x = refl

pub applied_value : (op : UnOp) (x : Sized) → (applied op x).value ≡ 0
applied_value un.Not x = refl
applied_value un.And x = refl
applied_value un.Nand x = refl
applied_value un.Or x = refl
applied_value un.Nor x = refl
applied_value un.Xor x = refl
applied_value un.Xnor x = refl
applied_value un.LogicNot x = refl
