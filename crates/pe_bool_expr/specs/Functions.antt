-- The values of a boolean function, and the pins that it names.
use Rattle.std.specs.Prelude.{ℕ, Bool, false, cond, not, ◌&&◌, ◌||◌, ◌==◌, List, [], ◌∷◌, ◌++◌, slice_index_or}
use Rattle.std.specs.List.{list_any}
use Rattle.pe_bool_expr.specs.declared.expr.Expr.{Expr, Expr-F, fold-Expr}
use Rattle.pe_bool_expr.specs.declared.expr.Expr.TheOpen as layer

-- a boolean function, without where it lies in memory
pub data Formula : Type 0 where
  constant : Bool → Formula
  pin : ℕ → Formula
  complement : Formula → Formula
  both : Formula → Formula → Formula
  either : Formula → Formula → Formula
  differ : Formula → Formula → Formula

abbrev pub layer_of : Expr-F Formula → Formula
layer_of (layer.Const b) = constant b
layer_of (layer.Pin i) = pin i
layer_of (layer.Not f) = complement f
layer_of (layer.And f g) = both f g
layer_of (layer.Or f g) = either f g
layer_of (layer.Xor f g) = differ f g

-- the function that a tree is
unfoldable pub formula : Expr → Formula
formula e = fold-Expr Formula layer_of e

-- the value under values of the pins
abbrev pub value_by : (ℕ → Bool) → Formula → Bool
value_by value (constant b) = b
value_by value (pin i) = value i
value_by value (complement f) = not (value_by value f)
value_by value (both f g) = value_by value f && value_by value g
value_by value (either f g) = value_by value f || value_by value g
value_by value (differ f g) = cond (value_by value f) (not (value_by value g)) (value_by value g)

-- plain evaluation: whether it holds under these bits of the pins; a pin past their end is false
abbrev pub holds : Expr → List Bool → Bool
holds e bits = value_by (λ i. slice_index_or bits i false) (formula e)

-- the pins of a function from left to right, each as often as it stands
abbrev pub pins : Formula → List ℕ
pins (constant b) = []
pins (pin i) = i ∷ []
pins (complement f) = pins f
pins (both f g) = pins f ++ pins g
pins (either f g) = pins f ++ pins g
pins (differ f g) = pins f ++ pins g

abbrev pub pins_of : Expr → List ℕ
pins_of e = pins (formula e)

-- the number is in the list
abbrev pub is_among : List ℕ → ℕ → Bool
is_among xs i = list_any (λ x. x == i) xs

-- a list, and of further numbers those that are not there yet, in their order
abbrev pub with_new : List ℕ → List ℕ → List ℕ
with_new xs [] = xs
with_new xs (i ∷ more) = with_new (cond (is_among xs i) xs (xs ++ i ∷ [])) more

-- each number of the list once
abbrev pub different : List ℕ → List ℕ
different xs = with_new [] xs
