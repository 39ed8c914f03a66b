-- Weights that are known for every context at once.
use Rattle.std.specs.Prelude.{◌≡◌, ℕ, ◌+◌, ◌*◌}
use Rattle.pe_verilog_ast.specs.declared.cost.Cost.{Cost}
use Rattle.pe_verilog_ast.specs.Weights.{Sized, capped}

-- a weight grows evenly with its context: it is a part that stands still, and for each bit of the context so much
pub record IsCost (x : Sized) (c : Cost) : Type 0 where
  pub fixed : ℕ
  pub per_bit : ℕ
  pub weight : (w : ℕ) → x.weight w ≡ fixed + per_bit * w
  pub size_is : c.size ≡ capped x.own
  pub fixed_is : c.fixed ≡ capped fixed
  pub per_bit_is : c.per_bit ≡ capped per_bit
