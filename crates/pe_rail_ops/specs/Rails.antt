-- Rails: two literals for a value, one that says that it is 1 and one that says that it is 0. Lists of rails have the
-- lowest bit first.
use Rattle.std.specs.Prelude.{◌≡◌, ℕ, Bool, false, cond, ◌&&◌, ◌||◌, List, map, All}
use Rattle.pe_base.specs.declared.value.Val.{Val}
use Rattle.pe_base.specs.declared.value.Val.TheVariants.{Zero, One, Corrupt}
use Rattle.pe_graph.specs.declared.graph.Node.{Node}
use Rattle.pe_graph.specs.Nodes.{IsIn, value_in, Grows}
use Rattle.pe_rail_ops.specs.declared.bit.Rail.{Rail}

-- the value of two literals
abbrev pub rail_of : Bool → Bool → Val
rail_of one zero = cond one One (cond zero Zero Corrupt)

-- the value of a rail under an assignment of the leaves
abbrev pub rail_in : (ℕ → Bool) → List Node → Rail → Val
rail_in v nodes r = rail_of (value_in v nodes r.one) (value_in v nodes r.zero)

abbrev pub rails_in : (ℕ → Bool) → List Node → List Rail → List Val
rails_in v nodes rails = map (rail_in v nodes) rails

-- literals of the graph that are never both 1
pub record IsRail (nodes : List Node) (r : Rail) : Type 0 where
  pub one_in : IsIn nodes r.one
  pub zero_in : IsIn nodes r.zero
  pub apart : (v : ℕ → Bool) → (value_in v nodes r.one && value_in v nodes r.zero) ≡ false

-- the graph has grown, and a rail of it has the value x under every assignment
pub record GivesRail (old new : List Node) (x : (ℕ → Bool) → Val) (r : Rail) : Type 0 where
  pub grows : Grows old new
  pub is_rail : IsRail new r
  pub value : (v : ℕ → Bool) → rail_in v new r ≡ x v

-- the graph has grown, and rails of it have the values x under every assignment
pub record GivesRails (old new : List Node) (x : (ℕ → Bool) → List Val) (rails : List Rail) : Type 0 where
  pub grows : Grows old new
  pub are_rails : All (IsRail new) rails
  pub values : (v : ℕ → Bool) → rails_in v new rails ≡ x v

-- one side of what a control picks, by the sides of the control and of what it picks from
abbrev pub side_of : Bool → Bool → Bool → Bool → Bool
side_of one zero x y = (x || one) && (y || zero)
