-- What the names of a job have places for.
use Rattle.std.specs.Prelude.{ℕ, ◌==◌, nat_lt, Bool, true, false, ◌&&◌, List, length}
use Rattle.pe_base.specs.declared.text.Step.{Step}
use Rattle.pe_base.specs.declared.text.Step.TheVariants.{Start, Pair}
use Rattle.pe_graph.specs.declared.graph.Node.{Node}
use Rattle.pe_graph.specs.declared.job.Goal.{Goal}
use Rattle.pe_graph.specs.declared.job.Leaf.{Leaf}
use Rattle.pe_graph.specs.declared.job.Leaf.TheVariants as leaf
use Rattle.pe_graph.specs.declared.named.Point.{Point}
use Rattle.pe_graph.specs.declared.named.Point.TheVariants.{Output, Register, Shadow, Live}
use Rattle.pe_graph.specs.declared.named.Shown.{Shown}
use Rattle.pe_graph.specs.declared.named.Names.{Names}
use Rattle.pe_graph.specs.Literals.{truth_of}
use Rattle.pe_graph.specs.Nodes.{IsIn}

-- a goal that says that a step can be taken
abbrev pub is_live : Goal → Bool
is_live g = g.b == truth_of false

-- a name that says so
abbrev pub is_live_point : Point → Bool
is_live_point Live = true
is_live_point _ = false

abbrev pub is_live_name : Step × Point → Bool
is_live_name n = is_live_point n.1

-- the rows of a step
abbrev pub step_has_place : Names → Step → Bool
step_has_place texts (Start row) = nat_lt row (length texts.rows)
step_has_place texts (Pair first second) = nat_lt first (length texts.rows) && nat_lt second (length texts.rows)

-- the output or the pair of a point
abbrev pub point_has_place : Names → Point → Bool
point_has_place texts (Output k) = nat_lt k (length texts.outputs)
point_has_place texts (Register k) = nat_lt k (length texts.registers)
point_has_place texts (Shadow k) = nat_lt k (length texts.shadows)
point_has_place texts Live = true

-- the root, the input or the register of a leaf
abbrev pub leaf_has_place : Names → Leaf → Bool
leaf_has_place texts (leaf.Root cycle root) = nat_lt root (length texts.roots)
leaf_has_place texts (leaf.Input cycle input) = nat_lt input (length texts.inputs)
leaf_has_place texts (leaf.RtlCorrupt k) = nat_lt k (length texts.rtl)
leaf_has_place texts (leaf.RtlOne k) = nat_lt k (length texts.rtl)
leaf_has_place texts (leaf.RtlShadowCorrupt k) = nat_lt k (length texts.rtl)
leaf_has_place texts (leaf.RtlShadowOne k) = nat_lt k (length texts.rtl)
leaf_has_place texts (leaf.NetCorrupt k) = nat_lt k (length texts.net)
leaf_has_place texts (leaf.NetOne k) = nat_lt k (length texts.net)
leaf_has_place texts (leaf.NetShadowCorrupt k) = nat_lt k (length texts.net)
leaf_has_place texts (leaf.NetShadowOne k) = nat_lt k (length texts.net)

-- the registers of a pair
abbrev pub pair_has_place : Names → ℕ × ℕ × Bool → Bool
pair_has_place texts p = nat_lt p.0 (length texts.rtl) && nat_lt p.1 (length texts.net)

abbrev pub shadow_has_place : Names → ℕ × ℕ → Bool
shadow_has_place texts p = nat_lt p.0 (length texts.rtl) && nat_lt p.1 (length texts.net)

-- the literals of what is shown are of the graph
pub record IsShownIn (nodes : List Node) (s : Shown) : Type 0 where
  pub rtl_one : IsIn nodes s.rtl_one
  pub rtl_zero : IsIn nodes s.rtl_zero
  pub net_one : IsIn nodes s.net_one
  pub net_zero : IsIn nodes s.net_zero
