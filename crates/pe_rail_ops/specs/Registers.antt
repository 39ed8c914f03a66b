-- What the law of a register reads, as rails.
use Rattle.std.specs.Prelude.{ℕ, Bool, List}
use Rattle.pe_base.specs.declared.register.RegisterInputs.{RegisterInputs}
use Rattle.pe_graph.specs.declared.graph.Node.{Node}
use Rattle.pe_graph.specs.Nodes.{IsIn, value_in}
use Rattle.pe_rail_ops.specs.declared.register.RegisterRails.{RegisterRails}
use Rattle.pe_rail_ops.specs.Rails.{rail_in, IsRail}

-- the values under an assignment
abbrev pub inputs_in : (ℕ → Bool) → List Node → RegisterRails → RegisterInputs
inputs_in v nodes r = record {
  powered = value_in v nodes r.powered;
  retained = value_in v nodes r.retained;
  clear = rail_in v nodes r.clear;
  preset = rail_in v nodes r.preset;
  restore = rail_in v nodes r.restore;
  save = rail_in v nodes r.save;
  both = rail_in v nodes r.both;
  d = rail_in v nodes r.d;
  before = rail_in v nodes r.before;
  after = rail_in v nodes r.after;
  main = rail_in v nodes r.main;
  shadow = rail_in v nodes r.shadow;
}

-- all of them are of the graph
pub record AreInputs (nodes : List Node) (r : RegisterRails) : Type 0 where
  pub powered : IsIn nodes r.powered
  pub retained : IsIn nodes r.retained
  pub clear : IsRail nodes r.clear
  pub preset : IsRail nodes r.preset
  pub restore : IsRail nodes r.restore
  pub save : IsRail nodes r.save
  pub both : IsRail nodes r.both
  pub d : IsRail nodes r.d
  pub before : IsRail nodes r.before
  pub after : IsRail nodes r.after
  pub main : IsRail nodes r.main
  pub shadow : IsRail nodes r.shadow
