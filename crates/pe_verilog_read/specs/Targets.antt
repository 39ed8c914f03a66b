-- The targets, ranges and netlist expressions that derivations are.
use Rattle.std.specs.Prelude.{ℕ, List, [], ◌∷◌, Option, Some, None}
use Rattle.pe_grammar.specs.Derivation.{Derivation, pair, left, right, more}
use Rattle.pe_verilog_ast.specs.declared.expression.Ex.{Ex}
use Rattle.pe_verilog_ast.specs.declared.expression.Ex.TheVariants.{Join as JoinEx}
use Rattle.pe_verilog_ast.specs.declared.module.Range.{Range}
use Rattle.pe_verilog_ast.specs.declared.target.Target.{Target}
use Rattle.pe_verilog_ast.specs.declared.target.Target.TheVariants.{Net, Join}
use Rattle.pe_verilog_read.specs.Expressions.{no_ex, left_of, right_of, simple_of, selection_of}
use Rattle.pe_verilog_read.specs.Leaves.{name_of}

abbrev pub no_range : Range
no_range = record { left = no_ex; right = no_ex }

abbrev pub range_of : (ℕ → List ℕ) → Derivation → Range
range_of w (pair before (pair sides behind)) = record { left = left_of w sides; right = right_of w sides }
range_of w _ = no_range

abbrev pub optional_range_of : (ℕ → List ℕ) → Derivation → Option Range
optional_range_of w (left d) = Some (range_of w d)
optional_range_of w _ = None

abbrev mutual
  -- targets in braces, or a name with an index or without
  pub target_of : (ℕ → List ℕ) → Derivation → Target
  target_of w (left (pair before (pair targets behind))) = Join (targets_of w targets)
  target_of w (right (pair name selection)) = Net (name_of w name) (selection_of w selection)
  target_of w _ = Join []

  pub targets_of : (ℕ → List ℕ) → Derivation → List Target
  targets_of w (pair first others) = target_of w first ∷ others_of w others
  targets_of w _ = []

  pub others_of : (ℕ → List ℕ) → Derivation → List Target
  others_of w (more d e) = behind_of w d ∷ others_of w e
  others_of w _ = []

  pub behind_of : (ℕ → List ℕ) → Derivation → Target
  behind_of w (pair comma d) = target_of w d
  behind_of w _ = Join []

abbrev mutual
  -- what a netlist connects: such in braces, a number, or a name with an index or without
  pub connected_of : (ℕ → List ℕ) → Derivation → Ex
  connected_of w (left (pair before (pair list behind))) = JoinEx (connected_list_of w list)
  connected_of w (right d) = simple_of w d
  connected_of w _ = no_ex

  pub connected_list_of : (ℕ → List ℕ) → Derivation → List Ex
  connected_list_of w (pair first others) = connected_of w first ∷ more_connected_of w others
  connected_list_of w _ = []

  pub more_connected_of : (ℕ → List ℕ) → Derivation → List Ex
  more_connected_of w (more d e) = next_connected_of w d ∷ more_connected_of w e
  more_connected_of w _ = []

  pub next_connected_of : (ℕ → List ℕ) → Derivation → Ex
  next_connected_of w (pair comma d) = connected_of w d
  next_connected_of w _ = no_ex
