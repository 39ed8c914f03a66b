-- The statements and events that derivations are.
use Rattle.std.specs.Prelude.{ℕ, ◌==◌, Bool, true, false, List, [], ◌∷◌, Option, Some, None, if◌then◌else◌}
use Rattle.pe_grammar.specs.Derivation.{Derivation, pair, left, right, more, present}
use Rattle.pe_verilog_ast.specs.declared.statement.Arm.{Arm}
use Rattle.pe_verilog_ast.specs.declared.statement.Edge.{Edge}
use Rattle.pe_verilog_ast.specs.declared.statement.Edge.TheVariants.{Rising, Falling}
use Rattle.pe_verilog_ast.specs.declared.statement.Event.{Event}
use Rattle.pe_verilog_ast.specs.declared.statement.Stmt.{Stmt}
use Rattle.pe_verilog_ast.specs.declared.statement.Stmt.TheVariants.{Block, If, Case, Assign, Empty}
use Rattle.pe_verilog_read.specs.Expressions.{ex_of, group_of, list_of}
use Rattle.pe_verilog_read.specs.Leaves.{token_of, name_of}
use Rattle.pe_verilog_read.specs.Lists.{list_by}
use Rattle.pe_verilog_read.specs.Targets.{target_of}
use Rattle.pe_verilog_read.specs.declared.verilog_table.TheConstants as is

abbrev pub edge_at : ℕ → Edge
edge_at k = if k == is.POSEDGE then Rising else Falling

abbrev pub edge_of : Derivation → Option Edge
edge_of (left d) = Some (edge_at (token_of d).kind)
edge_of _ = None

abbrev pub event_of : (ℕ → List ℕ) → Derivation → Event
event_of w (pair edge name) = record { edge = edge_of edge; name = name_of w name }
event_of w _ = record { edge = None; name = [] }

-- any event is none
abbrev pub listened_of : (ℕ → List ℕ) → Derivation → List Event
listened_of w (right d) = list_by (event_of w) d
listened_of w _ = []

abbrev pub events_of : (ℕ → List ℕ) → Derivation → List Event
events_of w (right (pair before (pair d behind))) = listened_of w d
events_of w _ = []

-- the name of a block
abbrev pub label_of : (ℕ → List ℕ) → Derivation → Option (List ℕ)
label_of w (left (pair colon name)) = Some (name_of w name)
label_of w _ = None

abbrev pub is_blocking : ℕ → Bool
is_blocking k = k == is.EQUALS

abbrev pub assignment_of : (ℕ → List ℕ) → Derivation → Stmt
assignment_of w (pair target (pair mark (pair value semi))) = Assign (target_of w target) (is_blocking (token_of mark).kind) (ex_of w value)
assignment_of w _ = Empty

abbrev mutual
  pub statement_of : (ℕ → List ℕ) → Derivation → Stmt
  statement_of w (left d) = block_of w d
  statement_of w (right (left d)) = test_of w d
  statement_of w (right (right (left d))) = cases_of w false d
  statement_of w (right (right (right (left d)))) = cases_of w true d
  statement_of w (right (right (right (right (left d))))) = assignment_of w d
  statement_of w _ = Empty

  pub block_of : (ℕ → List ℕ) → Derivation → Stmt
  block_of w (pair begin (pair name (pair body end))) = Block (label_of w name) (statements_of w body)
  block_of w _ = Empty

  pub statements_of : (ℕ → List ℕ) → Derivation → List Stmt
  statements_of w (more d e) = statement_of w d ∷ statements_of w e
  statements_of w _ = []

  pub test_of : (ℕ → List ℕ) → Derivation → Stmt
  test_of w (pair word (pair cond (pair body tail))) = If (group_of w cond) (statement_of w body) (otherwise_of w tail)
  test_of w _ = Empty

  pub otherwise_of : (ℕ → List ℕ) → Derivation → Option Stmt
  otherwise_of w (present t d) = Some (statement_of w d)
  otherwise_of w _ = None

  pub cases_of : (ℕ → List ℕ) → Bool → Derivation → Stmt
  cases_of w wild (pair word (pair subject (pair arms end))) = Case wild (group_of w subject) (arms_of w arms)
  cases_of w wild _ = Empty

  pub arms_of : (ℕ → List ℕ) → Derivation → List Arm
  arms_of w (pair first arms) = arm_of w first ∷ more_arms_of w arms
  arms_of w _ = []

  pub more_arms_of : (ℕ → List ℕ) → Derivation → List Arm
  more_arms_of w (more d e) = arm_of w d ∷ more_arms_of w e
  more_arms_of w _ = []

  pub arm_of : (ℕ → List ℕ) → Derivation → Arm
  arm_of w (left d) = labelled_of w d
  arm_of w (right d) = default_of w d
  arm_of w _ = record { labels = []; body = Empty }

  pub labelled_of : (ℕ → List ℕ) → Derivation → Arm
  labelled_of w (pair labels (pair colon body)) = record { labels = list_of w labels; body = statement_of w body }
  labelled_of w _ = record { labels = []; body = Empty }

  -- an arm without labels
  pub default_of : (ℕ → List ℕ) → Derivation → Arm
  default_of w (pair word (pair colon body)) = record { labels = []; body = statement_of w body }
  default_of w _ = record { labels = []; body = Empty }
