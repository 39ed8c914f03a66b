-- The functions that a cell uses, and which of them are none.
use Rattle.std.specs.Prelude.{◌≡◌, ℕ, Bool, true, false, cond, List, [], ◌∷◌, ◌++◌, length, nat_le, Option, Some, None, Result, Ok, Err}
use Rattle.std.specs.List.{list_all, AllZip}
use Rattle.pe_bool_expr.specs.declared.expr.Expr.{Expr}
use Rattle.pe_bool_expr.specs.declared.fault.ExprFault.{ExprFault}
use Rattle.pe_bool_expr.specs.declared.style.Style.TheVariants.{Liberty}
use Rattle.pe_bool_expr.specs.Reading.{IsFunction, IsOutcome}
use Rattle.pe_liberty_read.specs.declared.tree.Attr.{Attr}
use Rattle.pe_liberty_read.specs.declared.tree.Group.{Group, out-Group}
use Rattle.pe_cells.specs.declared.form.Found.{Found}
use Rattle.pe_cells.specs.Looking.{text_in, place_in}

-- no value is longer than a function that may be read
abbrev pub is_short_text : List ℕ → Bool
is_short_text text = nat_le (length text) 16777216

abbrev pub is_short_attr : Attr → Bool
is_short_attr a = list_all is_short_text a.values

abbrev pub is_short_group : Group → Bool
is_short_group g = list_all is_short_attr (out-Group g).attrs

abbrev pub is_short_cell : Group → Bool
is_short_cell g = list_all is_short_group (out-Group g).groups

abbrev pub are_short_cells : Group → Bool
are_short_cells library = list_all is_short_cell (out-Group library).groups

-- a function that a cell uses: the attribute of a group that says it, and the names that it may have
pub record Use : Type 0 where
  pub names : List (List ℕ)
  pub group : Group
  pub attribute : List ℕ

abbrev pub use_of : List (List ℕ) → Group → List ℕ → Use
use_of names g attribute = record { names = names; group = g; attribute = attribute }

abbrev pub use_if : Bool → Use → List Use
use_if here u = cond here (u ∷ []) []

-- what the attribute says is this function over the names
abbrev pub Says : Use → Expr → Type 0
Says u e = IsFunction Liberty u.names (text_in u.group u.attribute) e

-- there is a function exactly where one is used, and it is what the attribute says
abbrev pub IsUsed : Use → Bool → Option Expr → Type 0
IsUsed u true (Some e) = Says u e
IsUsed u true None = ⊥
IsUsed u false o = o ≡ None

-- a text that is no function is a fault at its attribute
abbrev pub faults_by : Use → Result Expr ExprFault → List Found
faults_by u (Ok e) = []
faults_by u (Err f) = record { place = place_in u.group u.attribute; attribute = u.attribute } ∷ []

-- these are the faults of a function
pub record IsJudged (u : Use) (faults : List Found) : Type 0 where
  pub outcome : Result Expr ExprFault
  pub holds : IsOutcome Liberty u.names (text_in u.group u.attribute) outcome
  pub are : faults ≡ faults_by u outcome

-- these are the faults of some functions, in their order
abbrev pub AreJudged : List Use → List Found → Type 0
AreJudged [] faults = faults ≡ []
AreJudged (u ∷ us) faults = (here : List Found) × (rest : List Found) × (faults ≡ here ++ rest) × IsJudged u here × AreJudged us rest

-- the faults of some functions were added
pub record Judges (uses : List Use) (old new : List Found) : Type 0 where
  pub faults : List Found
  pub judged : AreJudged uses faults
  pub added : new ≡ old ++ faults

-- what is read is the function that a text is, and none where it is no function
abbrev pub function_by : Result Expr ExprFault → Option Expr
function_by (Ok e) = Some e
function_by (Err f) = None

pub record Reads (names : List (List ℕ)) (text : List ℕ) (o : Option Expr) : Type 0 where
  pub outcome : Result Expr ExprFault
  pub holds : IsOutcome Liberty names text outcome
  pub gives : o ≡ function_by outcome

-- one item for each of some things was added
pub record Adds (A B : Type 0) (R : A → B → Type 0) (xs : List A) (old new : List B) : Type 0 where
  pub more : List B
  pub are : AllZip R xs more
  pub added : new ≡ old ++ more
