-- Answers of a point, from what was read there and from the answer of the next point.
use Rattle.std.proofs.Common.{◌≡◌, ℕ, Bool, true, false, List, Option, Some, None, Ok, Err, refl, sym, subst}
use Rattle.pe_text.specs.declared.fault.ReadFault.{ReadFault}
use Rattle.pe_text.specs.declared.fault.ReadFault.TheVariants as read
use Rattle.pe_supply.specs.declared.fault.SupplyFault.{SupplyFault}
use Rattle.pe_supply.specs.declared.fault.SupplyFault.TheVariants as supply
use Rattle.pe_supply.specs.declared.supplies.Supplies.{Supplies}
use Rattle.pe_supply.specs.Building.{IsBuilt, IsRefused, IsOutcome}
use Rattle.pe_upf_read.specs.declared.intent.Intent.{Intent}
use Rattle.pe_liberty_read.specs.declared.tree.Group.{Group}
use Rattle.pe_cells.specs.declared.cell.CellView.{CellView}
use Rattle.pe_cells.specs.declared.fault.CellFault.{CellFault}
use Rattle.pe_cells.specs.declared.fault.CellFault.TheVariants as cell
use Rattle.pe_front.specs.declared.fault.CheckFault.{CheckFault}
use Rattle.pe_front.specs.declared.fault.CheckFault.TheVariants.{Memory, Refused}
use Rattle.pe_front.specs.declared.fault.Fault.TheVariants.{Cell, Supply, NotBuilt}
use Rattle.pe_front.specs.declared.fault.Part.{Part}
use Rattle.pe_front.specs.declared.fault.Part.TheVariants.{Lib, Upf}
use Rattle.pe_front.specs.Points.{Answer, Answers, FoundThen, found, refused, TakenThen, formed, unformed, BuiltThen, built, unbuilt}
use Rattle.pe_front.specs.Refusals.{read_refusal, cell_refusal, supply_refusal}
use Rattle.pe_front.specs.Views.{AreViews, IsFirstRefused, AreUnviewed}
use Rattle.pe_front.specs.Given.{ReadThen}

-- what follows for each answer follows for one that may be want of memory
pub answers_more : (P Q : Answer → Type 0) → ((a : Answer) → P a → Q a) → (r : Answer) → Answers P r → Answers Q r
answers_more P Q more (Ok d) p = more (Ok d) p
answers_more P Q more (Err Memory) p = tt
answers_more P Q more (Err (Refused part fault)) p = more (Err (Refused part fault)) p

-- want of memory may be answered anywhere
pub wanted : (P : Answer → Type 0) (e : CheckFault) → e ≡ Memory → Answers P (Err e)
wanted P e is = subst (λ x. Answers P (Err x)) (sym is) tt

-- something is so, and the answer is that of the next point
pub found_on : (A F : Type 0) (Is : A → Type 0) (IsNot : F → Type 0) (told : F → CheckFault) (Next : A → Answer → Type 0) (x : A) (r : Answer) → Is x → Answers (Next x) r
    → Answers (FoundThen A F Is IsNot told Next) r
found_on A F Is IsNot told Next x r is p = answers_more (Next x) (FoundThen A F Is IsNot told Next) (λ a q. found x is q) r p

-- a test holds, and the answer is that of the next point
pub built_on : (test : Bool) (part : Part) (Next : Answer → Type 0) (r : Answer) → test ≡ true → Answers Next r → Answers (BuiltThen test part Next) r
built_on test part Next r e p = answers_more Next (BuiltThen test part Next) (λ a q. built e q) r p

pub not_built : (test : Bool) (part : Part) (Next : Answer → Type 0) → test ≡ false → Answers (BuiltThen test part Next) (Err (Refused part NotBuilt))
not_built test part Next e = unbuilt e refl

-- a tree has the form, and the answer is that of the next point
pub formed_on : (A : Type 0) (taken : Option A) (part : Part) (Next : A → Answer → Type 0) (x : A) (r : Answer) → taken ≡ Some x → Answers (Next x) r → Answers (TakenThen A taken part Next) r
formed_on A taken part Next x r e p = answers_more (Next x) (TakenThen A taken part Next) (λ a q. formed x e q) r p

pub not_formed : (A : Type 0) (taken : Option A) (part : Part) (Next : A → Answer → Type 0) → taken ≡ None → Answers (TakenThen A taken part Next) (Err (Refused part NotBuilt))
not_formed A taken part Next e = unformed e refl

-- the text of a part is read, and the answer is that of the next point
pub read_on : (A : Type 0) (Spells : List ℕ → A → Type 0) (IsFault : List ℕ → ReadFault → Type 0) (part : Part) (Next : A → Answer → Type 0) (bytes text : List ℕ) (x : A) (r : Answer) → bytes ≡ text → Spells bytes x → Answers (Next x) r
    → Answers (ReadThen A (Spells text) (IsFault text) part Next) r
read_on A Spells IsFault part Next bytes text x r same p q =
    answers_more (Next x) (ReadThen A (Spells text) (IsFault text) part Next) (λ a n. found x (subst (λ t. Spells t x) same p) n) r q

fault_at : (A : Type 0) (Spells : A → Type 0) (IsFault : ReadFault → Type 0) (part : Part) (Next : A → Answer → Type 0) (f : ReadFault) → IsFault f
    → Answers (ReadThen A Spells IsFault part Next) (Err (read_refusal part f))
fault_at A Spells IsFault part Next read.Memory p = tt
fault_at A Spells IsFault part Next (read.Syntax at) p = refused (read.Syntax at) ((λ e. cc), p) refl
fault_at A Spells IsFault part Next (read.Unsupported at word) p = refused (read.Unsupported at word) ((λ e. cc), p) refl
fault_at A Spells IsFault part Next (read.Limit at which) p = refused (read.Limit at which) ((λ e. cc), p) refl

-- the text of a part is not read, and its fault is the answer
pub unread : (A : Type 0) (Spells : List ℕ → A → Type 0) (IsFault : List ℕ → ReadFault → Type 0) (part : Part) (Next : A → Answer → Type 0) (bytes text : List ℕ) (f : ReadFault) (e : CheckFault) → bytes ≡ text → IsFault bytes f → e ≡ read_refusal part f
    → Answers (ReadThen A (Spells text) (IsFault text) part Next) (Err e)
unread A Spells IsFault part Next bytes text f e same p is =
    let Point : Answer → Type 0 = ReadThen A (Spells text) (IsFault text) part Next in
    subst (λ x. Answers Point (Err x)) (sym is) (fault_at A (Spells text) (IsFault text) part Next f (subst (λ t. IsFault t f) same p))

module _ (library : Group) (cells : List (List ℕ)) (Next : List CellView → Answer → Type 0) where
  abbrev Viewing : Answer → Type 0
  Viewing = FoundThen (List CellView) CellFault (AreViews library cells) (IsFirstRefused library cells) (λ f. Refused Lib (Cell f)) Next

  cells_at : (f : CellFault) → AreUnviewed library cells f → Answers Viewing (Err (cell_refusal f))
  cells_at cell.Memory p = tt
  cells_at (cell.NoCell name) p = refused (cell.NoCell name) p refl
  cells_at (cell.CellForm name attribute) p = refused (cell.CellForm name attribute) p refl
  cells_at (cell.Expression name attribute) p = refused (cell.Expression name attribute) p refl

  -- a cell has no view, and why is the answer
  pub unviewed : (f : CellFault) (e : CheckFault) → AreUnviewed library cells f → e ≡ cell_refusal f → Answers Viewing (Err e)
  unviewed f e p is = subst (λ x. Answers Viewing (Err x)) (sym is) (cells_at f p)

module _ (intent : Intent) (Next : Supplies → Answer → Type 0) where
  abbrev Supplying : Answer → Type 0
  Supplying = FoundThen Supplies SupplyFault (IsBuilt intent) (λ f. IsOutcome intent (Err f)) (λ f. Refused Upf (Supply f)) Next

  supplies_at : (f : SupplyFault) → IsRefused intent f → Answers Supplying (Err (supply_refusal f))
  supplies_at supply.Memory p = tt
  supplies_at (supply.NoSupply name) p = refused (supply.NoSupply name) p refl
  supplies_at (supply.TwoDrivers name) p = refused (supply.TwoDrivers name) p refl
  supplies_at (supply.TwoNets port) p = refused (supply.TwoNets port) p refl
  supplies_at (supply.SupplyLoop name) p = refused (supply.SupplyLoop name) p refl
  supplies_at (supply.Expression name) p = refused (supply.Expression name) p refl
  supplies_at supply.NoRows p = refused supply.NoRows p refl
  supplies_at (supply.TwoTables name) p = refused (supply.TwoTables name) p refl
  supplies_at (supply.RowLength name) p = refused (supply.RowLength name) p refl
  supplies_at (supply.NoState name) p = refused (supply.NoState name) p refl
  supplies_at (supply.TooManyRows count) p = refused (supply.TooManyRows count) p refl
  supplies_at (supply.TooManySupplies count) p = refused (supply.TooManySupplies count) p refl

  -- the intent has no supplies, and why is the answer
  pub unsupplied : (f : SupplyFault) (e : CheckFault) → IsRefused intent f → e ≡ supply_refusal f → Answers Supplying (Err e)
  unsupplied f e p is = subst (λ x. Answers Supplying (Err x)) (sym is) (supplies_at f p)
