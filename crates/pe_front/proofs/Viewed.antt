-- Views of cells, one after the other.
use Rattle.std.proofs.Common.{◌≡◌, inl, inr, ℕ, zero, suc, ◌+◌, ◌<◌, List, [], ◌∷◌, ◌++◌, length, get_or, take, Err, sym, subst, ap, ◌∙◌, arith}
use Rattle.std.specs.List.{AllZip}
use Rattle.std.proofs.lemmas.List.{take_more}
use Rattle.pe_liberty_read.specs.declared.tree.Group.{Group}
use Rattle.pe_cells.specs.declared.cell.CellView.{CellView}
use Rattle.pe_cells.specs.declared.fault.CellFault.{CellFault}
use Rattle.pe_cells.specs.declared.fault.CellFault.TheVariants.{Memory, NoCell, CellForm, Expression}
use Rattle.pe_cells.specs.Viewing.{IsView, IsOutcome, IsRefusal}
use Rattle.pe_front.specs.Views.{AreViews, IsFirstRefused, AreUnviewed}

zip_push : {A B : Type 0} (R : A → B → Type 0) (xs : List A) (ys : List B) (x : A) (y : B) → AllZip R xs ys → R x y → AllZip R (xs ++ x ∷ []) (ys ++ y ∷ [])
zip_push R [] [] x y h r = (r, tt)
zip_push R [] (z ∷ zs) x y h r = absurd h
zip_push R (w ∷ ws) [] x y h r = absurd h
zip_push R (w ∷ ws) (z ∷ zs) x y h r = (h.0, zip_push R ws zs x y h.1 r)

-- one cell more has its view
pub viewed_more : (library : Group) (cells : List (List ℕ)) (views : List CellView) (i : ℕ) (cell : List ℕ) (view : CellView) → i < length cells → cell ≡ get_or cells i cell → AreViews library (take i cells) views → IsView library cell view
    → AreViews library (take (i + 1) cells) (views ++ view ∷ [])
viewed_more library cells views i cell view l is h r =
    let taken : take (i + 1) cells ≡ take i cells ++ cell ∷ [] = take_more cells i cell l ∙ ap (λ v. take i cells ++ v ∷ []) (sym is) in
    subst (λ zs. AreViews library zs (views ++ view ∷ [])) (sym taken) (zip_push (IsView library) (take i cells) views cell view h r)

-- behind cells that have views one has none
first_at : (library : Group) (cells : List (List ℕ)) (views : List CellView) (i : ℕ) (cell : List ℕ) (fault : CellFault) → i < length cells → cell ≡ get_or cells i cell → AreViews library (take i cells) views → IsOutcome library cell (Err fault)
    → IsFirstRefused library cells fault
first_at library [] views i cell fault l is h r = absurd (omega arith)
first_at library (x ∷ xs) views zero cell fault l is h r = inl (subst (λ c. IsOutcome library c (Err fault)) is r)
first_at library (x ∷ xs) [] (suc i) cell fault l is h r = absurd h
first_at library (x ∷ xs) (v ∷ vs) (suc i) cell fault l is h r = inr (v, h.0, first_at library xs vs i cell fault (omega arith) is h.1 r)

pub refused_at : (library : Group) (cells : List (List ℕ)) (views : List CellView) (i : ℕ) (cell : List ℕ) (fault : CellFault) → i < length cells → cell ≡ get_or cells i cell → AreViews library (take i cells) views → IsRefusal library cell fault
    → AreUnviewed library cells fault
refused_at library cells views i cell Memory l is h r = tt
refused_at library cells views i cell (NoCell name) l is h r = first_at library cells views i cell (NoCell name) l is h r
refused_at library cells views i cell (CellForm name attribute) l is h r = first_at library cells views i cell (CellForm name attribute) l is h r
refused_at library cells views i cell (Expression name attribute) l is h r = first_at library cells views i cell (Expression name attribute) l is h r
