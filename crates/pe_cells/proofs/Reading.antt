-- A function that is read, and the fault that it adds where it is none.
use Rattle.std.proofs.Common.{◌≡◌, ℕ, Bool, true, false, List, [], ◌∷◌, ◌++◌, Option, Some, None, Result, Ok, Err, refl, sym, ap, ◌∙◌, subst}
use Rattle.std.specs.Prelude.{is_none, is_some, not}
use Rattle.pe_bool_expr.specs.declared.expr.Expr.{Expr}
use Rattle.pe_bool_expr.specs.declared.fault.ExprFault.{ExprFault}
use Rattle.pe_bool_expr.specs.declared.style.Style.TheVariants.{Liberty}
use Rattle.pe_bool_expr.specs.Reading.{IsOutcome}
use Rattle.pe_cells.specs.declared.form.Found.{Found}
use Rattle.pe_cells.specs.Form.{found_if}
use Rattle.pe_cells.specs.Functions.{Use, IsUsed, Reads, Judges, function_by}
use Rattle.pe_cells.specs.Looking.{text_in, place_in}

not_nil : {A : Type 0} (xs : List A) (y : A) → xs ++ y ∷ [] ≡ [] → ⊥
not_nil [] y h = cc
not_nil (x ∷ xs) y h = cc

abbrev fault_of : Use → Found
fault_of u = record { place = place_in u.group u.attribute; attribute = u.attribute }

judged_by : (u : Use) (r : Result Expr ExprFault) (o : Option Expr) (old new : List Found) → IsOutcome Liberty u.names (text_in u.group u.attribute) r → o ≡ function_by r →
    new ≡ old ++ found_if (is_none o) (place_in u.group u.attribute) u.attribute → Judges (u ∷ []) old new
judged_by u (Ok e) o old new h g a = record {
  faults = [];
  judged = ([], [], refl, record { outcome = Ok e; holds = h; are = refl }, refl);
  added = a ∙ ap (λ v. old ++ found_if (is_none v) (place_in u.group u.attribute) u.attribute) g;
}
judged_by u (Err f) o old new h g a = record {
  faults = fault_of u ∷ [];
  judged = (fault_of u ∷ [], [], refl, record { outcome = Err f; holds = h; are = refl }, refl);
  added = a ∙ ap (λ v. old ++ found_if (is_none v) (place_in u.group u.attribute) u.attribute) g;
}

used_by : (u : Use) (r : Result Expr ExprFault) (o : Option Expr) (old new : List Found) → IsOutcome Liberty u.names (text_in u.group u.attribute) r → o ≡ function_by r →
    new ≡ old ++ found_if (is_none o) (place_in u.group u.attribute) u.attribute → new ≡ [] → IsUsed u true o
used_by u (Ok e) o old new h g a none = subst (IsUsed u true) (sym g) h
used_by u (Err f) o old new h g a none =
    absurd (not_nil old (fault_of u) (ap (λ v. old ++ found_if (is_none v) (place_in u.group u.attribute) u.attribute) (sym g) ∙ sym a ∙ none))

-- the test whether it is none, as the code makes it
wrong_is : (o : Option Expr) (wrong : Bool) → is_some o ≡ not wrong → wrong ≡ is_none o
wrong_is None true h = refl
wrong_is None false h = cc
wrong_is (Some e) true h = cc
wrong_is (Some e) false h = refl

added_by : (u : Use) (o : Option Expr) (old new : List Found) (wrong : Bool) (at : ℕ) → is_some o ≡ not wrong → at ≡ place_in u.group u.attribute → new ≡ old ++ found_if wrong at u.attribute →
    new ≡ old ++ found_if (is_none o) (place_in u.group u.attribute) u.attribute
added_by u o old new wrong at w p a = a ∙ ap (λ b. old ++ found_if b at u.attribute) (wrong_is o wrong w) ∙ ap (λ n. old ++ found_if (is_none o) n u.attribute) p

pub read_judges : (u : Use) (o : Option Expr) (old new : List Found) (wrong : Bool) (at : ℕ) → Reads u.names (text_in u.group u.attribute) o → is_some o ≡ not wrong → at ≡ place_in u.group u.attribute →
    new ≡ old ++ found_if wrong at u.attribute → Judges (u ∷ []) old new
read_judges u o old new wrong at h w p a = judged_by u h.outcome o old new h.holds h.gives (added_by u o old new wrong at w p a)

pub read_used : (u : Use) (o : Option Expr) (old new : List Found) (wrong : Bool) (at : ℕ) → Reads u.names (text_in u.group u.attribute) o → is_some o ≡ not wrong → at ≡ place_in u.group u.attribute →
    new ≡ old ++ found_if wrong at u.attribute → new ≡ [] → IsUsed u true o
read_used u o old new wrong at h w p a none = used_by u h.outcome o old new h.holds h.gives (added_by u o old new wrong at w p a) none
