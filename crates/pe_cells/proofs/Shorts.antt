-- What is so of each item of a list is so of one that is found in it.
use Rattle.std.proofs.Common.{◌≡◌, ℕ, ◌<◌, ◌≤◌, zero, suc, Bool, true, false, ◌&&◌, cond, List, [], ◌∷◌, length, get_or, Option, Some, None, refl, subst, arith}
use Rattle.std.specs.Prelude.{find}
use Rattle.std.specs.List.{list_all}
use Rattle.std.proofs.lemmas.Bool.Decides.{nat_tests}
use Rattle.pe_liberty_read.specs.declared.tree.Attr.{Attr}
use Rattle.pe_liberty_read.specs.declared.tree.Group.{Group, out-Group}
use Rattle.pe_cells.specs.Functions.{is_short_text, is_short_attr, is_short_group, is_short_cell, are_short_cells}
use Rattle.pe_cells.specs.Looking.{first_of, text_at, text_in, attr_in, cell_in}

both_true : (a b : Bool) → (a && b) ≡ true → (a ≡ true) × (b ≡ true)
both_true true b h = (refl, h)
both_true false b h = cc

find_step : {A : Type 0} (q : A → Bool) (b : Bool) (y x : A) (rest : Option A) → cond b (Some y) rest ≡ Some x → q y ≡ true → (rest ≡ Some x → q x ≡ true) → q x ≡ true
find_step q true y x rest e here later = let same : y ≡ x = cc in subst (λ z. q z ≡ true) same here
find_step q false y x rest e here later = later e

-- so it is of the first that passes a test
pub found_passes : {A : Type 0} (q p : A → Bool) (xs : List A) (x : A) → list_all q xs ≡ true → find p xs ≡ Some x → q x ≡ true
found_passes q p [] x h e = cc
found_passes q p (y ∷ xs) x h e =
    let parts = both_true (q y) (list_all q xs) h in
    find_step q (p y) y x (find p xs) e parts.0 (λ f. found_passes q p xs x parts.1 f)

-- so it is at each place
pub passes_at : {A : Type 0} (q : A → Bool) (xs : List A) (k : ℕ) (d : A) → list_all q xs ≡ true → k < length xs → q (get_or xs k d) ≡ true
passes_at q [] k d h lt = absurd (omega arith)
passes_at q (x ∷ xs) zero d h lt = (both_true (q x) (list_all q xs) h).0
passes_at q (x ∷ xs) (suc k) d h lt = passes_at q xs k d (both_true (q x) (list_all q xs) h).1 (omega arith)

first_short : (values : List (List ℕ)) → list_all is_short_text values ≡ true → is_short_text (first_of values) ≡ true
first_short [] h = refl
first_short (v ∷ values) h = (both_true (is_short_text v) (list_all is_short_text values) h).0

attr_short : (attrs : List Attr) (p : Attr → Bool) (o : Option Attr) → list_all is_short_attr attrs ≡ true → find p attrs ≡ o → is_short_text (text_at o) ≡ true
attr_short attrs p None h e = refl
attr_short attrs p (Some a) h e = first_short a.values (found_passes is_short_attr p attrs a h e)

below_most : (text : List ℕ) → is_short_text text ≡ true → length text ≤ 16777216
below_most text h = grind (arith, nat_tests)

-- what an attribute of a short group says is short
pub text_short : (g : Group) (name : List ℕ) → is_short_group g ≡ true → length (text_in g name) ≤ 16777216
text_short g name h = below_most (text_in g name) (attr_short (out-Group g).attrs _ (attr_in g name) h refl)

pub cell_short : (library : Group) (name : List ℕ) (cell : Group) → are_short_cells library ≡ true → cell_in library name ≡ Some cell → is_short_cell cell ≡ true
cell_short library name cell h e = found_passes is_short_cell _ (out-Group library).groups cell h e
