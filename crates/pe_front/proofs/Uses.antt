-- The cells that a netlist uses differ.
use Rattle.std.proofs.Common.{◌≡◌, ℕ, Bool, true, false, not, cond, ◌||◌, List, [], ◌∷◌, ◌++◌, map, refl, ap, sym, ◌∙◌}
use Rattle.std.specs.Str.{bytes_eq}
use Rattle.std.proofs.lemmas.Bool.{and_from, and_parts}
use Rattle.pe_base.specs.Names.{has_name, are_distinct}
use Rattle.pe_nets.proofs.Indexes.{bytes_flip}
use Rattle.pe_instances.specs.declared.parts.Netlist.{Netlist}
use Rattle.pe_instances.specs.Form.{with_new, used_cells}

or_parts : (a b : Bool) → (a || b) ≡ false → (a ≡ false) × (b ≡ false)
or_parts true b p = absurd (let q : true ≡ false = p in cc)
or_parts false b p = (refl, p)

not_either : (a b : Bool) → not a ≡ true → b ≡ false → not (a || b) ≡ true
not_either true b p q = p
not_either false true p q = sym q
not_either false false p q = refl

or_false : (a : Bool) → (a || false) ≡ a
or_false true = refl
or_false false = refl

or_assoc : (a b c : Bool) → (a || (b || c)) ≡ ((a || b) || c)
or_assoc true b c = refl
or_assoc false b c = refl

has_last : (names : List (List ℕ)) (x y : List ℕ) → has_name (names ++ x ∷ []) y ≡ (has_name names y || bytes_eq x y)
has_last [] x y = or_false (bytes_eq x y)
has_last (n ∷ ns) x y = ap (λ b. bytes_eq n y || b) (has_last ns x y) ∙ or_assoc (bytes_eq n y) (has_name ns y) (bytes_eq x y)

distinct_push : (names : List (List ℕ)) (name : List ℕ) → are_distinct names ≡ true → has_name names name ≡ false → are_distinct (names ++ name ∷ []) ≡ true
distinct_push [] name d h = refl
distinct_push (n ∷ ns) name d h =
    let parts = and_parts (not (has_name ns n)) (are_distinct ns) d in
    let apart = or_parts (bytes_eq n name) (has_name ns name) h in
    and_from (not (has_name (ns ++ name ∷ []) n)) (are_distinct (ns ++ name ∷ []))
    (ap not (has_last ns name n) ∙ not_either (has_name ns n) (bytes_eq name n) parts.0 (bytes_flip name n ∙ apart.0))
    (distinct_push ns name parts.1 apart.1)

distinct_by : (b : Bool) (names : List (List ℕ)) (name : List ℕ) → has_name names name ≡ b → are_distinct names ≡ true → are_distinct (cond b names (names ++ name ∷ [])) ≡ true
distinct_by true names name e d = d
distinct_by false names name e d = distinct_push names name d e

with_new_distinct : (more names : List (List ℕ)) → are_distinct names ≡ true → are_distinct (with_new names more) ≡ true
with_new_distinct [] names d = d
with_new_distinct (name ∷ more) names d =
    with_new_distinct more (cond (has_name names name) names (names ++ name ∷ [])) (distinct_by (has_name names name) names name refl d)

pub used_distinct : (n : Netlist) → are_distinct (used_cells n) ≡ true
used_distinct n = with_new_distinct (map (λ i. i.cell) n.instances) [] refl
