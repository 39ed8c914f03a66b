-- Where nothing is missing, the supplies of switches are among the supplies.
use Rattle.std.proofs.Common.{◌≡◌, inl, inr, ℕ, zero, suc, ◌<◌, Bool, true, false, cond, not, List, [], ◌∷◌, length, get_or, Option, Some, None, refl, ap, sym, ◌∙◌, arith}
use Rattle.std.specs.Prelude.{find, Contains}
use Rattle.std.specs.List.{All}
use Rattle.std.specs.Option.{option_map}
use Rattle.std.proofs.lemmas.Bool.{not-false}
use Rattle.std.proofs.lemmas.List.Elements.{All-map}
use Rattle.pe_base.specs.Names.{has_name, HasSameNames}
use Rattle.pe_supply.specs.declared.plan.Plan.{Plan}
use Rattle.pe_supply.specs.declared.plan.Use.{Use}
use Rattle.pe_supply.specs.declared.plan.Use.TheVariants.{Supply, Port, Set, Table, Input}
use Rattle.pe_supply.specs.Building.{AreNamed}
use Rattle.pe_supply.specs.Drivers.{edge_of, edges_of}
use Rattle.pe_supply.specs.Numbers.{number_of, supply_count}
use Rattle.pe_supply.specs.Plans.{output_name}
use Rattle.pe_supply.specs.Uses.{is_missing, is_missing_among, name_used, first_missing}
use Rattle.pe_supply.specs.Whole.{IsWhole, IsUsed}
use Rattle.pe_supply.proofs.Naming.{distinct_has}
use Rattle.pe_supply.proofs.Numbered.{number_below}

-- a test that finds nothing fails at each element
pub find_fails : {A : Type 0} (t : A → Bool) (xs : List A) (x : A) → find t xs ≡ None → Contains xs x → t x ≡ false
find_fails t [] x e c = absurd (omega (arith, c.1))
find_fails t (y ∷ ys) x e c = by (t y) refl e (find_fails t ys x)
  where
    place : t y ≡ false → (Contains ys x → t x ≡ false) → (k : ℕ) → k < length (y ∷ ys) → get_or (y ∷ ys) k x ≡ x → t x ≡ false
    place f go zero l is = sym (ap t is) ∙ f
    place f go (suc k) l is = go (k, omega arith, is)

    by : (b : Bool) → t y ≡ b → cond b (Some y) (find t ys) ≡ None → (find t ys ≡ None → Contains ys x → t x ≡ false) → t x ≡ false
    by true f none go = cc
    by false f none go = place f (go none) c.0 c.1 c.2

nothing_found : (o : Option Use) → option_map name_used o ≡ None → o ≡ None
nothing_found None e = refl
nothing_found (Some u) e = cc

not_missing : (p : Plan) (u : Use) → first_missing p ≡ None → Contains p.uses u → is_missing p u ≡ false
not_missing p u e c = find_fails (is_missing p) p.uses u (nothing_found (find (is_missing p) p.uses) e) c

pub used_supply : (p : Plan) (n : List ℕ) → first_missing p ≡ None → IsUsed p.uses n → has_name p.names n ≡ true
used_supply p n e c = not-false (has_name p.names n) (not_missing p (Supply n) e c)

pub used_port : (p : Plan) (n : List ℕ) → first_missing p ≡ None → Contains p.uses (Port n) → has_name p.ports n ≡ true
used_port p n e c = not-false (has_name p.ports n) (not_missing p (Port n) e c)

-- both names of a tie are made
pub ports_made : (p : Plan) → IsWhole p → first_missing p ≡ None → All (λ tie. has_name p.names tie.0 ≡ true) p.ties
ports_made p w e k d l = elim (w.within.ports k d l) [ inl made ↦ made | inr used ↦ w.ports (get_or p.ties k d).0 (used_port p (get_or p.ties k d).0 e used) ]

pub nets_made : (p : Plan) → IsWhole p → first_missing p ≡ None → All (λ tie. has_name p.names tie.1 ≡ true) p.ties
nets_made p w e k d l = used_supply p (get_or p.ties k d).1 e (w.within.nets k d l)

-- a name that is made is of one of the supplies
pub made_below : (p : Plan) (names : List (List ℕ × ℕ)) → AreNamed p names → (n : List ℕ) → has_name p.names n ≡ true → number_of names n < supply_count names
made_below p names h n e = number_below names n (ap (λ ns. has_name ns n) h.numbered.once ∙ distinct_has p.names n ∙ e)

pub outputs_below : (p : Plan) (names : List (List ℕ × ℕ)) → IsWhole p → AreNamed p names → All (λ e. e.0 < supply_count names) (edges_of names p.switches)
outputs_below p names w h =
    let P : ℕ × ℕ → Type 0 = λ e. e.0 < supply_count names in
    All-map P (edge_of names) p.switches (λ k d l. made_below p names h (output_name (get_or p.switches k d).name (get_or p.switches k d).output.0) (w.within.outputs k d l))

pub inputs_below : (p : Plan) (names : List (List ℕ × ℕ)) → IsWhole p → AreNamed p names → All (λ e. e.1 < supply_count names) (edges_of names p.switches)
inputs_below p names w h =
    let P : ℕ × ℕ → Type 0 = λ e. e.1 < supply_count names in
    All-map P (edge_of names) p.switches (λ k d l. made_below p names h (get_or p.switches k d).input.1 (used_supply p (get_or p.switches k d).input.1 h.made (w.within.inputs k d l)))

-- the same is missing among the same names
pub missing_same : (names ports sets tables names' ports' sets' tables' : List (List ℕ)) → HasSameNames names names' → HasSameNames ports ports' → HasSameNames sets sets' → HasSameNames tables tables'
    → (u : Use) → is_missing_among names ports sets tables u ≡ is_missing_among names' ports' sets' tables' u
missing_same names ports sets tables names' ports' sets' tables' a b c d (Supply n) = ap not (a n)
missing_same names ports sets tables names' ports' sets' tables' a b c d (Port n) = ap not (b n)
missing_same names ports sets tables names' ports' sets' tables' a b c d (Set n) = ap not (c n)
missing_same names ports sets tables names' ports' sets' tables' a b c d (Table n) = ap not (d n)
missing_same names ports sets tables names' ports' sets' tables' a b c d (Input n own) = refl

pub find_same : {A : Type 0} (t s : A → Bool) (xs : List A) → ((x : A) → t x ≡ s x) → find t xs ≡ find s xs
find_same t s [] h = refl
find_same t s (x ∷ xs) h = ap (λ b. cond b (Some x) (find t xs)) (h x) ∙ ap (λ o. cond (s x) (Some x) o) (find_same t s xs h)
