-- What is known may stand in another order.
use Rattle.std.proofs.Common.{◌≡◌, ℕ, suc, ◌+◌, ◌<◌, ◌≤◌, true, false, ◌&&◌, ◌||◌, Option, Some, None, List, [], ◌∷◌, ◌++◌, length, get_or, drop, drop-cons, add-one, refl, sym, ap, ◌∙◌}
use Rattle.std.specs.List.{list_all, flat_map}
use Rattle.std.proofs.lemmas.List.{at_drop_all}
use Rattle.pe_base.specs.Names.{has_name, HasSameNames}
use Rattle.pe_base.proofs.NameSets.{same_more}
use Rattle.pe_cells.specs.declared.cell.CellView.{CellView}
use Rattle.pe_cells.specs.declared.cell.Pg.{Pg}
use Rattle.pe_cells.specs.declared.cell.PgKind.{PgKind}
use Rattle.pe_cells.specs.declared.cell.Signal.{Signal}
use Rattle.pe_instances.specs.declared.parts.Instance.{Instance}
use Rattle.pe_instances.specs.declared.parts.Circuit.{Circuit}
use Rattle.pe_instances.specs.Pins.{net_on, view_of, net_list, net_driven, nets_driven}
use Rattle.pe_instances.specs.Wired.{is_among, is_fed, is_supplied_by, is_supplied, is_joined, supply_names, known_with, are_ordered}

-- what a list has from a place on
pub at_drop : {X A : Type 0} (f : X → List A) (xs : List X) (k : ℕ) (x : X) → k < length xs → x ≡ get_or xs k x → flat_map f (drop k xs) ≡ f x ++ flat_map f (drop (k + 1) xs)
at_drop f xs k x lt e = ap (flat_map f) (drop-cons xs k x lt ∙ ap (λ y. y ∷ drop (suc k) xs) (sym e) ∙ ap (λ n. x ∷ drop n xs) (sym (add-one k)))

among_same : (a b : List (List ℕ)) (o : Option (List ℕ)) → HasSameNames a b → is_among a o ≡ is_among b o
among_same a b None h = refl
among_same a b (Some net) h = h net

supplied_same : (a b : List (List ℕ)) (kind : PgKind) (o : Option (List ℕ)) → HasSameNames a b → is_supplied_by a kind o ≡ is_supplied_by b kind o
supplied_same a b kind None h = refl
supplied_same a b kind (Some net) h = h net

fed_all : (a b : List (List ℕ)) (i : Instance) (ss : List Signal) → HasSameNames a b → list_all (is_fed a i) ss ≡ list_all (is_fed b i) ss
fed_all a b i [] h = refl
fed_all a b i (s ∷ ss) h =
    let p : is_fed a i s ≡ is_fed b i s = ap (λ x. s.output || x) (among_same a b (net_on i s.name) h) in
    let q = fed_all a b i ss h in
    cc

supplied_all : (a b : List (List ℕ)) (i : Instance) (ps : List Pg) → HasSameNames a b → list_all (is_supplied a i) ps ≡ list_all (is_supplied b i) ps
supplied_all a b i [] h = refl
supplied_all a b i (p ∷ ps) h =
    let q : is_supplied a i p ≡ is_supplied b i p = supplied_same a b p.kind (net_on i p.name) h in
    let r = supplied_all a b i ps h in
    cc

joined_same : (ports others known seen : List (List ℕ)) (i : Instance) (o : Option CellView) → HasSameNames ports others → HasSameNames known seen → is_joined ports known i o ≡ is_joined others seen i o
joined_same ports others known seen i None h k = refl
joined_same ports others known seen i (Some v) h k =
    let p = fed_all known seen i v.signals k in
    let q = supplied_all ports others i v.pgs h in
    cc

pub known_same : (nets a b : List (List ℕ)) → HasSameNames a b → HasSameNames (known_with nets a) (known_with nets b)
known_same [] a b h = h
known_same (net ∷ nets) a b h = known_same nets (net ∷ a) (net ∷ b) (same_more a b net h)

pub ordered_same : (c : Circuit) (a b : List (List ℕ)) (is : List Instance) → HasSameNames a b → are_ordered c a is ≡ are_ordered c b is
ordered_same c a b [] h = refl
ordered_same c a b (i ∷ is) h =
    let p = joined_same (supply_names c) (supply_names c) a b i (view_of c i.cell) (λ n. refl) h in
    let q = ordered_same c (known_with (nets_driven i (view_of c i.cell)) a) (known_with (nets_driven i (view_of c i.cell)) b) is (known_same (nets_driven i (view_of c i.cell)) a b h) in
    cc

-- an instance that is joined is passed over, and one that is not stops
pub passed : (c : Circuit) (ports known new : List (List ℕ)) (i : Instance) (v : CellView) (more : List Instance) → view_of c i.cell ≡ Some v → HasSameNames ports (supply_names c)
    → is_joined ports known i (Some v) ≡ true → HasSameNames new (known_with (nets_driven i (Some v)) known) → are_ordered c known (i ∷ more) ≡ are_ordered c new more
passed c ports known new i v more e h j n =
    ap (λ o. is_joined (supply_names c) known i o && are_ordered c (known_with (nets_driven i o) known) more) e
    ∙ ap (λ b. b && are_ordered c (known_with (nets_driven i (Some v)) known) more) (sym (joined_same ports (supply_names c) known known i (Some v) h (λ m. refl)) ∙ j)
    ∙ sym (ordered_same c new (known_with (nets_driven i (Some v)) known) more n)

pub stopped : (c : Circuit) (ports known : List (List ℕ)) (i : Instance) (v : CellView) (more : List Instance) → view_of c i.cell ≡ Some v → HasSameNames ports (supply_names c)
    → is_joined ports known i (Some v) ≡ false → are_ordered c known (i ∷ more) ≡ false
stopped c ports known i v more e h j =
    ap (λ o. is_joined (supply_names c) known i o && are_ordered c (known_with (nets_driven i o) known) more) e
    ∙ ap (λ b. b && are_ordered c (known_with (nets_driven i (Some v)) known) more) (sym (joined_same ports (supply_names c) known known i (Some v) h (λ m. refl)) ∙ j)

pub unknown : (c : Circuit) (known : List (List ℕ)) (i : Instance) (more : List Instance) → view_of c i.cell ≡ None → are_ordered c known (i ∷ more) ≡ false
unknown c known i more e = ap (λ o. is_joined (supply_names c) known i o && are_ordered c (known_with (nets_driven i o) known) more) e

-- the nets that pins drive, from a place on
abbrev pub driven_from : Instance → List Signal → List (List ℕ)
driven_from i ss = flat_map (λ s. net_list (net_driven i s)) ss

known_append : (xs ys known : List (List ℕ)) → known_with (xs ++ ys) known ≡ known_with ys (known_with xs known)
known_append [] ys known = refl
known_append (x ∷ xs) ys known = known_append xs ys (x ∷ known)

-- one net more is known, or none
pub learned : (i : Instance) (ss : List Signal) (k : ℕ) (s : Signal) (old new all : List (List ℕ)) → k < length ss → s ≡ get_or ss k s
    → HasSameNames new (known_with (net_list (net_driven i s)) old) → HasSameNames (known_with (driven_from i (drop k ss)) old) all → HasSameNames (known_with (driven_from i (drop (k + 1) ss)) new) all
learned i ss k s old new all lt e h a = λ n.
    known_same (driven_from i (drop (k + 1) ss)) new (known_with (net_list (net_driven i s)) old) h n
    ∙ sym (ap (λ ns. has_name ns n) (ap (λ ns. known_with ns old) (at_drop (λ x. net_list (net_driven i x)) ss k s lt e) ∙ known_append (net_list (net_driven i s)) (driven_from i (drop (k + 1) ss)) old))
    ∙ a n

pub all_learned : (i : Instance) (ss : List Signal) (k : ℕ) (known all : List (List ℕ)) → length ss ≤ k → HasSameNames (known_with (driven_from i (drop k ss)) known) all → HasSameNames known all
all_learned i ss k known all le a = λ n. sym (at_drop_all (λ xs. has_name (known_with (driven_from i xs) known) n) ss k le) ∙ a n
