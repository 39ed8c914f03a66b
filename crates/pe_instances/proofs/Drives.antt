-- What instances drive, and what they read.
use Rattle.std.proofs.Common.{◌≡◌, ℕ, Bool, true, false, cond, ◌&&◌, ◌||◌, Option, Some, None, List, [], ◌∷◌, ◌++◌, map, refl, ap, ◌∙◌}
use Rattle.std.proofs.lemmas.List.{map-append}
use Rattle.std.specs.List.{list_all, flat_map}
use Rattle.std.specs.Str.{bytes_eq}
use Rattle.std.proofs.lemmas.List.Folds.{list_any-append, list_all-append}
use Rattle.pe_base.specs.declared.value.Val.{Val}
use Rattle.pe_base.specs.declared.value.Val.TheVariants.{Corrupt}
use Rattle.pe_base.specs.Names.{has_name, all_among}
use Rattle.pe_cells.specs.declared.cell.CellView.{CellView}
use Rattle.pe_cells.specs.declared.cell.Signal.{Signal}
use Rattle.pe_nets.proofs.Names.{and_left, and_right, or_right, name_same}
use Rattle.pe_instances.specs.declared.parts.Instance.{Instance}
use Rattle.pe_instances.specs.declared.parts.Circuit.{Circuit}
use Rattle.pe_instances.specs.Pins.{net_on, view_of, net_driven, net_list, nets_driven, Drive, drives_net, drives_by, drives_of, drives_in}
use Rattle.pe_instances.specs.Wired.{is_among, is_fed}
use Rattle.pe_instances.specs.Settled.{value_on, signal_value}

pub and_two : (a b : Bool) → a ≡ true → b ≡ true → (a && b) ≡ true
and_two true b e f = f
and_two false b e f = e

pub has_first : (xs ys : List (List ℕ)) (n : List ℕ) → has_name xs n ≡ true → has_name (xs ++ ys) n ≡ true
has_first xs ys n e = list_any-append (λ o. bytes_eq o n) xs ys ∙ ap (λ b. b || has_name ys n) e

pub has_second : (xs ys : List (List ℕ)) (n : List ℕ) → has_name ys n ≡ true → has_name (xs ++ ys) n ≡ true
has_second xs ys n e = list_any-append (λ o. bytes_eq o n) xs ys ∙ or_right (has_name xs n) (has_name ys n) e

-- the nets of drives
abbrev pub nets_in : List Drive → List (List ℕ)
nets_in ds = map (λ d. d.net) ds

net_of_drive : (i : Instance) (v : CellView) (s : Signal) (o : Option (List ℕ)) → nets_in (drives_net i v s o) ≡ net_list o
net_of_drive i v s None = refl
net_of_drive i v s (Some net) = refl

-- the nets that pins drive
abbrev pub driven_by : Instance → List Signal → List (List ℕ)
driven_by i ss = flat_map (λ s. net_list (net_driven i s)) ss

nets_by : (i : Instance) (v : CellView) (ss : List Signal) → nets_in (flat_map (drives_by i v) ss) ≡ driven_by i ss
nets_by i v [] = refl
nets_by i v (s ∷ ss) =
    map-append (λ (d : Drive). d.net) (drives_by i v s) (flat_map (drives_by i v) ss)
    ∙ ap (λ ns. ns ++ nets_in (flat_map (drives_by i v) ss)) (net_of_drive i v s (net_driven i s))
    ∙ ap (λ ns. net_list (net_driven i s) ++ ns) (nets_by i v ss)

nets_of : (i : Instance) (o : Option CellView) → nets_in (drives_of i o) ≡ nets_driven i o
nets_of i None = refl
nets_of i (Some v) = nets_by i v v.signals

pub nets_all : (c : Circuit) (is : List Instance) → nets_in (drives_in c is) ≡ flat_map (λ i. nets_driven i (view_of c i.cell)) is
nets_all c [] = refl
nets_all c (i ∷ is) =
    map-append (λ (d : Drive). d.net) (drives_of i (view_of c i.cell)) (drives_in c is)
    ∙ ap (λ ns. ns ++ nets_in (drives_in c is)) (nets_of i (view_of c i.cell))
    ∙ ap (λ ns. nets_driven i (view_of c i.cell) ++ ns) (nets_all c is)

-- the nets that input pins are on
abbrev pub read_by : Instance → List Signal → List (List ℕ)
read_by i ss = flat_map (λ s. cond s.output [] (net_list (net_on i s.name))) ss

pin_known : (known : List (List ℕ)) (output : Bool) (o : Option (List ℕ)) → (output || is_among known o) ≡ true → all_among known (cond output [] (net_list o)) ≡ true
pin_known known true o e = refl
pin_known known false None e = refl
pin_known known false (Some net) e = and_two (has_name known net) true e refl

-- where the inputs are fed, what they read is known
pub fed_known : (known : List (List ℕ)) (i : Instance) (ss : List Signal) → list_all (is_fed known i) ss ≡ true → all_among known (read_by i ss) ≡ true
fed_known known i [] e = refl
fed_known known i (s ∷ ss) e =
    list_all-append (has_name known) (cond s.output [] (net_list (net_on i s.name))) (read_by i ss)
    ∙ and_two (all_among known (cond s.output [] (net_list (net_on i s.name)))) (all_among known (read_by i ss))
    (pin_known known s.output (net_on i s.name) (and_left (is_fed known i s) (list_all (is_fed known i) ss) e))
    (fed_known known i ss (and_right (is_fed known i s) (list_all (is_fed known i) ss) e))

pin_agrees : (f g : List ℕ → Val) (output : Bool) (o : Option (List ℕ)) → ((n : List ℕ) → has_name (cond output [] (net_list o)) n ≡ true → f n ≡ g n) → cond output Corrupt (value_on f o) ≡ cond output Corrupt (value_on g o)
pin_agrees f g true o h = refl
pin_agrees f g false None h = refl
pin_agrees f g false (Some net) h = h net (ap (λ b. b || false) (name_same net net refl))

-- what pins read as depends on what is read alone
pub signals_agree : (f g : List ℕ → Val) (i : Instance) (ss : List Signal) → ((n : List ℕ) → has_name (read_by i ss) n ≡ true → f n ≡ g n) → map (signal_value f i) ss ≡ map (signal_value g i) ss
signals_agree f g i [] h = refl
signals_agree f g i (s ∷ ss) h =
    let a : signal_value f i s ≡ signal_value g i s = pin_agrees f g s.output (net_on i s.name) (λ n k. h n (has_first (cond s.output [] (net_list (net_on i s.name))) (read_by i ss) n k)) in
    let b = signals_agree f g i ss (λ n k. h n (has_second (cond s.output [] (net_list (net_on i s.name))) (read_by i ss) n k)) in
    cc

-- one net more is known
pub more_known : (known : List (List ℕ)) (net : List ℕ) (some : List (List ℕ)) → all_among known some ≡ true → all_among (net ∷ known) some ≡ true
more_known known net [] e = refl
more_known known net (x ∷ xs) e =
    and_two (bytes_eq net x || has_name known x) (all_among (net ∷ known) xs) (or_right (bytes_eq net x) (has_name known x) (and_left (has_name known x) (all_among known xs) e))
    (more_known known net xs (and_right (has_name known x) (all_among known xs) e))
