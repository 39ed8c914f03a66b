-- What the evaluation gives is settled, and nothing else is.
use Rattle.std.proofs.Common.{◌≡◌, ℕ, ◌+◌, suc, ◌<◌, Bool, true, false, not, cond, ◌&&◌, ◌||◌, Option, Some, None, List, [], ◌∷◌, ◌++◌, map, length, get_or, refl, sym, ap, ◌∙◌, arith}
use Rattle.std.specs.Prelude.{slice_index_or, slice_set}
use Rattle.std.specs.List.{list_all, flat_map}
use Rattle.std.specs.Str.{bytes_eq}
use Rattle.std.proofs.lemmas.List.{ext_get_or, map-append, length-map}
use Rattle.pe_base.specs.declared.value.Val.{Val}
use Rattle.pe_base.specs.declared.value.Val.TheVariants.{Corrupt}
use Rattle.pe_base.specs.Names.{has_name, are_distinct, all_among, place_of}
use Rattle.pe_nets.specs.Nets.{name_at, value_in}
use Rattle.pe_nets.proofs.Names.{and_left, and_right, or_left_false, or_right_false, not_true, or_right, same_name, name_same, among_at, has_at, place_below, name_at_place, place_at_name}
use Rattle.pe_nets.proofs.Rules as rules
use Rattle.pe_nets.proofs.Rules.{Rule, Meets, run, run_map}
use Rattle.pe_assigns.specs.Settled.{given_at}
use Rattle.pe_cells.specs.declared.cell.CellView.{CellView}
use Rattle.pe_cells.specs.declared.cell.Signal.{Signal}
use Rattle.pe_cells.specs.Output.{pin_values_of, output_of}
use Rattle.pe_instances.specs.declared.parts.Instance.{Instance}
use Rattle.pe_instances.specs.declared.parts.Circuit.{Circuit}
use Rattle.pe_instances.specs.Form.{nets, driven_names}
use Rattle.pe_instances.specs.Pins.{view_of, net_driven, net_list, nets_driven, targets, Drive, drives_net, drives_by, drives_of, drives_in, drives}
use Rattle.pe_instances.specs.Wired.{has_pin, is_fed, is_supplied, is_joined, is_plain_cell, supply_names, known_with, are_ordered, is_driven_once, are_given, is_wired}
use Rattle.pe_instances.specs.Settled.{pg_state, output_value, Driver, given, output, undriven, output_on, driver_of, driven, IsNetSettled}
use Rattle.pe_instances.specs.Begin.{first_value, start_of, written}
use Rattle.pe_instances.proofs.Drives.{and_two, has_first, has_second, nets_in, nets_all, driven_by, read_by, fed_known, signals_agree, more_known}

-- an output pin as a rule
abbrev pub rule_of : Circuit → List Bool → Drive → Rule
rule_of c states d = record { target = d.net; reads = read_by d.instance d.view.signals; gives = λ value. output_value c states value d.instance d.view d.pin }

abbrev pub rules_of : Circuit → List Bool → List Drive → List Rule
rules_of c states ds = map (rule_of c states) ds

-- what a pin gives, over what the signal pins read as
abbrev over : Circuit → List Bool → Drive → List Val → Val
over c states d signals =
    let ons = map (pg_state c.supplies states d.instance) d.view.pgs in
    output_of d.pin d.view.pgs (pin_values_of signals d.view.pgs ons Corrupt Corrupt) ons

fair_each : (c : Circuit) (states : List Bool) (ds : List Drive) → rules.AreFair (rules_of c states ds)
fair_each c states [] = tt
fair_each c states (d ∷ ds) = (record { fair = λ f g h. ap (over c states d) (signals_agree f g d.instance d.view.signals h) }, fair_each c states ds)

nets_are : (c : Circuit) (states : List Bool) (ds : List Drive) → rules.targets_of (rules_of c states ds) ≡ nets_in ds
nets_are c states [] = refl
nets_are c states (d ∷ ds) = ap (λ ns. d.net ∷ ns) (nets_are c states ds)

targets_are : (c : Circuit) (states : List Bool) → rules.targets_of (rules_of c states (drives c)) ≡ targets c
targets_are c states = nets_are c states (drives c) ∙ nets_all c c.netlist.instances

-- what an instance drives is in order, where its inputs are known
block : (c : Circuit) (states : List Bool) (i : Instance) (v : CellView) (known : List (List ℕ)) (ss : List Signal) (rest : List Rule)
    → all_among known (read_by i v.signals) ≡ true → rules.are_ordered (known_with (driven_by i ss) known) rest ≡ true
    → rules.are_ordered known (rules_of c states (flat_map (drives_by i v) ss) ++ rest) ≡ true
block c states i v known [] rest r o = o
block c states i v known (s ∷ ss) rest r o = at_net (net_driven i s) (λ more. block c states i v more ss rest) o
  where
    at_net : (net : Option (List ℕ))
        → ((more : List (List ℕ)) → all_among more (read_by i v.signals) ≡ true → rules.are_ordered (known_with (driven_by i ss) more) rest ≡ true → rules.are_ordered more (rules_of c states (flat_map (drives_by i v) ss) ++ rest) ≡ true)
        → rules.are_ordered (known_with (net_list net ++ driven_by i ss) known) rest ≡ true
        → rules.are_ordered known (rules_of c states (drives_net i v s net ++ flat_map (drives_by i v) ss) ++ rest) ≡ true
    at_net None later p = later known r p
    at_net (Some net) later p =
        and_two (all_among known (read_by i v.signals)) (rules.are_ordered (net ∷ known) (rules_of c states (flat_map (drives_by i v) ss) ++ rest)) r
        (later (net ∷ known) (more_known known net (read_by i v.signals) r) p)

ordered_each : (c : Circuit) (states : List Bool) (known : List (List ℕ)) (is : List Instance) → are_ordered c known is ≡ true → rules.are_ordered known (rules_of c states (drives_in c is)) ≡ true
ordered_each c states known [] o = refl
ordered_each c states known (i ∷ is) o =
    ap (rules.are_ordered known) (map-append (rule_of c states) (drives_of i (view_of c i.cell)) (drives_in c is))
    ∙ at_view (view_of c i.cell) (ordered_each c states (known_with (nets_driven i (view_of c i.cell)) known) is) o
  where
    at_view : (o : Option CellView)
        → (are_ordered c (known_with (nets_driven i o) known) is ≡ true → rules.are_ordered (known_with (nets_driven i o) known) (rules_of c states (drives_in c is)) ≡ true)
        → (is_joined (supply_names c) known i o && are_ordered c (known_with (nets_driven i o) known) is) ≡ true
        → rules.are_ordered known (rules_of c states (drives_of i o) ++ rules_of c states (drives_in c is)) ≡ true
    at_view None later p = absurd (let x : false ≡ true = p in cc)
    at_view (Some v) later p =
        let joined = and_left (is_joined (supply_names c) known i (Some v)) (are_ordered c (known_with (nets_driven i (Some v)) known) is) p in
        let fed = and_left (list_all (is_fed known i) v.signals) (list_all (is_supplied (supply_names c) i) v.pgs) (and_right (list_all (λ c. has_pin v c.pin) i.connections) (list_all (is_fed known i) v.signals && list_all (is_supplied (supply_names c) i) v.pgs) joined) in
        block c states i v known v.signals (rules_of c states (drives_in c is)) (fed_known known i v.signals fed)
        (later (and_right (is_joined (supply_names c) known i (Some v)) (are_ordered c (known_with (nets_driven i (Some v)) known) is) p))

-- what is written is what the rules give
pub written_is : (c : Circuit) (names : List (List ℕ)) (states : List Bool) (values : List Val) (ds : List Drive) → written c names states values ds ≡ run_map names values (rules_of c states ds)
written_is c names states values [] = refl
written_is c names states values (d ∷ ds) =
    written_is c names states (slice_set values (place_of names d.net) (output_value c states (value_in names values) d.instance d.view d.pin)) ds

pub written-append : (c : Circuit) (names : List (List ℕ)) (states : List Bool) (values : List Val) (some more : List Drive) → written c names states values (some ++ more) ≡ written c names states (written c names states values some) more
written-append c names states values [] more = refl
written-append c names states values (d ∷ some) more =
    written-append c names states (slice_set values (place_of names d.net) (output_value c states (value_in names values) d.instance d.view d.pin)) some more

-- a net has what the first pin on it gives
met_at : (c : Circuit) (states inputs : List Bool) (f : List ℕ → Val) (ds : List Drive) (n : List ℕ) → Meets f (rules_of c states ds) → has_name (nets_in ds) n ≡ true → f n ≡ driven c states inputs f (output_on n ds)
met_at c states inputs f [] n p h = absurd (let x : false ≡ true = h in cc)
met_at c states inputs f (d ∷ ds) n p h = at_head (bytes_eq d.net n) refl (met_at c states inputs f ds n p.1)
  where
    at_head : (b : Bool) → bytes_eq d.net n ≡ b → (has_name (nets_in ds) n ≡ true → f n ≡ driven c states inputs f (output_on n ds)) → f n ≡ driven c states inputs f (cond (bytes_eq d.net n) (output d) (output_on n ds))
    at_head true k later = rw k (ap f (sym (same_name d.net n k)) ∙ p.0)
    at_head false k later = let z : (bytes_eq d.net n || has_name (nets_in ds) n) ≡ true = h in rw k (later (rw k at z))

meets_from : (c : Circuit) (states inputs : List Bool) (f : List ℕ → Val) (ds : List Drive) → are_distinct (nets_in ds) ≡ true → ((n : List ℕ) → has_name (nets_in ds) n ≡ true → f n ≡ driven c states inputs f (output_on n ds)) → Meets f (rules_of c states ds)
meets_from c states inputs f [] apart h = tt
meets_from c states inputs f (d ∷ ds) apart h =
    (here, meets_from c states inputs f ds (and_right (not (has_name (nets_in ds) d.net)) (are_distinct (nets_in ds)) apart) later)
  where
    own : bytes_eq d.net d.net ≡ true
    own = name_same d.net d.net refl

    here : f d.net ≡ output_value c states f d.instance d.view d.pin
    here = h d.net (ap (λ b. b || has_name (nets_in ds) d.net) own) ∙ ap (λ b. driven c states inputs f (cond b (output d) (output_on d.net ds))) own

    new : has_name (nets_in ds) d.net ≡ false
    new = not_true (has_name (nets_in ds) d.net) (and_left (not (has_name (nets_in ds) d.net)) (are_distinct (nets_in ds)) apart)

    later : (n : List ℕ) → has_name (nets_in ds) n ≡ true → f n ≡ driven c states inputs f (output_on n ds)
    later n k = at_name (bytes_eq d.net n) refl
      where
        at_name : (b : Bool) → bytes_eq d.net n ≡ b → f n ≡ driven c states inputs f (output_on n ds)
        at_name true e = absurd (let z : has_name (nets_in ds) d.net ≡ true = ap (has_name (nets_in ds)) (same_name d.net n e) ∙ k in let y : true ≡ false = sym z ∙ new in cc)
        at_name false e =
            h n (ap (λ b. b || has_name (nets_in ds) n) e ∙ k)
            ∙ ap (λ b. driven c states inputs f (cond b (output d) (output_on n ds))) e

no_drive : (n : List ℕ) (ds : List Drive) → has_name (nets_in ds) n ≡ false → output_on n ds ≡ undriven
no_drive n [] h = refl
no_drive n (d ∷ ds) h =
    ap (λ b. cond b (output d) (output_on n ds)) (or_left_false (bytes_eq d.net n) (has_name (nets_in ds) n) h)
    ∙ no_drive n ds (or_right_false (bytes_eq d.net n) (has_name (nets_in ds) n) h)

-- what is asked of a circuit
pub record IsJoined (c : Circuit) : Type 0 where
  pub apart : are_distinct (nets c.netlist) ≡ true
  pub given_apart : are_distinct c.given ≡ true
  pub given_are : all_among c.netlist.inputs c.given ≡ true
  pub ordered : are_ordered c c.given c.netlist.instances ≡ true
  pub once : are_distinct (targets c) ≡ true
  pub driven_are : all_among (driven_names c.netlist) (targets c) ≡ true

pub joined : (c : Circuit) → is_wired c ≡ true → IsJoined c
joined c e =
    let plain = list_all is_plain_cell c.views in
    let ordered = are_ordered c c.given c.netlist.instances in
    let a = and_right (are_distinct (nets c.netlist)) (are_given c.netlist c.given && (plain && (ordered && is_driven_once c))) e in
    let g = and_left (are_given c.netlist c.given) (plain && (ordered && is_driven_once c)) a in
    let b = and_right plain (ordered && is_driven_once c) (and_right (are_given c.netlist c.given) (plain && (ordered && is_driven_once c)) a) in
    let o = and_right ordered (is_driven_once c) b in
    record {
      apart = and_left (are_distinct (nets c.netlist)) (are_given c.netlist c.given && (plain && (ordered && is_driven_once c))) e;
      given_apart = and_left (are_distinct c.given) (all_among c.netlist.inputs c.given) g;
      given_are = and_right (are_distinct c.given) (all_among c.netlist.inputs c.given) g;
      ordered = and_left ordered (is_driven_once c) b;
      once = and_left (are_distinct (targets c)) (all_among (targets c) (driven_names c.netlist) && all_among (driven_names c.netlist) (targets c)) o;
      driven_are = and_right (all_among (targets c) (driven_names c.netlist)) (all_among (driven_names c.netlist) (targets c)) (and_right (are_distinct (targets c)) (all_among (targets c) (driven_names c.netlist) && all_among (driven_names c.netlist) (targets c)) o);
    }

never_both : (b : Bool) → (b ≡ true → false ≡ true) → b ≡ false
never_both true h = absurd (let x : false ≡ true = h refl in cc)
never_both false h = refl

-- among different names none is in two parts
parts_apart : (xs ys : List (List ℕ)) (n : List ℕ) → are_distinct (xs ++ ys) ≡ true → has_name xs n ≡ true → has_name ys n ≡ true → false ≡ true
parts_apart [] ys n d e f = e
parts_apart (x ∷ xs) ys n d e f = at_head (bytes_eq x n) refl (parts_apart xs ys n (and_right (not (has_name (xs ++ ys) x)) (are_distinct (xs ++ ys)) d))
  where
    at_head : (b : Bool) → bytes_eq x n ≡ b → (has_name xs n ≡ true → has_name ys n ≡ true → false ≡ true) → false ≡ true
    at_head true k more =
        sym (not_true (has_name (xs ++ ys) x) (and_left (not (has_name (xs ++ ys) x)) (are_distinct (xs ++ ys)) d))
        ∙ ap (has_name (xs ++ ys)) (same_name x n k) ∙ has_second xs ys n f
    at_head false k more = more (let z : (bytes_eq x n || has_name xs n) ≡ true = e in rw k at z) f

-- what is given a value is an input, and no target
given_is_input : (c : Circuit) → IsJoined c → (n : List ℕ) → has_name c.given n ≡ true → has_name c.netlist.inputs n ≡ true
given_is_input c j n h = among_at c.netlist.inputs c.given n j.given_are h

given_free : (c : Circuit) → IsJoined c → (n : List ℕ) → has_name c.given n ≡ true → has_name (targets c) n ≡ false
given_free c j n h =
    never_both (has_name (targets c) n) (λ t. parts_apart c.netlist.inputs (driven_names c.netlist) n j.apart (given_is_input c j n h) (among_at (driven_names c.netlist) (targets c) n j.driven_are t))

target_is_net : (c : Circuit) → IsJoined c → (n : List ℕ) → has_name (targets c) n ≡ true → has_name (nets c.netlist) n ≡ true
target_is_net c j n h = has_second c.netlist.inputs (driven_names c.netlist) n (among_at (driven_names c.netlist) (targets c) n j.driven_are h)

given_is_net : (c : Circuit) → IsJoined c → (n : List ℕ) → has_name c.given n ≡ true → has_name (nets c.netlist) n ≡ true
given_is_net c j n h = has_first c.netlist.inputs (driven_names c.netlist) n (given_is_input c j n h)

-- the value of a net in a map that a function of its name makes
made_value : (names : List (List ℕ)) (f : List ℕ → Val) (n : List ℕ) → (has_name names n ≡ false → f n ≡ Corrupt) → value_in names (map f names) n ≡ f n
made_value [] f n h = sym (h refl)
made_value (x ∷ xs) f n h = at_head (bytes_eq x n) refl (made_value xs f n)
  where
    at_head : (b : Bool) → bytes_eq x n ≡ b → ((has_name xs n ≡ false → f n ≡ Corrupt) → value_in xs (map f xs) n ≡ f n) → get_or (f x ∷ map f xs) (cond (bytes_eq x n) 0 (1 + place_of xs n)) Corrupt ≡ f n
    at_head true k more = rw k (ap f (same_name x n k))
    at_head false k more =
        let next : 1 + place_of xs n ≡ suc (place_of xs n) = omega arith in
        rw (k, next) (more (λ e. h (ap (λ b. b || has_name xs n) k ∙ e)))

start_value : (c : Circuit) (inputs : List Bool) → IsJoined c → (n : List ℕ) → value_in (nets c.netlist) (start_of c inputs) n ≡ first_value c.given inputs n
start_value c inputs j n =
    made_value (nets c.netlist) (first_value c.given inputs) n
    (λ e. ap (λ b. cond b (given_at inputs (place_of c.given n)) Corrupt) (never_both (has_name c.given n) (λ h. sym e ∙ given_is_net c j n h)))

-- the nets of drives are the targets
drive_there : (c : Circuit) (n : List ℕ) (b : Bool) → has_name (targets c) n ≡ b → has_name (nets_in (drives c)) n ≡ b
drive_there c n b h = ap (λ ns. has_name ns n) (nets_all c c.netlist.instances) ∙ h

-- where targets and what is given have their values, each net has what drives it
settled_by : (c : Circuit) (states inputs : List Bool) (f : List ℕ → Val) → IsJoined c → Meets f (rules_of c states (drives c))
    → ((n : List ℕ) → has_name (targets c) n ≡ false → f n ≡ first_value c.given inputs n)
    → (n : List ℕ) → f n ≡ driven c states inputs f (driver_of c n)
settled_by c states inputs f j p s n = at_given (has_name c.given n) refl (has_name (targets c) n) refl
  where
    at_given : (b : Bool) → has_name c.given n ≡ b → (t : Bool) → has_name (targets c) n ≡ t → f n ≡ driven c states inputs f (driver_of c n)
    at_given true i t h = s n (given_free c j n i) ∙ ap (λ b. cond b (given_at inputs (place_of c.given n)) Corrupt) i ∙ sym (ap (λ b. driven c states inputs f (cond b (given (place_of c.given n)) (output_on n (drives c)))) i)
    at_given false i true h = met_at c states inputs f (drives c) n p (drive_there c n true h) ∙ sym (ap (λ b. driven c states inputs f (cond b (given (place_of c.given n)) (output_on n (drives c)))) i)
    at_given false i false h =
        s n h ∙ ap (λ b. cond b (given_at inputs (place_of c.given n)) Corrupt) i
        ∙ sym (ap (driven c states inputs f) (no_drive n (drives c) (drive_there c n false h)))
        ∙ sym (ap (λ b. driven c states inputs f (cond b (given (place_of c.given n)) (output_on n (drives c)))) i)

-- each value by its net's name
value_at : (c : Circuit) → IsJoined c → (values : List Val) (k : ℕ) → k < length (nets c.netlist) → slice_index_or values k Corrupt ≡ value_in (nets c.netlist) values (name_at (nets c.netlist) k)
value_at c j values k h = ap (λ p. slice_index_or values p Corrupt) (sym (place_at_name (nets c.netlist) k j.apart h))

driven_same : (c : Circuit) (states inputs : List Bool) (f g : List ℕ → Val) (d : Driver) → ((n : List ℕ) → f n ≡ g n) → driven c states inputs f d ≡ driven c states inputs g d
driven_same c states inputs f g (given k) h = refl
driven_same c states inputs f g (output d) h = ap (over c states d) (signals_agree f g d.instance d.view.signals (λ n k. h n))
driven_same c states inputs f g undriven h = refl

all_from : (names some : List (List ℕ)) → ((n : List ℕ) → has_name some n ≡ true → has_name names n ≡ true) → all_among names some ≡ true
all_from names [] h = refl
all_from names (x ∷ xs) h =
    and_two (has_name names x) (all_among names xs) (h x (ap (λ b. b || has_name xs x) (name_same x x refl)))
    (all_from names xs (λ n k. h n (or_right (bytes_eq x n) (has_name xs n) k)))

rules_there : (c : Circuit) (states : List Bool) → IsJoined c → all_among (nets c.netlist) (rules.targets_of (rules_of c states (drives c))) ≡ true
rules_there c states j = ap (all_among (nets c.netlist)) (targets_are c states) ∙ all_from (nets c.netlist) (targets c) (target_is_net c j)

rules_apart : (c : Circuit) (states : List Bool) → IsJoined c → (n : List ℕ) → has_name c.given n ≡ true → has_name (rules.targets_of (rules_of c states (drives c))) n ≡ false
rules_apart c states j n h = ap (λ ts. has_name ts n) (targets_are c states) ∙ given_free c j n h

rules_once : (c : Circuit) (states : List Bool) → IsJoined c → are_distinct (rules.targets_of (rules_of c states (drives c))) ≡ true
rules_once c states j = ap are_distinct (targets_are c states) ∙ j.once

length_start : (c : Circuit) (inputs : List Bool) → length (start_of c inputs) ≡ length (nets c.netlist)
length_start c inputs = length-map (nets c.netlist) (first_value c.given inputs)

abbrev pub final : Circuit → List Bool → List Bool → List Val
final c states inputs = run_map (nets c.netlist) (start_of c inputs) (rules_of c states (drives c))

-- what the evaluation gives is settled
pub final_settled : (c : Circuit) (states inputs : List Bool) → is_wired c ≡ true → IsNetSettled c states inputs (run_map (nets c.netlist) (start_of c inputs) (rules_of c states (drives c)))
final_settled c states inputs e = record {
  covers = rules.length-run_map (nets c.netlist) (start_of c inputs) (rules_of c states (drives c)) ∙ length_start c inputs;
  each = λ k h.
      value_at c j (run_map (nets c.netlist) (start_of c inputs) (rules_of c states (drives c))) k h
      ∙ is (name_at (nets c.netlist) k)
      ∙ settled_by c states inputs end j meets other (name_at (nets c.netlist) k)
      ∙ driven_same c states inputs end (value_in (nets c.netlist) (run_map (nets c.netlist) (start_of c inputs) (rules_of c states (drives c)))) (driver_of c (name_at (nets c.netlist) k)) (λ n. sym (is n));
}
  where
    j : IsJoined c
    j = joined c e

    begin : List ℕ → Val
    begin = value_in (nets c.netlist) (start_of c inputs)

    end : List ℕ → Val
    end = run begin (rules_of c states (drives c))

    is : (n : List ℕ) → value_in (nets c.netlist) (run_map (nets c.netlist) (start_of c inputs) (rules_of c states (drives c))) n ≡ end n
    is n = rules.run_map_is (nets c.netlist) (start_of c inputs) (rules_of c states (drives c)) (fair_each c states (drives c)) (length_start c inputs) (rules_there c states j) n

    meets : Meets end (rules_of c states (drives c))
    meets = rules.run_meets c.given begin (rules_of c states (drives c)) (fair_each c states (drives c)) (ordered_each c states c.given c.netlist.instances j.ordered) (rules_once c states j) (rules_apart c states j)

    other : (n : List ℕ) → has_name (targets c) n ≡ false → end n ≡ first_value c.given inputs n
    other n h = rules.untouched begin (rules_of c states (drives c)) n (ap (λ ts. has_name ts n) (targets_are c states) ∙ h) ∙ start_value c inputs j n

-- in a settled map each net has what drives it
settled_at : (c : Circuit) (states inputs : List Bool) (values : List Val) → IsNetSettled c states inputs values → (n : List ℕ) → has_name (nets c.netlist) n ≡ true → value_in (nets c.netlist) values n ≡ driven c states inputs (value_in (nets c.netlist) values) (driver_of c n)
settled_at c states inputs values s n h =
    s.each (place_of (nets c.netlist) n) (place_below (nets c.netlist) n h) ∙ ap (λ x. driven c states inputs (value_in (nets c.netlist) values) (driver_of c x)) (name_at_place (nets c.netlist) n h)

settled_given : (c : Circuit) (states inputs : List Bool) (values : List Val) → IsJoined c → IsNetSettled c states inputs values → (n : List ℕ) → has_name c.given n ≡ true → value_in (nets c.netlist) values n ≡ given_at inputs (place_of c.given n)
settled_given c states inputs values j s n h =
    settled_at c states inputs values s n (given_is_net c j n h)
    ∙ ap (λ b. driven c states inputs (value_in (nets c.netlist) values) (cond b (given (place_of c.given n)) (output_on n (drives c)))) h

not_given : (c : Circuit) → IsJoined c → (n : List ℕ) → has_name (targets c) n ≡ true → has_name c.given n ≡ false
not_given c j n h = never_both (has_name c.given n) (λ i. sym (given_free c j n i) ∙ h)

settled_meets : (c : Circuit) (states inputs : List Bool) (values : List Val) → IsJoined c → IsNetSettled c states inputs values → Meets (value_in (nets c.netlist) values) (rules_of c states (drives c))
settled_meets c states inputs values j s =
    meets_from c states inputs (value_in (nets c.netlist) values) (drives c) (ap are_distinct (nets_all c c.netlist.instances) ∙ j.once) (λ n h.
    let t : has_name (targets c) n ≡ true = sym (ap (λ ns. has_name ns n) (nets_all c c.netlist.instances)) ∙ h in
    settled_at c states inputs values s n (target_is_net c j n t)
    ∙ ap (λ b. driven c states inputs (value_in (nets c.netlist) values) (cond b (given (place_of c.given n)) (output_on n (drives c)))) (not_given c j n t))

-- and no other map is
pub settled_once : (c : Circuit) (states inputs : List Bool) (values others : List Val) → is_wired c ≡ true → IsNetSettled c states inputs values → IsNetSettled c states inputs others → values ≡ others
settled_once c states inputs values others e s t =
    ext_get_or Corrupt values others (s.covers ∙ sym t.covers) (λ k h.
    let less : k < length (nets c.netlist) = omega (arith, s.covers) in
    value_at c j values k less ∙ same (name_at (nets c.netlist) k) (has_at (nets c.netlist) k less) (has_name c.given (name_at (nets c.netlist) k)) refl (has_name (targets c) (name_at (nets c.netlist) k)) refl ∙ sym (value_at c j others k less))
  where
    j : IsJoined c
    j = joined c e

    agree : (n : List ℕ) → has_name c.given n ≡ true → value_in (nets c.netlist) values n ≡ value_in (nets c.netlist) others n
    agree n h = settled_given c states inputs values j s n h ∙ sym (settled_given c states inputs others j t n h)

    corrupt : (all : List Val) → IsNetSettled c states inputs all → (n : List ℕ) → has_name (nets c.netlist) n ≡ true → has_name c.given n ≡ false → has_name (targets c) n ≡ false → value_in (nets c.netlist) all n ≡ Corrupt
    corrupt all u n k i h =
        settled_at c states inputs all u n k
        ∙ ap (λ b. driven c states inputs (value_in (nets c.netlist) all) (cond b (given (place_of c.given n)) (output_on n (drives c)))) i
        ∙ ap (driven c states inputs (value_in (nets c.netlist) all)) (no_drive n (drives c) (drive_there c n false h))

    same : (n : List ℕ) → has_name (nets c.netlist) n ≡ true → (i : Bool) → has_name c.given n ≡ i → (h : Bool) → has_name (targets c) n ≡ h → value_in (nets c.netlist) values n ≡ value_in (nets c.netlist) others n
    same n k true i h p = agree n i
    same n k false i true p =
        rules.meets_one c.given (value_in (nets c.netlist) values) (value_in (nets c.netlist) others) (rules_of c states (drives c)) (fair_each c states (drives c)) (ordered_each c states c.given c.netlist.instances j.ordered)
        (settled_meets c states inputs values j s) (settled_meets c states inputs others j t) agree n (ap (λ ts. has_name ts n) (targets_are c states) ∙ p)
    same n k false i false p = corrupt values s n k i p ∙ sym (corrupt others t n k i p)
