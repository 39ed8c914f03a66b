-- What the evaluation gives is settled, and nothing else is.
use Rattle.std.proofs.Common.{◌≡◌, ℕ, ◌+◌, ◌<◌, Bool, true, false, not, cond, ◌&&◌, ◌||◌, List, [], ◌∷◌, ◌++◌, map, length, refl, sym, ap, ◌∙◌, arith}
use Rattle.std.specs.Prelude.{slice_index_or, slice_set}
use Rattle.std.specs.List.{list_all}
use Rattle.std.specs.Str.{bytes_eq}
use Rattle.std.proofs.lemmas.List.{ext_get_or}
use Rattle.pe_base.specs.declared.value.Val.{Val}
use Rattle.pe_base.specs.declared.value.Val.TheVariants.{Corrupt}
use Rattle.pe_base.specs.Names.{has_name, are_distinct, all_among, place_of}
use Rattle.pe_verilog_ast.specs.declared.expression.Ex.{Ex}
use Rattle.pe_verilog_ast.specs.declared.module.Module.{Module}
use Rattle.pe_nets.specs.Nets.{name_at, value_in}
use Rattle.pe_nets.proofs.Names.{and_left, and_right, or_left_false, or_right_false, not_true, same_name, name_same, among_at, has_at, place_below, name_at_place, place_at_name}
use Rattle.pe_nets.proofs.Rules as rules
use Rattle.pe_nets.proofs.Rules.{Rule, Meets, run, run_map}
use Rattle.pe_assigns.specs.Logic.{logic_of, value_of, is_read}
use Rattle.pe_assigns.specs.Form.{is_input_port, is_output_port, is_some_of, is_plain_port, is_plain_item, input_names, port_names, wires, assigns, targets, nets, driven_names, are_ordered, is_driven_once, is_form}
use Rattle.pe_assigns.specs.Settled.{given_at, Driver, given, assigned, undriven, assignment_to, driver_of, driven, IsRtlSettled}
use Rattle.pe_assigns.specs.Begin.{start_of, written}
use Rattle.pe_assigns.proofs.Reading.{operands, read_known, value_agrees}
use Rattle.pe_assigns.proofs.Ports.{kept_is_port, some_kept, input_apart, start_value, length-start}
use Rattle.std.proofs.lemmas.List.Folds.{list_any-append}

-- an assignment as a rule
abbrev pub rule_of : Bool → List ℕ × Ex → Rule
rule_of on a = record { target = a.0; reads = operands (logic_of a.1); gives = λ value. cond on (value_of value (logic_of a.1)) Corrupt }

abbrev pub rules_of : Bool → List (List ℕ × Ex) → List Rule
rules_of on all = map (rule_of on) all

fair_each : (on : Bool) (all : List (List ℕ × Ex)) → rules.AreFair (rules_of on all)
fair_each on [] = tt
fair_each on (a ∷ more) = (record { fair = λ f g h. ap (λ v. cond on v Corrupt) (value_agrees f g (logic_of a.1) h) }, fair_each on more)

targets_are : (on : Bool) (all : List (List ℕ × Ex)) → rules.targets_of (rules_of on all) ≡ map (λ a. a.0) all
targets_are on [] = refl
targets_are on (a ∷ more) = ap (λ ts. a.0 ∷ ts) (targets_are on more)

or_behind : (a c : Bool) → c ≡ true → (a || c) ≡ true
or_behind true c e = refl
or_behind false c e = e

and_two : (a b : Bool) → a ≡ true → b ≡ true → (a && b) ≡ true
and_two true b e f = f
and_two false b e f = e

ordered_each : (on : Bool) (known : List (List ℕ)) (all : List (List ℕ × Ex)) → are_ordered known all ≡ true → rules.are_ordered known (rules_of on all) ≡ true
ordered_each on known [] o = refl
ordered_each on known (a ∷ more) o =
    and_two (all_among known (operands (logic_of a.1))) (rules.are_ordered (a.0 ∷ known) (rules_of on more))
    (read_known known (logic_of a.1) (and_left (is_read known (logic_of a.1)) (are_ordered (a.0 ∷ known) more) o))
    (ordered_each on (a.0 ∷ known) more (and_right (is_read known (logic_of a.1)) (are_ordered (a.0 ∷ known) more) o))

-- what is written is what the rules give
pub written_is : (names : List (List ℕ)) (on : Bool) (values : List Val) (all : List (List ℕ × Ex)) → written names on values all ≡ run_map names values (rules_of on all)
written_is names on values [] = refl
written_is names on values (a ∷ more) =
    written_is names on (slice_set values (place_of names a.0) (cond on (value_of (value_in names values) (logic_of a.1)) Corrupt)) more

pub written-append : (names : List (List ℕ)) (on : Bool) (values : List Val) (some more : List (List ℕ × Ex)) → written names on values (some ++ more) ≡ written names on (written names on values some) more
written-append names on values [] more = refl
written-append names on values (a ∷ some) more =
    written-append names on (slice_set values (place_of names a.0) (cond on (value_of (value_in names values) (logic_of a.1)) Corrupt)) some more

-- a target has what its assignment gives it
met_at : (on : Bool) (inputs : List Bool) (f : List ℕ → Val) (all : List (List ℕ × Ex)) (n : List ℕ) → Meets f (rules_of on all) → has_name (map (λ a. a.0) all) n ≡ true → f n ≡ driven on inputs f (assignment_to n all)
met_at on inputs f [] n p h = absurd (let x : false ≡ true = h in cc)
met_at on inputs f (a ∷ more) n p h = at_head (bytes_eq a.0 n) refl (met_at on inputs f more n p.1)
  where
    at_head : (b : Bool) → bytes_eq a.0 n ≡ b → (has_name (map (λ x. x.0) more) n ≡ true → f n ≡ driven on inputs f (assignment_to n more)) → f n ≡ driven on inputs f (cond (bytes_eq a.0 n) (assigned a.1) (assignment_to n more))
    at_head true k later = rw k (ap f (sym (same_name a.0 n k)) ∙ p.0)
    at_head false k later = let z : (bytes_eq a.0 n || has_name (map (λ x. x.0) more) n) ≡ true = h in rw k (later (rw k at z))

meets_from : (on : Bool) (inputs : List Bool) (f : List ℕ → Val) (all : List (List ℕ × Ex)) → are_distinct (map (λ a. a.0) all) ≡ true → ((n : List ℕ) → has_name (map (λ a. a.0) all) n ≡ true → f n ≡ driven on inputs f (assignment_to n all)) → Meets f (rules_of on all)
meets_from on inputs f [] d h = tt
meets_from on inputs f (a ∷ more) d h =
    (here, meets_from on inputs f more (and_right (not (has_name (map (λ x. x.0) more) a.0)) (are_distinct (map (λ x. x.0) more)) d) later)
  where
    own : bytes_eq a.0 a.0 ≡ true
    own = name_same a.0 a.0 refl

    here : f a.0 ≡ cond on (value_of f (logic_of a.1)) Corrupt
    here = h a.0 (ap (λ b. b || has_name (map (λ x. x.0) more) a.0) own) ∙ ap (λ b. driven on inputs f (cond b (assigned a.1) (assignment_to a.0 more))) own

    new : has_name (map (λ x. x.0) more) a.0 ≡ false
    new = not_true (has_name (map (λ x. x.0) more) a.0) (and_left (not (has_name (map (λ x. x.0) more) a.0)) (are_distinct (map (λ x. x.0) more)) d)

    later : (n : List ℕ) → has_name (map (λ x. x.0) more) n ≡ true → f n ≡ driven on inputs f (assignment_to n more)
    later n k = at_name (bytes_eq a.0 n) refl
      where
        at_name : (b : Bool) → bytes_eq a.0 n ≡ b → f n ≡ driven on inputs f (assignment_to n more)
        at_name true e = absurd (let z : has_name (map (λ x. x.0) more) a.0 ≡ true = ap (has_name (map (λ x. x.0) more)) (same_name a.0 n e) ∙ k in let y : true ≡ false = sym z ∙ new in cc)
        at_name false e =
            h n (ap (λ b. b || has_name (map (λ x. x.0) more) n) e ∙ k)
            ∙ ap (λ b. driven on inputs f (cond b (assigned a.1) (assignment_to n more))) e

no_assignment : (n : List ℕ) (all : List (List ℕ × Ex)) → has_name (map (λ a. a.0) all) n ≡ false → assignment_to n all ≡ undriven
no_assignment n [] h = refl
no_assignment n (a ∷ more) h =
    ap (λ b. cond b (assigned a.1) (assignment_to n more)) (or_left_false (bytes_eq a.0 n) (has_name (map (λ x. x.0) more) n) h)
    ∙ no_assignment n more (or_right_false (bytes_eq a.0 n) (has_name (map (λ x. x.0) more) n) h)

-- what the form gives
pub record IsFormed (m : Module) : Type 0 where
  pub apart : are_distinct (nets m) ≡ true
  pub once : are_distinct (targets m) ≡ true
  pub driven_are : all_among (driven_names m) (targets m) ≡ true
  pub ordered : are_ordered (input_names m) (assigns m) ≡ true

pub formed : (m : Module) → is_form m ≡ true → IsFormed m
formed m e =
    let a = and_right (not (is_some_of m.params)) (list_all is_plain_port m.ports && (list_all is_plain_item m.items && (are_distinct (nets m) && (is_driven_once m && are_ordered (input_names m) (assigns m))))) e in
    let b = and_right (list_all is_plain_port m.ports) (list_all is_plain_item m.items && (are_distinct (nets m) && (is_driven_once m && are_ordered (input_names m) (assigns m)))) a in
    let c = and_right (list_all is_plain_item m.items) (are_distinct (nets m) && (is_driven_once m && are_ordered (input_names m) (assigns m))) b in
    let d = and_right (are_distinct (nets m)) (is_driven_once m && are_ordered (input_names m) (assigns m)) c in
    let o = and_left (is_driven_once m) (are_ordered (input_names m) (assigns m)) d in
    record {
      apart = and_left (are_distinct (nets m)) (is_driven_once m && are_ordered (input_names m) (assigns m)) c;
      once = and_left (are_distinct (targets m)) (all_among (targets m) (driven_names m) && all_among (driven_names m) (targets m)) o;
      driven_are = and_right (all_among (targets m) (driven_names m)) (all_among (driven_names m) (targets m)) (and_right (are_distinct (targets m)) (all_among (targets m) (driven_names m) && all_among (driven_names m) (targets m)) o);
      ordered = and_right (is_driven_once m) (are_ordered (input_names m) (assigns m)) d;
    }

never_both : (b : Bool) → (b ≡ true → false ≡ true) → b ≡ false
never_both true h = absurd (let x : false ≡ true = h refl in cc)
never_both false h = refl

-- no input is a target
input_free : (m : Module) → IsFormed m → (n : List ℕ) → has_name (input_names m) n ≡ true → has_name (targets m) n ≡ false
input_free m f n h = never_both (has_name (targets m) n) (λ t. input_apart m.ports (wires m) n f.apart h (among_at (driven_names m) (targets m) n f.driven_are t))

-- where targets and inputs have what they are given, each net has what drives it
pub settled_by : (m : Module) (on : Bool) (inputs : List Bool) (f : List ℕ → Val) → IsFormed m → Meets f (rules_of on (assigns m))
    → ((n : List ℕ) → has_name (targets m) n ≡ false → f n ≡ cond (has_name (input_names m) n) (given_at inputs (place_of (input_names m) n)) Corrupt)
    → (n : List ℕ) → f n ≡ driven on inputs f (driver_of m n)
settled_by m on inputs f g p s n = at_input (has_name (input_names m) n) refl (has_name (targets m) n) refl
  where
    at_input : (i : Bool) → has_name (input_names m) n ≡ i → (t : Bool) → has_name (targets m) n ≡ t → f n ≡ driven on inputs f (cond (has_name (input_names m) n) (given (place_of (input_names m) n)) (assignment_to n (assigns m)))
    at_input true i t h = s n (input_free m g n i) ∙ ap (λ b. cond b (given_at inputs (place_of (input_names m) n)) Corrupt) i ∙ sym (ap (λ b. driven on inputs f (cond b (given (place_of (input_names m) n)) (assignment_to n (assigns m)))) i)
    at_input false i true h = met_at on inputs f (assigns m) n p h ∙ sym (ap (λ b. driven on inputs f (cond b (given (place_of (input_names m) n)) (assignment_to n (assigns m)))) i)
    at_input false i false h =
        s n h ∙ ap (λ b. cond b (given_at inputs (place_of (input_names m) n)) Corrupt) i
        ∙ sym (ap (λ d. driven on inputs f d) (no_assignment n (assigns m) h))
        ∙ sym (ap (λ b. driven on inputs f (cond b (given (place_of (input_names m) n)) (assignment_to n (assigns m)))) i)

-- each value by its net's name
value_at : (m : Module) → IsFormed m → (values : List Val) (k : ℕ) → k < length (nets m) → slice_index_or values k Corrupt ≡ value_in (nets m) values (name_at (nets m) k)
value_at m f values k h = ap (λ p. slice_index_or values p Corrupt) (sym (place_at_name (nets m) k f.apart h))

driven_same : (on : Bool) (inputs : List Bool) (f g : List ℕ → Val) (d : Driver) → ((n : List ℕ) → f n ≡ g n) → driven on inputs f d ≡ driven on inputs g d
driven_same on inputs f g (given k) h = refl
driven_same on inputs f g (assigned e) h = ap (λ v. cond on v Corrupt) (value_agrees f g (logic_of e) (λ n k. h n))
driven_same on inputs f g undriven h = refl

all_from : (names some : List (List ℕ)) → ((n : List ℕ) → has_name some n ≡ true → has_name names n ≡ true) → all_among names some ≡ true
all_from names [] h = refl
all_from names (x ∷ xs) h =
    and_two (has_name names x) (all_among names xs) (h x (ap (λ b. b || has_name xs x) (name_same x x refl)))
    (all_from names xs (λ n k. h n (or_behind (bytes_eq x n) (has_name xs n) k)))

-- each target is a net
target_is_net : (m : Module) → IsFormed m → (n : List ℕ) → has_name (targets m) n ≡ true → has_name (nets m) n ≡ true
target_is_net m f n h = some_kept is_output_port m.ports (wires m) n (among_at (driven_names m) (targets m) n f.driven_are h)

input_is_net : (m : Module) (n : List ℕ) → has_name (input_names m) n ≡ true → has_name (nets m) n ≡ true
input_is_net m n h = list_any-append (λ o. bytes_eq o n) (port_names m) (wires m) ∙ ap (λ b. b || has_name (wires m) n) (kept_is_port is_input_port m.ports n h)

rules_there : (m : Module) (on : Bool) → IsFormed m → all_among (nets m) (rules.targets_of (rules_of on (assigns m))) ≡ true
rules_there m on f = ap (all_among (nets m)) (targets_are on (assigns m)) ∙ all_from (nets m) (targets m) (target_is_net m f)

rules_apart : (m : Module) (on : Bool) → IsFormed m → (n : List ℕ) → has_name (input_names m) n ≡ true → has_name (rules.targets_of (rules_of on (assigns m))) n ≡ false
rules_apart m on f n h = ap (λ ts. has_name ts n) (targets_are on (assigns m)) ∙ input_free m f n h

rules_once : (m : Module) (on : Bool) → IsFormed m → are_distinct (rules.targets_of (rules_of on (assigns m))) ≡ true
rules_once m on f = ap are_distinct (targets_are on (assigns m)) ∙ f.once

final : Module → Bool → List Bool → List Val
final m on inputs = run_map (nets m) (start_of m inputs) (rules_of on (assigns m))

-- what the evaluation gives is settled
pub final_settled : (m : Module) (on : Bool) (inputs : List Bool) → is_form m ≡ true → IsRtlSettled m on inputs (run_map (nets m) (start_of m inputs) (rules_of on (assigns m)))
final_settled m on inputs e = record {
  covers = rules.length-run_map (nets m) (start_of m inputs) (rules_of on (assigns m)) ∙ length-start m.ports 0 inputs (wires m);
  each = λ k h.
      value_at m f (run_map (nets m) (start_of m inputs) (rules_of on (assigns m))) k h
      ∙ is (name_at (nets m) k)
      ∙ settled_by m on inputs end f meets other (name_at (nets m) k)
      ∙ driven_same on inputs end (value_in (nets m) (run_map (nets m) (start_of m inputs) (rules_of on (assigns m)))) (driver_of m (name_at (nets m) k)) (λ n. sym (is n));
}
  where
    f : IsFormed m
    f = formed m e

    begin : List ℕ → Val
    begin = value_in (nets m) (start_of m inputs)

    end : List ℕ → Val
    end = run begin (rules_of on (assigns m))

    is : (n : List ℕ) → value_in (nets m) (run_map (nets m) (start_of m inputs) (rules_of on (assigns m))) n ≡ end n
    is n = rules.run_map_is (nets m) (start_of m inputs) (rules_of on (assigns m)) (fair_each on (assigns m)) (length-start m.ports 0 inputs (wires m)) (rules_there m on f) n

    meets : Meets end (rules_of on (assigns m))
    meets = rules.run_meets (input_names m) begin (rules_of on (assigns m)) (fair_each on (assigns m)) (ordered_each on (input_names m) (assigns m) f.ordered) (rules_once m on f) (rules_apart m on f)

    none : (a : ℕ) → 0 + a ≡ a
    none a = omega arith

    other : (n : List ℕ) → has_name (targets m) n ≡ false → end n ≡ cond (has_name (input_names m) n) (given_at inputs (place_of (input_names m) n)) Corrupt
    other n h =
        rules.untouched begin (rules_of on (assigns m)) n (ap (λ ts. has_name ts n) (targets_are on (assigns m)) ∙ h)
        ∙ start_value m.ports 0 inputs (wires m) n f.apart
        ∙ ap (λ a. cond (has_name (input_names m) n) (given_at inputs a) Corrupt) (none (place_of (input_names m) n))

-- in a settled map each net has what drives it
settled_at : (m : Module) (on : Bool) (inputs : List Bool) (values : List Val) → IsRtlSettled m on inputs values → (n : List ℕ) → has_name (nets m) n ≡ true → value_in (nets m) values n ≡ driven on inputs (value_in (nets m) values) (driver_of m n)
settled_at m on inputs values s n h =
    s.each (place_of (nets m) n) (place_below (nets m) n h) ∙ ap (λ x. driven on inputs (value_in (nets m) values) (driver_of m x)) (name_at_place (nets m) n h)

settled_input : (m : Module) (on : Bool) (inputs : List Bool) (values : List Val) → IsRtlSettled m on inputs values → (n : List ℕ) → has_name (input_names m) n ≡ true → value_in (nets m) values n ≡ given_at inputs (place_of (input_names m) n)
settled_input m on inputs values s n h =
    settled_at m on inputs values s n (input_is_net m n h)
    ∙ ap (λ b. driven on inputs (value_in (nets m) values) (cond b (given (place_of (input_names m) n)) (assignment_to n (assigns m)))) h

no_input : (m : Module) → IsFormed m → (n : List ℕ) → has_name (targets m) n ≡ true → has_name (input_names m) n ≡ false
no_input m f n h = never_both (has_name (input_names m) n) (λ i. sym (input_free m f n i) ∙ h)

settled_meets : (m : Module) (on : Bool) (inputs : List Bool) (values : List Val) → IsFormed m → IsRtlSettled m on inputs values → Meets (value_in (nets m) values) (rules_of on (assigns m))
settled_meets m on inputs values f s =
    meets_from on inputs (value_in (nets m) values) (assigns m) f.once (λ n h.
    settled_at m on inputs values s n (target_is_net m f n h)
    ∙ ap (λ b. driven on inputs (value_in (nets m) values) (cond b (given (place_of (input_names m) n)) (assignment_to n (assigns m)))) (no_input m f n h))

-- and no other map is
pub settled_once : (m : Module) (on : Bool) (inputs : List Bool) (values others : List Val) → is_form m ≡ true → IsRtlSettled m on inputs values → IsRtlSettled m on inputs others → values ≡ others
settled_once m on inputs values others e s t =
    ext_get_or Corrupt values others (s.covers ∙ sym t.covers) (λ k h.
    let less : k < length (nets m) = omega (arith, s.covers) in
    value_at m f values k less ∙ same (name_at (nets m) k) (has_at (nets m) k less) (has_name (input_names m) (name_at (nets m) k)) refl (has_name (targets m) (name_at (nets m) k)) refl ∙ sym (value_at m f others k less))
  where
    f : IsFormed m
    f = formed m e

    agree : (n : List ℕ) → has_name (input_names m) n ≡ true → value_in (nets m) values n ≡ value_in (nets m) others n
    agree n h = settled_input m on inputs values s n h ∙ sym (settled_input m on inputs others t n h)

    corrupt : (all : List Val) → IsRtlSettled m on inputs all → (n : List ℕ) → has_name (nets m) n ≡ true → has_name (input_names m) n ≡ false → has_name (targets m) n ≡ false → value_in (nets m) all n ≡ Corrupt
    corrupt all u n k i h =
        settled_at m on inputs all u n k
        ∙ ap (λ b. driven on inputs (value_in (nets m) all) (cond b (given (place_of (input_names m) n)) (assignment_to n (assigns m)))) i
        ∙ ap (λ d. driven on inputs (value_in (nets m) all) d) (no_assignment n (assigns m) h)

    same : (n : List ℕ) → has_name (nets m) n ≡ true → (i : Bool) → has_name (input_names m) n ≡ i → (h : Bool) → has_name (targets m) n ≡ h → value_in (nets m) values n ≡ value_in (nets m) others n
    same n k true i h j = agree n i
    same n k false i true j =
        rules.meets_one (input_names m) (value_in (nets m) values) (value_in (nets m) others) (rules_of on (assigns m)) (fair_each on (assigns m)) (ordered_each on (input_names m) (assigns m) f.ordered)
        (settled_meets m on inputs values f s) (settled_meets m on inputs others f t) agree n (ap (λ ts. has_name ts n) (targets_are on (assigns m)) ∙ j)
    same n k false i false j = corrupt values s n k i j ∙ sym (corrupt others t n k i j)
