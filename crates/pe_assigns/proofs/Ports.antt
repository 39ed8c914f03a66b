-- Ports, and the values from which an evaluation begins.
use Rattle.std.proofs.Common.{◌≡◌, ℕ, suc, ◌+◌, Bool, true, false, not, cond, ◌||◌, List, [], ◌∷◌, ◌++◌, map, length, get_or, refl, sym, ap, ◌∙◌, arith}
use Rattle.std.specs.Prelude.{filter}
use Rattle.std.specs.Str.{bytes_eq}
use Rattle.std.proofs.lemmas.List.Folds.{list_any-append}
use Rattle.pe_base.specs.declared.value.Val.{Val}
use Rattle.pe_base.specs.declared.value.Val.TheVariants.{Corrupt}
use Rattle.pe_base.specs.Names.{has_name, are_distinct, place_of}
use Rattle.pe_verilog_ast.specs.declared.module.Dir.{Dir}
use Rattle.pe_verilog_ast.specs.declared.module.Dir.TheVariants.{Input, Output, Inout}
use Rattle.pe_verilog_ast.specs.declared.module.HeadPort.{HeadPort}
use Rattle.pe_verilog_ast.specs.declared.module.HeadPort.TheVariants.{Named, Declared}
use Rattle.pe_nets.specs.Nets.{value_in}
use Rattle.pe_nets.proofs.Names.{and_left, and_right, not_true, same_name}
use Rattle.pe_assigns.specs.Form.{port_name, is_input_port, is_output_port, is_input, is_output}
use Rattle.pe_assigns.specs.Settled.{given_at}
use Rattle.pe_assigns.specs.Begin.{start_of_ports}

abbrev inputs_in : List HeadPort → List (List ℕ)
inputs_in ps = map port_name (filter is_input_port ps)

abbrev outputs_in : List HeadPort → List (List ℕ)
outputs_in ps = map port_name (filter is_output_port ps)

or_first : (a b c : Bool) → (a ≡ true → b ≡ true) → (a || c) ≡ true → (b || c) ≡ true
or_first true true c h e = refl
or_first true false c h e = absurd (let x : false ≡ true = h refl in cc)
or_first false true c h e = refl
or_first false false c h e = e

or_last : (a b c : Bool) → (b ≡ true → c ≡ true) → (a || b) ≡ true → (a || c) ≡ true
or_last true b c h e = refl
or_last false b c h e = h e

or_behind : (a c : Bool) → c ≡ true → (a || c) ≡ true
or_behind true c e = refl
or_behind false c e = e

-- ports that are kept are ports
pub kept_is_port : (test : HeadPort → Bool) (ps : List HeadPort) (n : List ℕ) → has_name (map port_name (filter test ps)) n ≡ true → has_name (map port_name ps) n ≡ true
kept_is_port test [] n e = e
kept_is_port test (p ∷ ps) n e = at_head (test p) refl (kept_is_port test ps n)
  where
    at_head : (b : Bool) → test p ≡ b → (has_name (map port_name (filter test ps)) n ≡ true → has_name (map port_name ps) n ≡ true) → (bytes_eq (port_name p) n || has_name (map port_name ps) n) ≡ true
    at_head true k more = or_last (bytes_eq (port_name p) n) (has_name (map port_name (filter test ps)) n) (has_name (map port_name ps) n) more (rw k at e)
    at_head false k more = or_behind (bytes_eq (port_name p) n) (has_name (map port_name ps) n) (more (rw k at e))

both_ways : (d : Dir) → is_input d ≡ true → is_output d ≡ true → false ≡ true
both_ways Input e f = f
both_ways Output e f = e
both_ways Inout e f = e

both_kinds : (p : HeadPort) → is_input_port p ≡ true → is_output_port p ≡ true → false ≡ true
both_kinds (Named n) e f = e
both_kinds (Declared p) e f = both_ways p.dir e f

never : (b : Bool) → b ≡ true → b ≡ false → false ≡ true
never true e f = sym f
never false e f = e

has_behind : (xs ys : List (List ℕ)) (n : List ℕ) → has_name (xs ++ ys) n ≡ (has_name xs n || has_name ys n)
has_behind xs ys n = list_any-append (λ o. bytes_eq o n) xs ys

pub some_kept : (test : HeadPort → Bool) (ps : List HeadPort) (ws : List (List ℕ)) (n : List ℕ) → has_name (map port_name (filter test ps) ++ ws) n ≡ true → has_name (map port_name ps ++ ws) n ≡ true
some_kept test ps ws n e =
    has_behind (map port_name ps) ws n
    ∙ or_first (has_name (map port_name (filter test ps)) n) (has_name (map port_name ps) n) (has_name ws n) (kept_is_port test ps n)
    (sym (has_behind (map port_name (filter test ps)) ws n) ∙ e)

-- among different names no input is an output or a wire
pub input_apart : (ps : List HeadPort) (ws : List (List ℕ)) (n : List ℕ) → are_distinct (map port_name ps ++ ws) ≡ true → has_name (inputs_in ps) n ≡ true → has_name (outputs_in ps ++ ws) n ≡ true → false ≡ true
input_apart [] ws n d e f = e
input_apart (p ∷ ps) ws n d e f =
    at_kinds (is_input_port p) refl (is_output_port p) refl (input_apart ps ws n rest)
  where
    rest : are_distinct (map port_name ps ++ ws) ≡ true
    rest = and_right (not (has_name (map port_name ps ++ ws) (port_name p))) (are_distinct (map port_name ps ++ ws)) d

    new : has_name (map port_name ps ++ ws) (port_name p) ≡ false
    new = not_true (has_name (map port_name ps ++ ws) (port_name p)) (and_left (not (has_name (map port_name ps ++ ws) (port_name p))) (are_distinct (map port_name ps ++ ws)) d)

    later_input : has_name (inputs_in ps) n ≡ true → has_name (map port_name ps ++ ws) n ≡ true
    later_input k = has_behind (map port_name ps) ws n ∙ ap (λ b. b || has_name ws n) (kept_is_port is_input_port ps n k)

    later_output : has_name (outputs_in ps ++ ws) n ≡ true → has_name (map port_name ps ++ ws) n ≡ true
    later_output k = some_kept is_output_port ps ws n k

    at_name : (b : Bool) → bytes_eq (port_name p) n ≡ b → has_name (map port_name ps ++ ws) n ≡ true → (bytes_eq (port_name p) n ≡ false → false ≡ true) → false ≡ true
    at_name true k there more = never (has_name (map port_name ps ++ ws) n) there (ap (has_name (map port_name ps ++ ws)) (sym (same_name (port_name p) n k)) ∙ new)
    at_name false k there more = more k

    at_kinds : (i : Bool) → is_input_port p ≡ i → (o : Bool) → is_output_port p ≡ o → (has_name (inputs_in ps) n ≡ true → has_name (outputs_in ps ++ ws) n ≡ true → false ≡ true) → false ≡ true
    at_kinds true ki true ko more = both_kinds p ki ko
    at_kinds true ki false ko more =
        let e' : (bytes_eq (port_name p) n || has_name (inputs_in ps) n) ≡ true = rw ki at e in
        let f' : has_name (outputs_in ps ++ ws) n ≡ true = rw ko at f in
        at_name (bytes_eq (port_name p) n) refl (later_output f') (λ k. more (rw k at e') f')
    at_kinds false ki true ko more =
        let e' : has_name (inputs_in ps) n ≡ true = rw ki at e in
        let f' : (bytes_eq (port_name p) n || has_name (outputs_in ps ++ ws) n) ≡ true = rw ko at f in
        at_name (bytes_eq (port_name p) n) refl (later_input e') (λ k. more e' (rw k at f'))
    at_kinds false ki false ko more = more (rw ki at e) (rw ko at f)

-- the value of a net in the map from which an evaluation begins
abbrev started : List HeadPort → ℕ → List Bool → List (List ℕ) → List Val
started ps k inputs ws = start_of_ports ps k inputs ++ map (λ w. Corrupt) ws

wires_corrupt : (ws : List (List ℕ)) (n : List ℕ) → value_in ws (map (λ w. Corrupt) ws) n ≡ Corrupt
wires_corrupt [] n = refl
wires_corrupt (w ∷ ws) n = at_head (bytes_eq w n) refl (wires_corrupt ws n)
  where
    at_head : (b : Bool) → bytes_eq w n ≡ b → value_in ws (map (λ x. Corrupt) ws) n ≡ Corrupt → get_or (Corrupt ∷ map (λ x. Corrupt) ws) (cond (bytes_eq w n) 0 (1 + place_of ws n)) Corrupt ≡ Corrupt
    at_head true k more = rw k refl
    at_head false k more = let next : 1 + place_of ws n ≡ suc (place_of ws n) = omega arith in rw (k, next) more

abbrev given_in : List HeadPort → ℕ → List Bool → List ℕ → Val
given_in ps k inputs n = cond (has_name (inputs_in ps) n) (given_at inputs (k + place_of (inputs_in ps) n)) Corrupt

pub start_value : (ps : List HeadPort) (k : ℕ) (inputs : List Bool) (ws : List (List ℕ)) (n : List ℕ) → are_distinct (map port_name ps ++ ws) ≡ true → value_in (map port_name ps ++ ws) (started ps k inputs ws) n ≡ given_in ps k inputs n
start_value [] k inputs ws n d = wires_corrupt ws n
start_value (p ∷ ps) k inputs ws n d =
    at_kind (is_input_port p) refl (bytes_eq (port_name p) n) refl (start_value ps (k + 1) inputs ws n rest) (start_value ps k inputs ws n rest)
  where
    rest : are_distinct (map port_name ps ++ ws) ≡ true
    rest = and_right (not (has_name (map port_name ps ++ ws) (port_name p))) (are_distinct (map port_name ps ++ ws)) d

    new : has_name (map port_name ps ++ ws) (port_name p) ≡ false
    new = not_true (has_name (map port_name ps ++ ws) (port_name p)) (and_left (not (has_name (map port_name ps ++ ws) (port_name p))) (are_distinct (map port_name ps ++ ws)) d)

    next : 1 + place_of (map port_name ps ++ ws) n ≡ suc (place_of (map port_name ps ++ ws) n)
    next = omega arith

    not_later : (b : Bool) → has_name (inputs_in ps) n ≡ b → bytes_eq (port_name p) n ≡ true → b ≡ false
    not_later false h e = refl
    not_later true h e = absurd (let z : false ≡ true = never (has_name (map port_name ps ++ ws) n) (has_behind (map port_name ps) ws n ∙ ap (λ b. b || has_name ws n) (kept_is_port is_input_port ps n h)) (ap (has_name (map port_name ps ++ ws)) (sym (same_name (port_name p) n e)) ∙ new) in cc)

    sum : (a b : ℕ) → (a + 1) + b ≡ a + (1 + b)
    sum a b = omega arith

    none : (a : ℕ) → a ≡ a + 0
    none a = omega arith

    at_kind : (i : Bool) → is_input_port p ≡ i → (b : Bool) → bytes_eq (port_name p) n ≡ b
        → value_in (map port_name ps ++ ws) (started ps (k + 1) inputs ws) n ≡ given_in ps (k + 1) inputs n
        → value_in (map port_name ps ++ ws) (started ps k inputs ws) n ≡ given_in ps k inputs n
        → value_in (port_name p ∷ (map port_name ps ++ ws)) (started (p ∷ ps) k inputs ws) n ≡ given_in (p ∷ ps) k inputs n
    at_kind true i true e more same = rw (i, e) (ap (given_at inputs) (none k))
    at_kind true i false e more same = rw (i, e, next) (more ∙ ap (λ m. cond (has_name (inputs_in ps) n) (given_at inputs m) Corrupt) (sum k (place_of (inputs_in ps) n)))
    at_kind false i true e more same = rw (i, e) (sym (ap (λ b. cond b (given_at inputs (k + place_of (inputs_in ps) n)) Corrupt) (not_later (has_name (inputs_in ps) n) refl e)))
    at_kind false i false e more same = rw (i, e, next) same

pub length-start : (ps : List HeadPort) (k : ℕ) (inputs : List Bool) (ws : List (List ℕ)) → length (started ps k inputs ws) ≡ length (map port_name ps ++ ws)
length-start [] k inputs [] = refl
length-start [] k inputs (w ∷ ws) = ap suc (length-start [] k inputs ws)
length-start (p ∷ ps) k inputs ws = at_kind (is_input_port p) refl (length-start ps (k + 1) inputs ws) (length-start ps k inputs ws)
  where
    at_kind : (i : Bool) → is_input_port p ≡ i → length (started ps (k + 1) inputs ws) ≡ length (map port_name ps ++ ws) → length (started ps k inputs ws) ≡ length (map port_name ps ++ ws) → length (started (p ∷ ps) k inputs ws) ≡ suc (length (map port_name ps ++ ws))
    at_kind true i more same = rw i (ap suc more)
    at_kind false i more same = rw i (ap suc same)
