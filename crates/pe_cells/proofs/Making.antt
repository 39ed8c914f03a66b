-- How the parts of a view are made, step by step.
use Rattle.std.proofs.Common.{◌≡◌, ℕ, suc, ◌+◌, ◌-◌, ◌<◌, ◌≤◌, Bool, true, false, cond, List, [], ◌∷◌, ◌++◌, length, get_or, take, drop, Option, Some, None, refl, sym, ap, ◌∙◌, subst, append_assoc, append-nil, arith}
use Rattle.std.specs.Prelude.{map, find, is_some, leb, codes}
use Rattle.std.specs.List.{flat_map, range_with_len}
use Rattle.std.proofs.lemmas.List.{take_more, map-append, length-map}
use Rattle.std.proofs.lemmas.List.FromFn.{map-range_with_len_more}
use Rattle.std.proofs.lemmas.Grind.{flat_map-append}
use Rattle.pe_base.specs.declared.value.Val.{Val}
use Rattle.pe_bool_expr.specs.declared.expr.Expr.{Expr}
use Rattle.pe_bool_expr.proofs.Pieces.{drop-next}
use Rattle.pe_liberty_read.specs.declared.tree.Attr.{Attr}
use Rattle.pe_liberty_read.specs.declared.tree.Group.{Group, out-Group}
use Rattle.pe_cells.specs.declared.cell.CellSwitch.{CellSwitch}
use Rattle.pe_cells.specs.declared.cell.Pg.{Pg}
use Rattle.pe_cells.specs.declared.cell.RetentionPin.{RetentionPin}
use Rattle.pe_cells.specs.declared.cell.Signal.{Signal}
use Rattle.pe_cells.specs.declared.form.Found.{Found}
use Rattle.pe_cells.specs.Form.{earliest, earliest_with, no_later, is_output, has_class}
use Rattle.pe_cells.specs.Functions.{use_of, use_if, IsUsed, Judges, Adds}
use Rattle.pe_cells.specs.Looking.{has_attr, text_in}
use Rattle.pe_cells.specs.Naming.{Pin, pin_of, pins_in, pins_of}
use Rattle.pe_cells.specs.Viewing.{Output, output_of, function_use, down_use, has_down, IsSignal, signal_uses, related_in, both_of, clear_preset, IsRegisterOf, register_uses, register_with, IsSwitch, switch_use, outputs_in, outputs_from, count_pgs, retention_pin_by, retention_pin_from}
use Rattle.pe_cells.proofs.Additions.{judges_more, none_before, adds_more, adds_one}
use Rattle.pe_cells.proofs.Switching.{IsSwitching}

-- a signal pin
pub signal_judges : (names : List (List ℕ)) (g : Group) (name : List ℕ) (out down : Bool) (a b c : List Found) → out ≡ is_output g → down ≡ has_down g →
    Judges (use_if out (function_use names g)) a b → Judges (use_if down (down_use names g)) b c → Judges (signal_uses names (pin_of g name)) a c
signal_judges names g name out down a b c e f p q =
    judges_more (use_if (is_output g) (function_use names g)) (use_if (has_down g) (down_use names g)) a b c
    (subst (λ x. Judges (use_if x (function_use names g)) a b) e p) (subst (λ x. Judges (use_if x (down_use names g)) b c) f q)

pub signal_is : (names : List (List ℕ)) (pgs : List Pg) (g : Group) (name n : List ℕ) (out down : Bool) (f d : Option Expr) (p q : Option ℕ) (b c : List Found) →
    out ≡ is_output g → down ≡ has_down g → Judges (use_if down (down_use names g)) b c →
    (b ≡ [] → IsUsed (function_use names g) out f) → (c ≡ [] → IsUsed (down_use names g) down d) →
    p ≡ related_in pgs g (codes "related_power_pin") → q ≡ related_in pgs g (codes "related_ground_pin") → n ≡ name → c ≡ [] →
    IsSignal names pgs (pin_of g name) (record { name = n; output = out; function = f; down = d; power = p; ground = q })
signal_is names pgs g name n out down f d p q b c oe de j fu du pe qe ne none = record {
  name = ne;
  output = oe;
  function = subst (λ x. IsUsed (function_use names g) x f) oe (fu (none_before _ b c j none));
  down = subst (λ x. IsUsed (down_use names g) x d) de (du none);
  power = pe;
  ground = qe;
}

-- one more name of a group
one_more_name : (g : Group) (items : List (List ℕ)) (i : ℕ) (name : List ℕ) → i < length items → name ≡ get_or items i name → map (pin_of g) (take (i + 1) items) ≡ map (pin_of g) (take i items) ++ pin_of g name ∷ []
one_more_name g items i name lt e =
    ap (map (pin_of g)) (take_more items i name lt) ∙ map-append (pin_of g) (take i items) (get_or items i name ∷ []) ∙ ap (λ n. map (pin_of g) (take i items) ++ pin_of g n ∷ []) (sym e)

pub names_judged : (names : List (List ℕ)) (g : Group) (items : List (List ℕ)) (i : ℕ) (name : List ℕ) (a b c : List Found) → i < length items → name ≡ get_or items i name →
    Judges (flat_map (signal_uses names) (map (pin_of g) (take i items))) a b → Judges (signal_uses names (pin_of g name)) b c →
    Judges (flat_map (signal_uses names) (map (pin_of g) (take (i + 1) items))) a c
names_judged names g items i name a b c lt e p q =
    let before = map (pin_of g) (take i items) in
    let here : flat_map (signal_uses names) (pin_of g name ∷ []) ≡ signal_uses names (pin_of g name) = append-nil (signal_uses names (pin_of g name)) in
    let split : flat_map (signal_uses names) (map (pin_of g) (take (i + 1) items)) ≡ flat_map (signal_uses names) before ++ signal_uses names (pin_of g name) =
    ap (flat_map (signal_uses names)) (one_more_name g items i name lt e) ∙ flat_map-append (signal_uses names) before (pin_of g name ∷ []) ∙ ap (λ x. flat_map (signal_uses names) before ++ x) here in
    subst (λ us. Judges us a c) (sym split) (judges_more (flat_map (signal_uses names) before) (signal_uses names (pin_of g name)) a b c p q)

pub names_added : (names : List (List ℕ)) (pgs : List Pg) (g : Group) (items : List (List ℕ)) (i : ℕ) (name : List ℕ) (b c : List Found) (old mid new : List Signal) (s : Signal) →
    i < length items → name ≡ get_or items i name → Judges (signal_uses names (pin_of g name)) b c →
    (b ≡ [] → Adds Pin Signal (IsSignal names pgs) (map (pin_of g) (take i items)) old mid) → (c ≡ [] → IsSignal names pgs (pin_of g name) s) → new ≡ mid ++ s ∷ [] →
    c ≡ [] → Adds Pin Signal (IsSignal names pgs) (map (pin_of g) (take (i + 1) items)) old new
names_added names pgs g items i name b c old mid new s lt e j before here pushed none =
    subst (λ xs. Adds Pin Signal (IsSignal names pgs) xs old new) (sym (one_more_name g items i name lt e))
    (adds_more (IsSignal names pgs) (map (pin_of g) (take i items)) (pin_of g name ∷ []) old mid new (before (none_before _ b c j none)) (adds_one (IsSignal names pgs) (pin_of g name) s mid new (here none) pushed))

-- one more group
pub one_more_group : {A : Type 0} (f : Group → List A) (groups : List Group) (i : ℕ) (g : Group) → i < length groups → g ≡ get_or groups i g → flat_map f (take (i + 1) groups) ≡ flat_map f (take i groups) ++ f g
one_more_group f groups i g lt e =
    ap (flat_map f) (take_more groups i g lt) ∙ flat_map-append f (take i groups) (get_or groups i g ∷ []) ∙ ap (λ x. flat_map f (take i groups) ++ x) (append-nil (f (get_or groups i g)) ∙ ap f (sym e))

pub groups_judged : (names : List (List ℕ)) (groups : List Group) (i : ℕ) (g : Group) (a b c : List Found) → i < length groups → g ≡ get_or groups i g →
    Judges (flat_map (signal_uses names) (pins_of (take i groups))) a b → Judges (flat_map (signal_uses names) (pins_in g)) b c →
    Judges (flat_map (signal_uses names) (pins_of (take (i + 1) groups))) a c
groups_judged names groups i g a b c lt e p q =
    let before = pins_of (take i groups) in
    let split : flat_map (signal_uses names) (pins_of (take (i + 1) groups)) ≡ flat_map (signal_uses names) before ++ flat_map (signal_uses names) (pins_in g) =
    ap (flat_map (signal_uses names)) (one_more_group pins_in groups i g lt e) ∙ flat_map-append (signal_uses names) before (pins_in g) in
    subst (λ us. Judges us a c) (sym split) (judges_more (flat_map (signal_uses names) before) (flat_map (signal_uses names) (pins_in g)) a b c p q)

pub groups_added : (names : List (List ℕ)) (pgs : List Pg) (groups : List Group) (i : ℕ) (g : Group) (b c : List Found) (old mid new : List Signal) →
    i < length groups → g ≡ get_or groups i g → Judges (flat_map (signal_uses names) (pins_in g)) b c →
    (b ≡ [] → Adds Pin Signal (IsSignal names pgs) (pins_of (take i groups)) old mid) → (c ≡ [] → Adds Pin Signal (IsSignal names pgs) (pins_in g) mid new) →
    c ≡ [] → Adds Pin Signal (IsSignal names pgs) (pins_of (take (i + 1) groups)) old new
groups_added names pgs groups i g b c old mid new lt e j before here none =
    subst (λ xs. Adds Pin Signal (IsSignal names pgs) xs old new) (sym (one_more_group pins_in groups i g lt e))
    (adds_more (IsSignal names pgs) (pins_of (take i groups)) (pins_in g) old mid new (before (none_before _ b c j none)) (here none))

-- the register
pub register_judges : (names pins : List (List ℕ)) (ff : Group) (clear preset : Bool) (a b c d e : List Found) → clear ≡ has_attr ff (codes "clear") → preset ≡ has_attr ff (codes "preset") →
    Judges (use_of names ff (codes "next_state") ∷ []) a b → Judges (use_of names ff (codes "clocked_on") ∷ []) b c →
    Judges (use_if clear (use_of pins ff (codes "clear"))) c d → Judges (use_if preset (use_of pins ff (codes "preset"))) d e →
    Judges (register_uses names pins (Some ff)) a e
register_judges names pins ff clear preset a b c d e ce pe p q r s =
    judges_more _ (use_if (has_attr ff (codes "preset")) (use_of pins ff (codes "preset"))) a d e
    (judges_more _ (use_if (has_attr ff (codes "clear")) (use_of pins ff (codes "clear"))) a c d
    (judges_more _ _ a b c p q) (subst (λ x. Judges (use_if x (use_of pins ff (codes "clear"))) c d) ce r))
    (subst (λ x. Judges (use_if x (use_of pins ff (codes "preset"))) d e) pe s)

register_made : (names pins : List (List ℕ)) (ff : Group) (next clock clear preset : Option Expr) (both : Val × Val) →
    IsUsed (use_of names ff (codes "next_state")) true next → IsUsed (use_of names ff (codes "clocked_on")) true clock →
    IsUsed (use_of pins ff (codes "clear")) (has_attr ff (codes "clear")) clear → IsUsed (use_of pins ff (codes "preset")) (has_attr ff (codes "preset")) preset →
    both ≡ both_of ff → IsRegisterOf names pins (Some ff) (register_with next clock clear preset both)
register_made names pins ff (Some next) (Some clock) clear preset both p q r s e = record { next = p; clock = q; clear = r; preset = s; both = e }
register_made names pins ff (Some next) None clear preset both p q r s e = absurd q
register_made names pins ff None clock clear preset both p q r s e = absurd p

pub register_is : (names pins : List (List ℕ)) (ff : Group) (has_clear has_preset : Bool) (next clock clear preset : Option Expr) (iq iqn : Val) (b c d e : List Found) →
    has_clear ≡ has_attr ff (codes "clear") → has_preset ≡ has_attr ff (codes "preset") →
    Judges (use_of names ff (codes "clocked_on") ∷ []) b c → Judges (use_if has_clear (use_of pins ff (codes "clear"))) c d → Judges (use_if has_preset (use_of pins ff (codes "preset"))) d e →
    (b ≡ [] → IsUsed (use_of names ff (codes "next_state")) true next) → (c ≡ [] → IsUsed (use_of names ff (codes "clocked_on")) true clock) →
    (d ≡ [] → IsUsed (use_of pins ff (codes "clear")) has_clear clear) → (e ≡ [] → IsUsed (use_of pins ff (codes "preset")) has_preset preset) →
    iq ≡ clear_preset (text_in ff (codes "clear_preset_var1")) → iqn ≡ clear_preset (text_in ff (codes "clear_preset_var2")) →
    e ≡ [] → IsRegisterOf names pins (Some ff) (register_with next clock clear preset (iq, iqn))
register_is names pins ff has_clear has_preset next clock clear preset iq iqn b c d e ce pe q r s nu ku cu pu iqe iqne none =
    let none_d = none_before _ d e s none in
    let none_c = none_before _ c d r none_d in
    let none_b = none_before _ b c q none_c in
    let values : (iq, iqn) ≡ both_of ff = ap (λ x. (x, iqn)) iqe ∙ ap (λ x. (clear_preset (text_in ff (codes "clear_preset_var1")), x)) iqne in
    register_made names pins ff next clock clear preset (iq, iqn) (nu none_b) (ku none_c)
    (subst (λ x. IsUsed (use_of pins ff (codes "clear")) x clear) ce (cu none_d)) (subst (λ x. IsUsed (use_of pins ff (codes "preset")) x preset) pe (pu none)) values

-- switches
pub range_more : {A : Type 0} (f : ℕ → A) (first place : ℕ) → first ≤ place → map f (range_with_len first (place + 1 - first)) ≡ map f (range_with_len first (place - first)) ++ f place ∷ []
range_more f first place le =
    let e : place + 1 - first ≡ (place - first) + 1 = omega arith in
    let s : first + (place - first) ≡ place = omega arith in
    ap (λ n. map f (range_with_len first n)) e ∙ map-range_with_len_more f first (place - first) place s

pub range_judged : (names : List (List ℕ)) (g : Group) (first place : ℕ) (a b c : List Found) → first ≤ place →
    Judges (map (switch_use names) (map (output_of g) (range_with_len first (place - first)))) a b → Judges (switch_use names (output_of g place) ∷ []) b c →
    Judges (map (switch_use names) (map (output_of g) (range_with_len first (place + 1 - first)))) a c
range_judged names g first place a b c le p q =
    let before = map (output_of g) (range_with_len first (place - first)) in
    let split : map (switch_use names) (map (output_of g) (range_with_len first (place + 1 - first))) ≡ map (switch_use names) before ++ switch_use names (output_of g place) ∷ [] =
    ap (map (switch_use names)) (range_more (output_of g) first place le) ∙ map-append (switch_use names) before (output_of g place ∷ []) in
    subst (λ us. Judges us a c) (sym split) (judges_more (map (switch_use names) before) (switch_use names (output_of g place) ∷ []) a b c p q)

pub range_added : (names : List (List ℕ)) (pgs : List Pg) (g : Group) (first place : ℕ) (b c : List Found) (old mid new : List CellSwitch) → first ≤ place →
    Judges (switch_use names (output_of g place) ∷ []) b c →
    (b ≡ [] → Adds Output CellSwitch (IsSwitch names pgs) (map (output_of g) (range_with_len first (place - first))) old mid) →
    (c ≡ [] → Adds Output CellSwitch (IsSwitch names pgs) (output_of g place ∷ []) mid new) →
    c ≡ [] → Adds Output CellSwitch (IsSwitch names pgs) (map (output_of g) (range_with_len first (place + 1 - first))) old new
range_added names pgs g first place b c old mid new le j before here none =
    subst (λ xs. Adds Output CellSwitch (IsSwitch names pgs) xs old new) (sym (range_more (output_of g) first place le))
    (adds_more (IsSwitch names pgs) (map (output_of g) (range_with_len first (place - first))) (output_of g place ∷ []) old mid new (before (none_before _ b c j none)) (here none))

-- one more group of switches
pub switching_step : (names : List (List ℕ)) (pgs : List Pg) (groups : List Group) (i : ℕ) (g : Group) (old b c : List Found) (place behind : ℕ) (mid new : List CellSwitch) →
    i < length groups → g ≡ get_or groups i g → behind ≡ place + count_pgs g → Judges (map (switch_use names) (outputs_in place g)) b c →
    (c ≡ [] → Adds Output CellSwitch (IsSwitch names pgs) (outputs_in place g) mid new) →
    IsSwitching names pgs groups old place (drop i groups) b mid → IsSwitching names pgs groups old behind (drop (i + 1) groups) c new
switching_step names pgs groups i g old b c place behind mid new lt e f j added h =
    let rest = drop (i + 1) groups in
    let next : drop i groups ≡ g ∷ rest = drop-next i groups g lt ∙ ap (λ x. x ∷ rest) (sym e) in record {
      before = h.before ++ outputs_in place g;
      are =
          h.are ∙ ap (λ gs. h.before ++ outputs_from place gs) next ∙ sym (append_assoc h.before (outputs_in place g) (outputs_from (place + count_pgs g) rest))
          ∙ ap (λ n. (h.before ++ outputs_in place g) ++ outputs_from n rest) (sym f);
      judged =
          subst (λ us. Judges us old c) (sym (map-append (switch_use names) h.before (outputs_in place g)))
          (judges_more (map (switch_use names) h.before) (map (switch_use names) (outputs_in place g)) old b c h.judged j);
      made = λ none. adds_more (IsSwitch names pgs) h.before (outputs_in place g) [] mid new (h.made (none_before _ b c j none)) (added none);
    }

-- retention: the pins of a group are one after the other
step_some : (o : Option Attr) (place : ℕ) (rest : Option RetentionPin) (a : Attr) → o ≡ Some a → cond (is_some o) (retention_pin_by place o) rest ≡ retention_pin_by place (Some a)
step_some o place rest a e = ap (λ x. cond (is_some x) (retention_pin_by place x) rest) e

step_none : (o : Option Attr) (place : ℕ) (rest : Option RetentionPin) → o ≡ None → cond (is_some o) (retention_pin_by place o) rest ≡ rest
step_none o place rest e = ap (λ x. cond (is_some x) (retention_pin_by place x) rest) e

no_pin : (class : List ℕ) (place : ℕ) (g : Group) (names : List (List ℕ)) → find (has_class class) (out-Group g).attrs ≡ None → retention_pin_from class place (map (pin_of g) names) ≡ None
no_pin class place g [] e = refl
no_pin class place g (name ∷ names) e = step_none (find (has_class class) (out-Group g).attrs) place _ e ∙ no_pin class (place + 1) g names e

some_pin : (class : List ℕ) (place : ℕ) (g : Group) (names : List (List ℕ)) (a : Attr) → (length names ≡ 0 → ⊥) → find (has_class class) (out-Group g).attrs ≡ Some a →
    retention_pin_from class place (map (pin_of g) names) ≡ retention_pin_by place (Some a)
some_pin class place g [] a full e = absurd (full refl)
some_pin class place g (name ∷ names) a full e = step_some (find (has_class class) (out-Group g).attrs) place _ a e

pub no_pin_in : (b : Bool) (class : List ℕ) (place : ℕ) (g : Group) → find (has_class class) (out-Group g).attrs ≡ None → retention_pin_from class place (cond b (map (pin_of g) (out-Group g).args) []) ≡ None
no_pin_in true class place g e = no_pin class place g (out-Group g).args e
no_pin_in false class place g e = refl

pub some_pin_in : (b : Bool) (class : List ℕ) (place : ℕ) (g : Group) (a : Attr) → (length (cond b (map (pin_of g) (out-Group g).args) []) ≡ 0 → ⊥) → find (has_class class) (out-Group g).attrs ≡ Some a →
    retention_pin_from class place (cond b (map (pin_of g) (out-Group g).args) []) ≡ retention_pin_by place (Some a)
some_pin_in true class place g a full e = some_pin class place g (out-Group g).args a (λ z. full (length-map (out-Group g).args (pin_of g) ∙ z)) e
some_pin_in false class place g a full e = absurd (full refl)

pub empty_pins : (class : List ℕ) (place : ℕ) (pins : List Pin) → length pins ≡ 0 → retention_pin_from class place pins ≡ None
empty_pins class place [] e = refl
empty_pins class place (p ∷ pins) e = absurd (omega arith)

-- the first of some pins, or of those behind them
abbrev pub first_pin : Option RetentionPin → Option RetentionPin → Option RetentionPin
first_pin None later = later
first_pin (Some p) later = Some p

first_step : (o : Option Attr) (place : ℕ) (rest more all : Option RetentionPin) → all ≡ first_pin rest more →
    cond (is_some o) (retention_pin_by place o) all ≡ first_pin (cond (is_some o) (retention_pin_by place o) rest) more
first_step None place rest more all e = e
first_step (Some a) place rest more all e = refl

pub pins_append : (class : List ℕ) (place : ℕ) (xs ys : List Pin) → retention_pin_from class place (xs ++ ys) ≡ first_pin (retention_pin_from class place xs) (retention_pin_from class (place + length xs) ys)
pins_append class place [] ys = ap (λ n. retention_pin_from class n ys) (omega arith)
pins_append class place (p ∷ xs) ys =
    let later = pins_append class (place + 1) xs ys in
    let n : (place + 1) + length xs ≡ place + suc (length xs) = omega arith in
    first_step (find (has_class class) (out-Group p.group).attrs) place (retention_pin_from class (place + 1) xs) (retention_pin_from class (place + suc (length xs)) ys) (retention_pin_from class (place + 1) (xs ++ ys))
    (later ∙ ap (λ k. first_pin (retention_pin_from class (place + 1) xs) (retention_pin_from class k ys)) n)

pub next_pins : (class : List ℕ) (place i : ℕ) (groups : List Group) (g : Group) → i < length groups → g ≡ get_or groups i g →
    retention_pin_from class place (pins_of (drop i groups)) ≡ first_pin (retention_pin_from class place (pins_in g)) (retention_pin_from class (place + length (pins_in g)) (pins_of (drop (i + 1) groups)))
next_pins class place i groups g lt e =
    let rest = drop (i + 1) groups in
    ap (λ gs. retention_pin_from class place (pins_of gs)) (drop-next i groups g lt ∙ ap (λ x. x ∷ rest) (sym e)) ∙ pins_append class place (pins_in g) (pins_of rest)

is_none_of : (o : Option RetentionPin) → is_some o ≡ false → o ≡ None
is_none_of None h = refl
is_none_of (Some p) h = cc

first_found : (o later : Option RetentionPin) → is_some o ≡ true → first_pin o later ≡ o
first_found (Some p) later h = refl
first_found None later h = cc

-- no pin of a group is one, or one of them is
pub go_on : (class : List ℕ) (place behind i : ℕ) (groups : List Group) (g : Group) (found : Option RetentionPin) → i < length groups → g ≡ get_or groups i g →
    found ≡ retention_pin_from class place (pins_in g) → is_some found ≡ false → behind ≡ place + length (pins_in g) →
    retention_pin_from class place (pins_of (drop i groups)) ≡ retention_pin_from class behind (pins_of (drop (i + 1) groups))
go_on class place behind i groups g found lt e f none b =
    let rest = pins_of (drop (i + 1) groups) in
    next_pins class place i groups g lt e ∙ ap (λ o. first_pin o (retention_pin_from class (place + length (pins_in g)) rest)) (sym f ∙ is_none_of found none) ∙ ap (λ n. retention_pin_from class n rest) (sym b)

pub stop_here : (class : List ℕ) (place i : ℕ) (groups : List Group) (g : Group) (found : Option RetentionPin) → i < length groups → g ≡ get_or groups i g →
    found ≡ retention_pin_from class place (pins_in g) → is_some found ≡ true → retention_pin_from class place (pins_of (drop i groups)) ≡ found
stop_here class place i groups g found lt e f some =
    let rest = pins_of (drop (i + 1) groups) in
    let later = retention_pin_from class (place + length (pins_in g)) rest in
    next_pins class place i groups g lt e ∙ ap (λ o. first_pin o later) (sym f) ∙ first_found found later some

-- faults, of which none is the earliest
later_some : (f : Found) (e : Option Found) → no_later f e ≡ None → ⊥
later_some f None h = cc
later_some f (Some e) h = choose (leb f.place e.place) h
  where
    choose : (b : Bool) → cond b (Some f) (Some e) ≡ None → ⊥
    choose true h = cc
    choose false h = cc

pub none_earliest : (fs : List Found) → earliest fs ≡ None → fs ≡ []
none_earliest [] h = refl
none_earliest (f ∷ fs) h = absurd (later_some f (earliest_with fs None) h)
