-- The view of a cell is well formed.
use Rattle.std.proofs.Common.{◌≡◌, ℕ, zero, suc, ◌+◌, ◌-◌, ◌<◌, ◌≤◌, Bool, true, false, cond, not, ◌&&◌, List, [], ◌∷◌, ◌++◌, length, get_or, Option, Some, None, refl, sym, ap, ◌∙◌, subst, length-append, arith}
use Rattle.std.specs.Prelude.{map, find, is_some, slice_get, IfSome, codes}
use Rattle.std.specs.List.{All, AllZip, flat_map, range_with_len}
use Rattle.std.specs.Str.{bytes_eq}
use Rattle.std.proofs.Math.ListN.{get_or-append}
use Rattle.std.proofs.Math.Seq.{get_or-append_right}
use Rattle.std.proofs.lemmas.List.{length-map, length-take}
use Rattle.std.proofs.lemmas.List.Elements.{All-cons, All-nil}
use Rattle.std.proofs.lemmas.Slice.Eq.{bytes_eq-Decides}
use Rattle.std.proofs.lemmas.Slice.Zip.{AllZip-long}
use Rattle.pe_bool_expr.specs.declared.expr.Expr.{Expr}
use Rattle.pe_bool_expr.specs.Functions.{pins_of as numbers_of}
use Rattle.pe_liberty_read.specs.declared.tree.Attr.{Attr}
use Rattle.pe_liberty_read.specs.declared.tree.Group.{Group, out-Group}
use Rattle.pe_cells.specs.declared.cell.CellRegister.{CellRegister}
use Rattle.pe_cells.specs.declared.cell.CellSwitch.{CellSwitch}
use Rattle.pe_cells.specs.declared.cell.CellView.{CellView}
use Rattle.pe_cells.specs.declared.cell.Pg.{Pg}
use Rattle.pe_cells.specs.declared.cell.RetentionPin.{RetentionPin}
use Rattle.pe_cells.specs.declared.cell.Signal.{Signal}
use Rattle.pe_cells.specs.Form.{checked, checked_name, found_if, first_ff, form_faults, group_faults, pg_faults, pin_faults, related_faults, direction_faults, retention_faults, excluded_in, has_type, has_internal, has_class}
use Rattle.pe_cells.specs.Functions.{use_of, Says, IsUsed}
use Rattle.pe_cells.specs.Kinds.{is_pg_pin, is_pin, is_well, is_open, is_open_pg, pg_named, pgs_of, pgs_in}
use Rattle.pe_cells.specs.Looking.{has_attr, text_in, place_in}
use Rattle.pe_cells.specs.Naming.{Pin, pin_of, pins_in, pins_of, signal_names, signal_names_in, pg_word, pg_words, pin_names, state_names, all_names}
use Rattle.pe_cells.specs.Viewing.{Output, output_of, IsSignal, IsRegisterOf, IsSwitch, IsViewOf, pg_place, related_in, outputs_in, outputs_from, outputs_of, count_pgs, is_switch, retention_pin_by, retention_pin_from, retention_pin}
use Rattle.pe_cells.specs.WellFormed.{IsOpenPlace, IsPin, IsPinOrState, IsFunctionOf, IsPinFunctionOf, IsSignalOf, IsRegisterIn, IsRetentionPinOf, IsRetentionOf, IsSwitchOf, IsWellFormed, state_count, pin_count}
use Rattle.pe_cells.proofs.Additions.{front_nil}
use Rattle.pe_cells.proofs.Pins.{Each, each-append}
use Rattle.pe_cells.proofs.Words.{IsNamed, named_pins}

back_nil : {A : Type 0} (xs ys : List A) → xs ++ ys ≡ [] → ys ≡ []
back_nil [] ys h = h
back_nil (x ∷ xs) ys h = cc

-- lists of which each item is so
all-each : {A : Type 0} (P Q : A → Type 0) → ((x : A) → P x → Q x) → (xs : List A) → Each P xs → All Q xs
all-each P Q f [] p = All-nil Q
all-each P Q f (x ∷ xs) p = All-cons Q x xs (f x p.0) (all-each P Q f xs p.1)

each-map : {A B : Type 0} (P : B → Type 0) (f : A → B) (xs : List A) → ((x : A) → P (f x)) → Each P (map f xs)
each-map P f [] h = tt
each-map P f (x ∷ xs) h = (h x, each-map P f xs h)

each-flat_map : {A B : Type 0} (P : A → Type 0) (Q : B → Type 0) (f : A → List B) → ((x : A) → P x → Each Q (f x)) → (xs : List A) → Each P xs → Each Q (flat_map f xs)
each-flat_map P Q f g [] p = tt
each-flat_map P Q f g (x ∷ xs) p = each-append Q (f x) (flat_map f xs) (g x p.0) (each-flat_map P Q f g xs p.1)

none_each : {A B : Type 0} (f : A → List B) (xs : List A) → flat_map f xs ≡ [] → Each (λ x. f x ≡ []) xs
none_each f [] h = tt
none_each f (x ∷ xs) h = (front_nil (f x) (flat_map f xs) h, none_each f xs (back_nil (f x) (flat_map f xs) h))

zip_all : {A B : Type 0} (P : A → Type 0) (R : A → B → Type 0) (Q : B → Type 0) → ((x : A) (y : B) → P x → R x y → Q y) → (xs : List A) (ys : List B) → Each P xs → AllZip R xs ys → All Q ys
zip_all P R Q f [] [] p r = All-nil Q
zip_all P R Q f [] (y ∷ ys) p r = absurd r
zip_all P R Q f (x ∷ xs) [] p r = absurd r
zip_all P R Q f (x ∷ xs) (y ∷ ys) p r = All-cons Q y ys (f x y p.0 r.0) (zip_all P R Q f xs ys p.1 r.1)

-- an attribute that is not wrong is right where it is there
right_if : (has needed right : Bool) (at : ℕ) (name : List ℕ) → found_if (cond has (not right) needed) at name ≡ [] → has ≡ true → right ≡ true
right_if true needed true at name h e = refl
right_if true needed false at name h e = cc
right_if false needed right at name h e = cc

name_open : (pgs : List Pg) (g : Group) (name : List ℕ) (needed : Bool) → checked_name pgs g name needed ≡ [] → has_attr g name ≡ true → is_open pgs (text_in g name) ≡ true
unfolding checked checked_name
name_open pgs g name needed h e = right_if (has_attr g name) needed (is_open pgs (text_in g name)) (place_in g name) name h e

place_step : (b : Bool) (pg : Pg) (pgs : List Pg) (n : ℕ) (rest : Option Pg) → is_open_pg (cond b (Some pg) rest) ≡ true → (is_open_pg rest ≡ true → is_open_pg (slice_get pgs n) ≡ true) →
    is_open_pg (slice_get (pg ∷ pgs) (cond b 0 (1 + n))) ≡ true
place_step true pg pgs n rest h later = h
place_step false pg pgs n rest h later = let e : 1 + n ≡ suc n = omega arith in subst (λ k. is_open_pg (slice_get (pg ∷ pgs) k) ≡ true) (sym e) (later h)

open_named : (pgs : List Pg) (name : List ℕ) → is_open_pg (pg_named pgs name) ≡ true → is_open_pg (slice_get pgs (pg_place pgs name)) ≡ true
open_named [] name h = cc
open_named (pg ∷ pgs) name h = place_step (bytes_eq pg.name name) pg pgs (pg_place pgs name) (pg_named pgs name) h (open_named pgs name)

open_place : (pgs : List Pg) (name : List ℕ) → is_open pgs name ≡ true → is_open_pg (slice_get pgs (pg_place pgs name)) ≡ true
unfolding is_open
open_place pgs name h = open_named pgs name h

abbrev IsOpenIn : List Pg → ℕ → Type 0
IsOpenIn pgs place = is_open_pg (slice_get pgs place) ≡ true

related_if : (pgs : List Pg) (has : Bool) (name : List ℕ) → (has ≡ true → is_open pgs name ≡ true) → IfSome (cond has (Some (pg_place pgs name)) None) (IsOpenIn pgs)
related_if pgs true name h = open_place pgs name (h refl)
related_if pgs false name h = tt

related_open : (pgs : List Pg) (g : Group) (name : List ℕ) → checked_name pgs g name false ≡ [] → IfSome (related_in pgs g name) (IsOpenIn pgs)
related_open pgs g name h = related_if pgs (has_attr g name) (text_in g name) (name_open pgs g name false h)

-- a group of a signal pin is none of a power or ground pin
not_pg : (g : Group) → is_pin g ≡ true → is_pg_pin g ≡ false
not_pg g h = let e = (bytes_eq-Decides (out-Group g).kind (codes "pin")).0 h in ap (λ k. bytes_eq k (codes "pg_pin")) e

-- nothing is wrong with a signal pin's related pins
abbrev IsRelated : List Pg → Group → Type 0
IsRelated pgs g = related_faults pgs g ≡ []

pin_related : (pgs : List Pg) (g : Group) → pin_faults pgs g ≡ [] → IsRelated pgs g
pin_related pgs g h = back_nil (direction_faults g) (related_faults pgs g) (front_nil (direction_faults g ++ related_faults pgs g) (retention_faults (out-Group g).attrs) h)

group_related : (pgs : List Pg) (g : Group) → group_faults pgs g ≡ [] → is_pin g ≡ true → IsRelated pgs g
group_related pgs g h e =
    let f : group_faults pgs g ≡ excluded_in g ++ pin_faults pgs g = ap (λ b. cond b (pg_faults pgs g) (cond (is_pin g) (excluded_in g ++ pin_faults pgs g) [])) (not_pg g e) ∙ ap (λ b. cond b (excluded_in g ++ pin_faults pgs g) []) e in
    pin_related pgs g (back_nil (excluded_in g) (pin_faults pgs g) (sym f ∙ h))

pins_if : (b : Bool) (g : Group) (P : Pin → Type 0) → (b ≡ true → (name : List ℕ) → P (pin_of g name)) → Each P (cond b (map (pin_of g) (out-Group g).args) [])
pins_if true g P h = each-map P (pin_of g) (out-Group g).args (h refl)
pins_if false g P h = tt

pins_related : (pgs : List Pg) (g : Group) → group_faults pgs g ≡ [] → Each (λ pin. IsRelated pgs pin.group) (pins_in g)
pins_related pgs g h = pins_if (is_pin g) g (λ pin. IsRelated pgs pin.group) (λ e name. group_related pgs g h e)

-- nothing is wrong with the groups of a cell
groups_right : (pgs : List Pg) (cell : Group) → form_faults pgs cell ≡ [] → Each (λ g. group_faults pgs g ≡ []) (out-Group cell).groups
groups_right pgs cell h = none_each (group_faults pgs) (out-Group cell).groups (back_nil _ _ (front_nil _ _ (front_nil _ _ (front_nil _ _ (front_nil _ _ h)))))

-- the names of pins
word_open : (b : Bool) (other : Bool) (name : List ℕ) → (cond (not b && other) name [] ≡ [] → ⊥) → not b ≡ true
word_open true other name h = absurd (h refl)
word_open false other name h = refl

words_open : (all pgs : List Pg) (k : ℕ) → (get_or (map (pg_word all) pgs) k [] ≡ [] → ⊥) → IsOpenIn pgs k
words_open all [] k h = absurd (h refl)
words_open all (pg ∷ pgs) zero h = word_open (is_well pg.kind) (is_open all pg.name) pg.name h
words_open all (pg ∷ pgs) (suc k) h = words_open all pgs k h

count_if : (b : Bool) (g : Group) → length (cond b (map (pin_of g) (out-Group g).args) []) ≡ length (cond b (out-Group g).args [])
count_if true g = length-map (out-Group g).args _
count_if false g = refl

count_pins : (groups : List Group) → length (pins_of groups) ≡ length (signal_names groups)
count_pins [] = refl
count_pins (g ∷ groups) =
    length-append (pins_in g) (pins_of groups) ∙ ap (λ n. n + length (pins_of groups)) (count_if (is_pin g) g) ∙ ap (λ n. length (signal_names_in g) + n) (count_pins groups)
    ∙ sym (length-append (signal_names_in g) (signal_names groups))

-- what a switch drives is a pin that is there, and what it passes on is no well
record IsDriven (pgs : List Pg) (total : ℕ) (o : Output) : Type 0 where
  low : o.place < total
  input : IsOpenIn pgs (pg_place pgs (text_in o.group (codes "pg_function")))

range_driven : (pgs : List Pg) (total : ℕ) (g : Group) (place n : ℕ) → place + n ≤ total → IsOpenIn pgs (pg_place pgs (text_in g (codes "pg_function"))) →
    Each (IsDriven pgs total) (map (output_of g) (range_with_len place n))
range_driven pgs total g place zero le o = tt
range_driven pgs total g place (suc n) le o = (record { low = omega arith; input = o }, range_driven pgs total g (place + 1) n (omega arith) o)

three_true : (a b c d : Bool) → (a && (b && (c && d))) ≡ true → (a ≡ true) × (c ≡ true)
three_true true true true d h = (refl, refl)
three_true true true false d h = cc
three_true true false c d h = cc
three_true false b c d h = cc

switch_input : (pgs : List Pg) (g : Group) → group_faults pgs g ≡ [] → is_switch g ≡ true → IsOpenIn pgs (pg_place pgs (text_in g (codes "pg_function")))
switch_input pgs g h e =
    let s = three_true (is_pg_pin g) (has_internal g) (has_attr g (codes "pg_function")) (has_attr g (codes "switch_function")) e in
    let f : group_faults pgs g ≡ pg_faults pgs g = ap (λ b. cond b (pg_faults pgs g) (cond (is_pin g) (excluded_in g ++ pin_faults pgs g) [])) s.0 in
    let named = back_nil (checked g (codes "pg_type") true (has_type g)) (checked_name pgs g (codes "pg_function") (has_internal g)) (front_nil _ _ (sym f ∙ h)) in
    open_place pgs (text_in g (codes "pg_function")) (name_open pgs g (codes "pg_function") (has_internal g) named s.1)

outputs_if : (b : Bool) (pgs : List Pg) (total place : ℕ) (g : Group) → (b ≡ true → place + length (out-Group g).args ≤ total) → (b ≡ true → IsOpenIn pgs (pg_place pgs (text_in g (codes "pg_function")))) →
    Each (IsDriven pgs total) (cond b (map (output_of g) (range_with_len place (length (out-Group g).args))) [])
outputs_if true pgs total place g le o = range_driven pgs total g place (length (out-Group g).args) (le refl) (o refl)
outputs_if false pgs total place g le o = tt

pgs_if : (b : Bool) (g : Group) → length (cond b (pgs_in g) []) ≡ cond b (length (out-Group g).args) 0
pgs_if true g = length-map (out-Group g).args _
pgs_if false g = refl

args_if : (g : Group) → is_switch g ≡ true → length (out-Group g).args ≡ count_pgs g
args_if g e =
    let s = three_true (is_pg_pin g) (has_internal g) (has_attr g (codes "pg_function")) (has_attr g (codes "switch_function")) e in
    sym (ap (λ b. cond b (length (out-Group g).args) 0) s.0)

driven_from : (pgs : List Pg) (total place : ℕ) (groups : List Group) → place + length (pgs_of groups) ≤ total → Each (λ g. group_faults pgs g ≡ []) groups → Each (IsDriven pgs total) (outputs_from place groups)
driven_from pgs total place [] le h = tt
driven_from pgs total place (g ∷ groups) le h =
    let count : length (pgs_of (g ∷ groups)) ≡ count_pgs g + length (pgs_of groups) =
    length-append (cond (is_pg_pin g) (pgs_in g) []) (pgs_of groups) ∙ ap (λ n. n + length (pgs_of groups)) (pgs_if (is_pg_pin g) g) in
    each-append (IsDriven pgs total) (outputs_in place g) (outputs_from (place + count_pgs g) groups)
    (outputs_if (is_switch g) pgs total place g (λ e. omega (arith, args_if g e, count, le)) (switch_input pgs g h.0))
    (driven_from pgs total (place + count_pgs g) groups (omega (arith, count, le)) h.1)

module _ (cell : Group) (view : CellView) (h : IsViewOf cell view) where
  abbrev groups : List Group
  groups = (out-Group cell).groups

  abbrev pgs : List Pg
  pgs = pgs_of groups

  count_signals : length view.signals ≡ length (signal_names groups)
  count_signals = AllZip-long (IsSignal (all_names groups) pgs) (pins_of groups) view.signals h.signals ∙ count_pins groups

  count_words : length view.pgs ≡ length (pg_words pgs)
  count_words = ap length h.pgs ∙ sym (length-map pgs (pg_word pgs))

  count_names : pin_count view ≡ length (pin_names groups)
  count_names = omega (arith, count_signals, count_words, length-append (signal_names groups) (pg_words pgs))

  open_in_view : (k : ℕ) → IsOpenIn pgs k → IsOpenPlace view k
  open_in_view k o = subst (λ x. IsOpenIn x k) (sym h.pgs) o

  pin_named : (n : ℕ) → (get_or (pin_names groups) n [] ≡ [] → ⊥) → IsPin view n
  pin_named n full = λ le.
      let low : length (signal_names groups) ≤ n = omega (arith, count_signals) in
      let at = get_or-append_right (signal_names groups) (pg_words pgs) n [] low in
      let o = words_open pgs pgs (n - length (signal_names groups)) (λ e. full (at ∙ e)) in
      open_in_view (n - length view.signals) (subst (λ m. IsOpenIn pgs (n - m)) (sym count_signals) o)

  states_low : (ff : Option Group) (register : Option CellRegister) → IsRegisterOf (all_names groups) (pin_names groups) ff register → length (state_names ff) ≤ state_count register
  states_low None register r = omega arith
  states_low (Some ff) None r = absurd r
  states_low (Some ff) (Some register) r = omega (arith, length-take 2 (out-Group ff).args)

  any_named : (n : ℕ) → IsNamed (all_names groups) n → IsPinOrState view n
  any_named n (lt, full) = (
    λ low.
        let low_name : n < length (pin_names groups) = omega (arith, count_names) in
        pin_named n (λ e. full (get_or-append (pin_names groups) (state_names (first_ff groups)) [] n low_name ∙ e)),
    omega (arith, lt, count_names, length-append (pin_names groups) (state_names (first_ff groups)), states_low (first_ff groups) view.register h.register),
  )

  function_of : (g : Group) (attribute : List ℕ) (e : Expr) → Says (use_of (all_names groups) g attribute) e → IsFunctionOf view e
  function_of g attribute e s = record {
    few = s.2.few;
    named = all-each (IsNamed (all_names groups)) (IsPinOrState view) any_named (numbers_of e) (named_pins (all_names groups) (text_in g attribute) e s);
  }

  pin_function_of : (g : Group) (attribute : List ℕ) (e : Expr) → Says (use_of (pin_names groups) g attribute) e → IsPinFunctionOf view e
  pin_function_of g attribute e s = record {
    few = s.2.few;
    named = all-each (IsNamed (pin_names groups)) (IsPin view) (λ n p. pin_named n p.1) (numbers_of e) (named_pins (pin_names groups) (text_in g attribute) e s);
  }

  used_of : (g : Group) (attribute : List ℕ) (b : Bool) (o : Option Expr) → IsUsed (use_of (all_names groups) g attribute) b o → IfSome o (IsFunctionOf view)
  used_of g attribute true (Some e) u = function_of g attribute e u
  used_of g attribute true None u = tt
  used_of g attribute false o u = subst (λ x. IfSome x (IsFunctionOf view)) (sym u) tt

  used_pins : (g : Group) (attribute : List ℕ) (b : Bool) (o : Option Expr) → IsUsed (use_of (pin_names groups) g attribute) b o → IfSome o (IsPinFunctionOf view)
  used_pins g attribute true (Some e) u = pin_function_of g attribute e u
  used_pins g attribute true None u = tt
  used_pins g attribute false o u = subst (λ x. IfSome x (IsPinFunctionOf view)) (sym u) tt

  related_of : (o p : Option ℕ) → o ≡ p → IfSome p (IsOpenIn pgs) → IfSome o (IsOpenPlace view)
  related_of o p e i = let V : List Pg → Type 0 = λ x. IfSome o (IsOpenIn x) in subst V (sym h.pgs) (subst (λ x. IfSome x (IsOpenIn pgs)) (sym e) i)

  signal_of : (pin : Pin) (s : Signal) → IsRelated pgs pin.group → IsSignal (all_names groups) pgs pin s → IsSignalOf view s
  signal_of pin s r i =
      let g = pin.group in record {
        function = used_of g (codes "function") _ s.function i.function;
        down = used_of g (codes "power_down_function") _ s.down i.down;
        power = related_of s.power _ i.power (related_open pgs g (codes "related_power_pin") (front_nil _ _ r));
        ground = related_of s.ground _ i.ground (related_open pgs g (codes "related_ground_pin") (back_nil _ _ r));
      }

  signals_of : All (IsSignalOf view) view.signals
  signals_of =
      let each = each-flat_map (λ g. group_faults pgs g ≡ []) (λ pin. IsRelated pgs pin.group) pins_in (pins_related pgs) groups (groups_right pgs cell h.formed) in
      zip_all (λ pin. IsRelated pgs pin.group) (IsSignal (all_names groups) pgs) (IsSignalOf view) signal_of (pins_of groups) view.signals each h.signals

  register_of : (ff : Option Group) (register : Option CellRegister) → IsRegisterOf (all_names groups) (pin_names groups) ff register → IfSome register (IsRegisterIn view)
  register_of None register r = subst (λ x. IfSome x (IsRegisterIn view)) (sym r) tt
  register_of (Some ff) None r = absurd r
  register_of (Some ff) (Some register) r = record {
    next = function_of ff (codes "next_state") register.next r.next;
    clock = function_of ff (codes "clocked_on") register.clock r.clock;
    clear = used_pins ff (codes "clear") _ register.clear r.clear;
    preset = used_pins ff (codes "preset") _ register.preset r.preset;
  }

  -- retention pins
  pin_step : (o : Option Attr) (place : ℕ) (rest : Option RetentionPin) (n : ℕ) → place < n → IfSome rest (λ p. p.pin < n) → IfSome (cond (is_some o) (retention_pin_by place o) rest) (λ p. p.pin < n)
  pin_step None place rest n lt later = later
  pin_step (Some a) place rest n lt later = lt

  pin_below : (class : List ℕ) (place : ℕ) (pins : List Pin) (n : ℕ) → place + length pins ≤ n → IfSome (retention_pin_from class place pins) (λ p. p.pin < n)
  pin_below class place [] n le = tt
  pin_below class place (pin ∷ pins) n le =
      pin_step (find (has_class class) (out-Group pin.group).attrs) place (retention_pin_from class (place + 1) pins) n (omega arith) (pin_below class (place + 1) pins n (omega arith))

  class_below : (class : List ℕ) → IfSome (retention_pin class groups) (IsRetentionPinOf view)
  class_below class = pin_below class 0 (pins_of groups) (length view.signals) (omega (arith, count_signals, count_pins groups))

  retention_if : (b : Bool) → IfSome (cond b (Some (record { save = retention_pin (codes "save") groups; restore = retention_pin (codes "restore") groups })) None) (IsRetentionOf view)
  retention_if true = record { save = class_below (codes "save"); restore = class_below (codes "restore") }
  retention_if false = tt

  retention_is : IfSome view.retention (IsRetentionOf view)
  retention_is = subst (λ x. IfSome x (IsRetentionOf view)) (sym h.retention) (retention_if (has_attr cell (codes "retention_cell") && is_some (first_ff groups)))

  switch_of : (o : Output) (s : CellSwitch) → IsDriven pgs (length pgs) o → IsSwitch (all_names groups) pgs o s → IsSwitchOf view s
  switch_of o s d i = record {
    output = let count = ap length h.pgs in omega (arith, i.output, d.low, count);
    input = open_in_view s.input (subst (IsOpenIn pgs) (sym i.input) d.input);
    function = function_of o.group (codes "switch_function") s.function i.function;
  }

  pub well_formed : IsWellFormed view
  well_formed = record {
    signals = signals_of;
    register = register_of (first_ff groups) view.register h.register;
    retention = retention_is;
    switches =
        zip_all (IsDriven pgs (length pgs)) (IsSwitch (all_names groups) pgs) (IsSwitchOf view) switch_of (outputs_of groups) view.switches
        (driven_from pgs (length pgs) 0 groups (omega arith) (groups_right pgs cell h.formed)) h.switches;
  }
