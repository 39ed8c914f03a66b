-- A library and a name have one outcome.
use Rattle.pe_cells.specs.WellFormed.{IsWellFormed}
use Rattle.pe_cells.proofs.Formed.{well_formed}
use Rattle.std.proofs.Common.{◌≡◌, ◌⊎◌, inl, inr, ℕ, Bool, true, false, List, [], ◌∷◌, ◌++◌, Option, Some, None, Result, Ok, Err, refl, sym, ap, ◌∙◌, subst}
use Rattle.std.specs.Prelude.{IfOk, IfErr}
use Rattle.std.specs.List.{AllZip}
use Rattle.pe_bool_expr.specs.declared.expr.Expr.{Expr}
use Rattle.pe_bool_expr.specs.declared.style.Style.TheVariants.{Liberty}
use Rattle.pe_bool_expr.proofs.Outcomes.{one_outcome as one_reading}
use Rattle.pe_liberty_read.specs.declared.tree.Group.{Group, out-Group}
use Rattle.pe_cells.specs.declared.cell.CellRegister.{CellRegister}
use Rattle.pe_cells.specs.declared.cell.CellSwitch.{CellSwitch}
use Rattle.pe_cells.specs.declared.cell.CellView.{CellView}
use Rattle.pe_cells.specs.declared.cell.Pg.{Pg}
use Rattle.pe_cells.specs.declared.cell.Signal.{Signal}
use Rattle.pe_cells.specs.declared.fault.CellFault.{CellFault}
use Rattle.pe_cells.specs.declared.fault.CellFault.TheVariants.{Memory, NoCell, CellForm, Expression}
use Rattle.pe_cells.specs.declared.form.Found.{Found}
use Rattle.pe_cells.specs.Form.{earliest, form_faults}
use Rattle.pe_cells.specs.Functions.{Use, Says, IsUsed, AreJudged, faults_by}
use Rattle.pe_cells.specs.Kinds.{pgs_of}
use Rattle.pe_cells.specs.Looking.{cell_in, text_in}
use Rattle.pe_cells.specs.Naming.{Pin, all_names, pin_names}
use Rattle.pe_cells.specs.Viewing.{Output, IsSignal, IsRegisterOf, IsSwitch, IsViewOf, IsFormFault, IsFunctionFault, IsView, IsRefusal, IsOutcome, IsAnswer, uses_of}

pub AllZip-one : {A B : Type 0} (R : A → B → Type 0) → ((x : A) (y z : B) → R x y → R x z → y ≡ z) → (xs : List A) (ys zs : List B) → AllZip R xs ys → AllZip R xs zs → ys ≡ zs
AllZip-one R one [] [] [] p q = refl
AllZip-one R one [] [] (z ∷ zs) p q = absurd q
AllZip-one R one [] (y ∷ ys) zs p q = absurd p
AllZip-one R one (x ∷ xs) [] zs p q = absurd p
AllZip-one R one (x ∷ xs) (y ∷ ys) [] p q = absurd q
AllZip-one R one (x ∷ xs) (y ∷ ys) (z ∷ zs) p q = ap (λ w. w ∷ ys) (one x y z p.0 q.0) ∙ ap (λ ws. z ∷ ws) (AllZip-one R one xs ys zs p.1 q.1)

-- a function is one
one_said : (u : Use) (e f : Expr) → Says u e → Says u f → e ≡ f
one_said u e f p q = let same = one_reading Liberty u.names (text_in u.group u.attribute) (Ok e) (Ok f) p q in cc

one_used : (u : Use) (b : Bool) (o p : Option Expr) → IsUsed u b o → IsUsed u b p → o ≡ p
one_used u true (Some e) (Some f) h k = ap (λ v. Some v) (one_said u e f h k)
one_used u true (Some e) None h k = absurd k
one_used u true None p h k = absurd h
one_used u false o p h k = h ∙ sym k

one_judged : (us : List Use) (fs gs : List Found) → AreJudged us fs → AreJudged us gs → fs ≡ gs
one_judged [] fs gs p q = p ∙ sym q
one_judged (u ∷ us) fs gs p q =
    let same = one_reading Liberty u.names (text_in u.group u.attribute) p.3.outcome q.3.outcome p.3.holds q.3.holds in
    let here : p.0 ≡ q.0 = p.3.are ∙ ap (faults_by u) same ∙ sym q.3.are in
    p.2 ∙ ap (λ x. x ++ p.1) here ∙ ap (λ x. q.0 ++ x) (one_judged us p.1 q.1 p.4 q.4) ∙ sym q.2

same_signal : (s t : Signal) → s.name ≡ t.name → s.output ≡ t.output → s.function ≡ t.function → s.down ≡ t.down → s.power ≡ t.power → s.ground ≡ t.ground → s ≡ t
same_signal s t a b c d e f =
    ap (λ x. record { name = x; output = s.output; function = s.function; down = s.down; power = s.power; ground = s.ground }) a
    ∙ ap (λ x. record { name = t.name; output = x; function = s.function; down = s.down; power = s.power; ground = s.ground }) b
    ∙ ap (λ x. record { name = t.name; output = t.output; function = x; down = s.down; power = s.power; ground = s.ground }) c
    ∙ ap (λ x. record { name = t.name; output = t.output; function = t.function; down = x; power = s.power; ground = s.ground }) d
    ∙ ap (λ x. record { name = t.name; output = t.output; function = t.function; down = t.down; power = x; ground = s.ground }) e
    ∙ ap (λ x. record { name = t.name; output = t.output; function = t.function; down = t.down; power = t.power; ground = x }) f

one_signal : (names : List (List ℕ)) (pgs : List Pg) (pin : Pin) (s t : Signal) → IsSignal names pgs pin s → IsSignal names pgs pin t → s ≡ t
one_signal names pgs pin s t p q =
    same_signal s t (p.name ∙ sym q.name) (p.output ∙ sym q.output) (one_used _ _ s.function t.function p.function q.function)
    (one_used _ _ s.down t.down p.down q.down) (p.power ∙ sym q.power) (p.ground ∙ sym q.ground)

same_register : (s t : CellRegister) → s.next ≡ t.next → s.clock ≡ t.clock → s.clear ≡ t.clear → s.preset ≡ t.preset → s.both ≡ t.both → s ≡ t
same_register s t a b c d e =
    ap (λ x. record { next = x; clock = s.clock; clear = s.clear; preset = s.preset; both = s.both }) a
    ∙ ap (λ x. record { next = t.next; clock = x; clear = s.clear; preset = s.preset; both = s.both }) b
    ∙ ap (λ x. record { next = t.next; clock = t.clock; clear = x; preset = s.preset; both = s.both }) c
    ∙ ap (λ x. record { next = t.next; clock = t.clock; clear = t.clear; preset = x; both = s.both }) d
    ∙ ap (λ x. record { next = t.next; clock = t.clock; clear = t.clear; preset = t.preset; both = x }) e

one_register : (names pins : List (List ℕ)) (ff : Option Group) (r s : Option CellRegister) → IsRegisterOf names pins ff r → IsRegisterOf names pins ff s → r ≡ s
one_register names pins None r s p q = p ∙ sym q
one_register names pins (Some ff) None s p q = absurd p
one_register names pins (Some ff) (Some r) None p q = absurd q
one_register names pins (Some ff) (Some r) (Some s) p q =
    ap (λ x. Some x)
    (same_register r s (one_said _ r.next s.next p.next q.next) (one_said _ r.clock s.clock p.clock q.clock) (one_used _ _ r.clear s.clear p.clear q.clear)
    (one_used _ _ r.preset s.preset p.preset q.preset) (p.both ∙ sym q.both))

one_switch : (names : List (List ℕ)) (pgs : List Pg) (o : Output) (s t : CellSwitch) → IsSwitch names pgs o s → IsSwitch names pgs o t → s ≡ t
one_switch names pgs o s t p q =
    ap (λ x. record { output = x; input = s.input; function = s.function }) (p.output ∙ sym q.output)
    ∙ ap (λ x. record { output = t.output; input = x; function = s.function }) (p.input ∙ sym q.input)
    ∙ ap (λ x. record { output = t.output; input = t.input; function = x }) (one_said _ s.function t.function p.function q.function)

pub one_cell_view : (cell : Group) (v w : CellView) → IsViewOf cell v → IsViewOf cell w → v ≡ w
one_cell_view cell v w p q =
    let names = all_names (out-Group cell).groups in
    let pgs = pgs_of (out-Group cell).groups in
    let signals = AllZip-one (IsSignal names pgs) (one_signal names pgs) _ v.signals w.signals p.signals q.signals in
    let switches = AllZip-one (IsSwitch names pgs) (one_switch names pgs) _ v.switches w.switches p.switches q.switches in
    let register = one_register names (pin_names (out-Group cell).groups) _ v.register w.register p.register q.register in
    ap (λ x. record { signals = x; pgs = v.pgs; register = v.register; retention = v.retention; switches = v.switches }) signals
    ∙ ap (λ x. record { signals = w.signals; pgs = x; register = v.register; retention = v.retention; switches = v.switches }) (p.pgs ∙ sym q.pgs)
    ∙ ap (λ x. record { signals = w.signals; pgs = w.pgs; register = x; retention = v.retention; switches = v.switches }) register
    ∙ ap (λ x. record { signals = w.signals; pgs = w.pgs; register = w.register; retention = x; switches = v.switches }) (p.retention ∙ sym q.retention)
    ∙ ap (λ x. record { signals = w.signals; pgs = w.pgs; register = w.register; retention = w.retention; switches = x }) switches

-- the three ways in which a cell is judged exclude one another
not_formed : (cell : Group) (a : List ℕ) → form_faults (pgs_of (out-Group cell).groups) cell ≡ [] → IsFormFault cell a → ⊥
not_formed cell a e p = let first = sym (ap earliest e) ∙ p.first in cc

not_read : (cell : Group) (a : List ℕ) → AreJudged (uses_of (out-Group cell).groups) [] → IsFunctionFault cell a → ⊥
not_read cell a e p = let same = one_judged (uses_of (out-Group cell).groups) [] p.faults e p.judged in let first = ap earliest same ∙ p.first in cc

one_form_fault : (cell : Group) (a b : List ℕ) → IsFormFault cell a → IsFormFault cell b → a ≡ b
one_form_fault cell a b p q = let same = sym p.first ∙ q.first in let fault : p.fault ≡ q.fault = cc in p.is ∙ ap (λ f. f.attribute) fault ∙ sym q.is

one_function_fault : (cell : Group) (a b : List ℕ) → IsFunctionFault cell a → IsFunctionFault cell b → a ≡ b
one_function_fault cell a b p q =
    let faults = one_judged (uses_of (out-Group cell).groups) p.faults q.faults p.judged q.judged in
    let same = sym p.first ∙ ap earliest faults ∙ q.first in
    let fault : p.fault ≡ q.fault = cc in
    p.is ∙ ap (λ f. f.attribute) fault ∙ sym q.is

-- of a cell that is there, one thing is so
one_answer : (cell : Group) (name : List ℕ) (a b : Result CellView CellFault) → (a ≡ Err Memory → ⊥) → (b ≡ Err Memory → ⊥) → IsAnswer cell name a → IsAnswer cell name b → a ≡ b
one_answer cell name (Ok v) (Ok w) m n p q = ap (λ x. Ok x) (one_cell_view cell v w p q)
one_answer cell name (Ok v) (Err Memory) m n p q = absurd (n refl)
one_answer cell name (Ok v) (Err (NoCell x)) m n p q = absurd q
one_answer cell name (Ok v) (Err (CellForm x a)) m n p q = absurd (not_formed cell a p.formed q.1)
one_answer cell name (Ok v) (Err (Expression x a)) m n p q = absurd (not_read cell a p.functions q.1)
one_answer cell name (Err Memory) b m n p q = absurd (m refl)
one_answer cell name (Err (NoCell x)) b m n p q = absurd p
one_answer cell name (Err (CellForm x a)) (Ok w) m n p q = absurd (not_formed cell a q.formed p.1)
one_answer cell name (Err (CellForm x a)) (Err Memory) m n p q = absurd (n refl)
one_answer cell name (Err (CellForm x a)) (Err (NoCell y)) m n p q = absurd q
one_answer cell name (Err (CellForm x a)) (Err (CellForm y b)) m n p q = ap (λ z. Err (CellForm z a)) (p.0 ∙ sym q.0) ∙ ap (λ z. Err (CellForm y z)) (one_form_fault cell a b p.1 q.1)
one_answer cell name (Err (CellForm x a)) (Err (Expression y b)) m n p q = absurd (not_formed cell a q.1.formed p.1)
one_answer cell name (Err (Expression x a)) (Ok w) m n p q = absurd (not_read cell a q.functions p.1)
one_answer cell name (Err (Expression x a)) (Err Memory) m n p q = absurd (n refl)
one_answer cell name (Err (Expression x a)) (Err (NoCell y)) m n p q = absurd q
one_answer cell name (Err (Expression x a)) (Err (CellForm y b)) m n p q = absurd (not_formed cell b p.1.formed q.1)
one_answer cell name (Err (Expression x a)) (Err (Expression y b)) m n p q = ap (λ z. Err (Expression z a)) (p.0 ∙ sym q.0) ∙ ap (λ z. Err (Expression y z)) (one_function_fault cell a b p.1 q.1)

-- what is so of a library is that the cell is not there, or is so of the cell
record Missing (library : Group) (name : List ℕ) (r : Result CellView CellFault) : Type 0 where
  none : cell_in library name ≡ None
  is : r ≡ Err (NoCell name)

record There (library : Group) (name : List ℕ) (r : Result CellView CellFault) : Type 0 where
  cell : Group
  found : cell_in library name ≡ Some cell
  answer : IsAnswer cell name r
  no_want : r ≡ Err Memory → ⊥

missing_or_there : (library : Group) (name : List ℕ) (r : Result CellView CellFault) → IsOutcome library name r → Missing library name r ⊎ There library name r
missing_or_there library name (Ok v) h = inr record { cell = h.0; found = h.1; answer = h.2; no_want = λ e. cc }
missing_or_there library name (Err Memory) h = absurd h
missing_or_there library name (Err (NoCell x)) h = inl record { none = h.1; is = ap (λ z. Err (NoCell z)) h.0 }
missing_or_there library name (Err (CellForm x a)) h = inr record { cell = h.1.0; found = h.1.1; answer = (h.0, h.1.2); no_want = λ e. cc }
missing_or_there library name (Err (Expression x a)) h = inr record { cell = h.1.0; found = h.1.1; answer = (h.0, h.1.2); no_want = λ e. cc }

pub one_outcome : (library : Group) (name : List ℕ) (a b : Result CellView CellFault) → IsOutcome library name a → IsOutcome library name b → a ≡ b
one_outcome library name a b p q = elim (missing_or_there library name a p) [
  | inl x ↦ elim (missing_or_there library name b q) [
    | inl y ↦ x.is ∙ sym y.is
    | inr y ↦ let e = sym x.none ∙ y.found in cc
  ]
  | inr x ↦ elim (missing_or_there library name b q) [
    | inl y ↦ let e = sym y.none ∙ x.found in cc
    | inr y ↦
        let e = sym x.found ∙ y.found in
        let same : x.cell ≡ y.cell = cc in
        one_answer y.cell name a b x.no_want y.no_want (subst (λ g. IsAnswer g name a) same x.answer) y.answer
  ]
]

-- what is answered to the cell that is there is the outcome, or want of memory
pub told : (library : Group) (name : List ℕ) (cell : Group) (r : Result CellView CellFault) → cell_in library name ≡ Some cell → IsAnswer cell name r → (r ≡ Err Memory) ⊎ IsOutcome library name r
told library name cell (Ok v) found h = inr (cell, found, h)
told library name cell (Err Memory) found h = inl refl
told library name cell (Err (NoCell x)) found h = absurd h
told library name cell (Err (CellForm x a)) found h = inr (h.0, (cell, found, h.1))
told library name cell (Err (Expression x a)) found h = inr (h.0, (cell, found, h.1))

pub exact : (library : Group) (name : List ℕ) (answer r : Result CellView CellFault) → (answer ≡ Err Memory) ⊎ IsOutcome library name answer → IsOutcome library name r → (answer ≡ r) ⊎ (answer ≡ Err Memory)
exact library name answer r h p = elim h [ inl e ↦ inr e | inr q ↦ inl (one_outcome library name answer r q p) ]

not_want : (v : CellView) → Ok v ≡ Err Memory → ⊥
not_want v e = cc

-- what a caller is told
pub found_of : (library : Group) (name : List ℕ) (r : Result CellView CellFault) → (r ≡ Err Memory) ⊎ IsOutcome library name r → IfOk r (IsView library name)
found_of library name (Ok v) h = elim h [ inl e ↦ absurd (not_want v e) | inr q ↦ q ]
found_of library name (Err f) h = tt

pub refused_of : (library : Group) (name : List ℕ) (r : Result CellView CellFault) → (r ≡ Err Memory) ⊎ IsOutcome library name r → IfErr r (IsRefusal library name)
refused_of library name (Ok v) h = tt
refused_of library name (Err Memory) h = tt
refused_of library name (Err (NoCell x)) h = elim h [ inl e ↦ cc | inr q ↦ q ]
refused_of library name (Err (CellForm x a)) h = elim h [ inl e ↦ cc | inr q ↦ q ]
refused_of library name (Err (Expression x a)) h = elim h [ inl e ↦ cc | inr q ↦ q ]

pub formed_of : (cell : Group) (name : List ℕ) (r : Result CellView CellFault) → IsAnswer cell name r → IfOk r IsWellFormed
formed_of cell name (Ok v) h = well_formed cell v h
formed_of cell name (Err f) h = tt
