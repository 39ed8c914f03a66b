-- The whole of a view, from its parts.
use Rattle.std.proofs.Common.{◌≡◌, ℕ, List, [], ◌++◌, Option, sym, ap, ◌∙◌, subst}
use Rattle.std.specs.Prelude.{map}
use Rattle.std.specs.List.{AllZip, flat_map}
use Rattle.pe_liberty_read.specs.declared.tree.Group.{Group, out-Group}
use Rattle.pe_cells.specs.declared.cell.CellRegister.{CellRegister}
use Rattle.pe_cells.specs.declared.cell.CellRetention.{CellRetention}
use Rattle.pe_cells.specs.declared.cell.CellSwitch.{CellSwitch}
use Rattle.pe_cells.specs.declared.cell.Pg.{Pg}
use Rattle.pe_cells.specs.declared.cell.Signal.{Signal}
use Rattle.pe_cells.specs.declared.form.Found.{Found}
use Rattle.pe_cells.specs.Form.{first_ff, form_faults}
use Rattle.pe_cells.specs.Functions.{Use, AreJudged, Judges}
use Rattle.pe_cells.specs.Kinds.{pgs_of}
use Rattle.pe_cells.specs.Naming.{pins_of, pin_names, all_names}
use Rattle.pe_cells.specs.Viewing.{IsSignal, signal_uses, IsRegisterOf, register_uses, IsSwitch, switch_use, outputs_of, retention_of, uses_of, IsViewOf}
use Rattle.pe_cells.proofs.Additions.{judges_more, none_before}

-- the functions of the signal pins, the register and the switches, over names as they were made
abbrev SignalUses : List (List ℕ) → List Group → List Use
SignalUses names groups = flat_map (signal_uses names) (pins_of groups)

abbrev SwitchUses : List (List ℕ) → List Group → List Use
SwitchUses names groups = map (switch_use names) (outputs_of groups)

pub all_judged : (groups : List Group) (names pins : List (List ℕ)) (a b c d : List Found) → names ≡ all_names groups → pins ≡ pin_names groups → a ≡ [] →
    Judges (SignalUses names groups) a b → Judges (register_uses names pins (first_ff groups)) b c → Judges (SwitchUses names groups) c d → AreJudged (uses_of groups) d
all_judged groups names pins a b c d n m e p q r =
    let whole = judges_more (SignalUses names groups ++ register_uses names pins (first_ff groups)) (SwitchUses names groups) a c d (judges_more (SignalUses names groups) (register_uses names pins (first_ff groups)) a b c p q) r in
    let P : List (List ℕ) → List (List ℕ) → Type 0 = λ x y. AreJudged (SignalUses x groups ++ register_uses x y (first_ff groups) ++ SwitchUses x groups) d in
    let faults = sym (whole.added ∙ ap (λ x. x ++ whole.faults) e) in
    subst (λ x. P x (pin_names groups)) n (subst (λ y. P names y) m (subst (λ x. AreJudged (SignalUses names groups ++ register_uses names pins (first_ff groups) ++ SwitchUses names groups) x) faults whole.judged))

pub all_viewed : (cell : Group) (names pins : List (List ℕ)) (pgs : List Pg) (signals : List Signal) (register : Option CellRegister) (retention : Option CellRetention) (switches : List CellSwitch) (a b c d : List Found) →
    let groups = (out-Group cell).groups in
    names ≡ all_names groups → pins ≡ pin_names groups → pgs ≡ pgs_of groups → form_faults (pgs_of groups) cell ≡ [] → AreJudged (uses_of groups) d →
    Judges (register_uses names pins (first_ff groups)) b c → Judges (SwitchUses names groups) c d →
    (b ≡ [] → AllZip (IsSignal names pgs) (pins_of groups) signals) → (c ≡ [] → IsRegisterOf names pins (first_ff groups) register) → (d ≡ [] → AllZip (IsSwitch names pgs) (outputs_of groups) switches) →
    retention ≡ retention_of cell → d ≡ [] →
    IsViewOf cell (record { signals = signals; pgs = pgs; register = register; retention = retention; switches = switches })
all_viewed cell names pins pgs signals register retention switches a b c d n m g formed judged q r si re sw ke none =
    let groups : List Group = (out-Group cell).groups in
    let none_c = none_before _ c d r none in
    let none_b = none_before _ b c q none_c in
    let S : List (List ℕ) → List Pg → Type 0 = λ x y. AllZip (IsSignal x y) (pins_of groups) signals in
    let W : List (List ℕ) → List Pg → Type 0 = λ x y. AllZip (IsSwitch x y) (outputs_of groups) switches in
    let R : List (List ℕ) → List (List ℕ) → Type 0 = λ x y. IsRegisterOf x y (first_ff groups) register in record {
      formed = formed;
      functions = subst (AreJudged (uses_of groups)) none judged;
      signals = subst (λ y. S (all_names groups) y) g (subst (λ x. S x pgs) n (si none_b));
      pgs = g;
      register = subst (λ x. R x (pin_names groups)) n (subst (λ y. R names y) m (re none_c));
      retention = ke;
      switches = subst (λ y. W (all_names groups) y) g (subst (λ x. W x pgs) n (sw none));
    }

-- what the parts were made from is what they are made from
pub signals_moved : (groups gs : List Group) (n m : List (List ℕ)) (a b : List Found) → gs ≡ groups → n ≡ m → Judges (SignalUses n gs) a b → Judges (SignalUses m groups) a b
signals_moved groups gs n m a b g e p = subst (λ x. Judges (SignalUses x groups) a b) e (subst (λ x. Judges (SignalUses n x) a b) g p)

pub switches_moved : (groups gs : List Group) (n m : List (List ℕ)) (a b : List Found) → gs ≡ groups → n ≡ m → Judges (SwitchUses n gs) a b → Judges (SwitchUses m groups) a b
switches_moved groups gs n m a b g e p = subst (λ x. Judges (SwitchUses x groups) a b) e (subst (λ x. Judges (SwitchUses n x) a b) g p)

pub register_moved : (groups gs : List Group) (n m p q : List (List ℕ)) (a b : List Found) → gs ≡ groups → n ≡ m → p ≡ q → Judges (register_uses n p (first_ff gs)) a b → Judges (register_uses m q (first_ff groups)) a b
register_moved groups gs n m p q a b g e f h =
    subst (λ x. Judges (register_uses m x (first_ff groups)) a b) f (subst (λ x. Judges (register_uses x p (first_ff groups)) a b) e (subst (λ x. Judges (register_uses n p (first_ff x)) a b) g h))

pub signals_are : (groups gs : List Group) (n m : List (List ℕ)) (p q : List Pg) (signals : List Signal) → gs ≡ groups → n ≡ m → p ≡ q → AllZip (IsSignal n p) (pins_of gs) signals → AllZip (IsSignal m q) (pins_of groups) signals
signals_are groups gs n m p q signals g e f h =
    let S : List (List ℕ) → List Pg → List Group → Type 0 = λ x y z. AllZip (IsSignal x y) (pins_of z) signals in
    subst (λ y. S m y groups) f (subst (λ x. S x p groups) e (subst (λ z. S n p z) g h))

pub switches_are : (groups gs : List Group) (n m : List (List ℕ)) (p q : List Pg) (switches : List CellSwitch) → gs ≡ groups → n ≡ m → p ≡ q → AllZip (IsSwitch n p) (outputs_of gs) switches → AllZip (IsSwitch m q) (outputs_of groups) switches
switches_are groups gs n m p q switches g e f h =
    let S : List (List ℕ) → List Pg → List Group → Type 0 = λ x y z. AllZip (IsSwitch x y) (outputs_of z) switches in
    subst (λ y. S m y groups) f (subst (λ x. S x p groups) e (subst (λ z. S n p z) g h))

pub register_is : (groups gs : List Group) (n m p q : List (List ℕ)) (register : Option CellRegister) → gs ≡ groups → n ≡ m → p ≡ q → IsRegisterOf n p (first_ff gs) register → IsRegisterOf m q (first_ff groups) register
register_is groups gs n m p q register g e f h =
    let R : List (List ℕ) → List (List ℕ) → List Group → Type 0 = λ x y z. IsRegisterOf x y (first_ff z) register in
    subst (λ y. R m y groups) f (subst (λ x. R x p groups) e (subst (λ z. R n p z) g h))
