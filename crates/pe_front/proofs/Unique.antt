-- Five texts have one answer: each point has one, where the next point has one.
use Rattle.std.proofs.Common.{◌≡◌, inl, inr, ℕ, Bool, true, false, not, List, [], ◌∷◌, Option, Some, None, Result, Ok, Err, refl, sym, subst, ap, ◌∙◌, arith}
use Rattle.std.specs.Prelude.{◌≢◌}
use Rattle.pe_base.specs.declared.text.Texts.{Texts}
use Rattle.pe_text.specs.declared.fault.ReadFault.{ReadFault}
use Rattle.pe_text.specs.declared.fault.ReadFault.TheVariants.{Memory}
use Rattle.pe_text.specs.declared.language.Lang.{Lang}
use Rattle.pe_text.specs.declared.language.Lang.TheVariants as lang
use Rattle.pe_verilog_ast.specs.declared.module.Module.{Module}
use Rattle.pe_verilog_ast.specs.declared.module.Source.{Source}
use Rattle.pe_verilog_read.specs.Reading.{IsVerilog, IsVerilogFault}
use Rattle.pe_upf_read.specs.declared.intent.Intent.{Intent}
use Rattle.pe_upf_read.specs.Spelling.{IsUpf, IsUpfFault}
use Rattle.pe_liberty_read.specs.declared.tree.Group.{Group}
use Rattle.pe_liberty_read.specs.Reading.{IsLiberty, IsReadFault}
use Rattle.pe_compare.specs.declared.map.MapFile.{MapFile}
use Rattle.pe_compare.specs.MapReading.{IsMap, IsMapFault}
use Rattle.pe_supply.specs.declared.fault.SupplyFault.{SupplyFault}
use Rattle.pe_supply.specs.declared.supplies.Supplies.{Supplies}
use Rattle.pe_supply.specs.Building.{IsBuilt, IsOutcome as IsSupplyOutcome}
use Rattle.pe_assigns.specs.Form.{is_some_of}
use Rattle.pe_cells.specs.declared.cell.CellView.{CellView}
use Rattle.pe_cells.specs.declared.fault.CellFault.{CellFault}
use Rattle.pe_cells.specs.Viewing.{IsView, IsOutcome}
use Rattle.pe_intent.specs.Domain.{is_one_domain}
use Rattle.pe_instances.specs.declared.parts.Circuit.{Circuit}
use Rattle.pe_instances.specs.declared.parts.Netlist.{Netlist}
use Rattle.pe_instances.specs.Form.{netlist_in, used_cells}
use Rattle.pe_instances.specs.Fit.{circuit_of}
use Rattle.pe_design.specs.declared.design.Design.{Design}
use Rattle.pe_front.specs.declared.fault.CheckFault.{CheckFault}
use Rattle.pe_front.specs.declared.fault.CheckFault.TheVariants.{Refused}
use Rattle.pe_front.specs.declared.fault.Fault.TheVariants.{Read, Cell, Supply}
use Rattle.pe_front.specs.declared.fault.Part.{Part}
use Rattle.pe_front.specs.declared.fault.Part.TheVariants.{Rtl, Upf, Lib, Net, Map}
use Rattle.pe_front.specs.Points.{Answer, FoundThen, found, refused, TakenThen, formed, unformed, BuiltThen, built, unbuilt}
use Rattle.pe_front.specs.Views.{AreViews, IsFirstRefused}
use Rattle.pe_front.specs.Given.{FromWidth, narrow, wide, IsDesignOf, FromDesign, is_fitting, module_in, ReadThen, FromFit, FromSupplies, FromViews, FromMap, FromNet, FromLib, FromUpf, IsGiven}

-- a relation has one answer at most
abbrev pub One : (Answer → Type 0) → Type 0
One Point = (a b : Answer) → Point a → Point b → a ≡ b

one_found : (A F : Type 0) (Is : A → Type 0) (IsNot : F → Type 0) (told : F → CheckFault) (Next : A → Answer → Type 0)
    → ((x y : A) → Is x → Is y → x ≡ y) → ((x : A) (f : F) → Is x → IsNot f → ⊥) → ((f g : F) → IsNot f → IsNot g → f ≡ g) → ((x : A) → One (Next x))
    → One (FoundThen A F Is IsNot told Next)
one_found A F Is IsNot told Next one both none next a b (found x p m) (found y q n) = next x a b m (subst (λ z. Next z b) (sym (one x y p q)) n)
one_found A F Is IsNot told Next one both none next a b (found x p m) (refused f q e) = absurd (both x f p q)
one_found A F Is IsNot told Next one both none next a b (refused f p e) (found y q n) = absurd (both y f q p)
one_found A F Is IsNot told Next one both none next a b (refused f p d) (refused g q e) = d ∙ ap (λ h. Err (told h)) (none f g p q) ∙ sym e

some_is_some : {A : Type 0} (o : Option A) (x y : A) → o ≡ Some x → o ≡ Some y → x ≡ y
some_is_some o x y p q = let e : Some x ≡ Some y = sym p ∙ q in cc

some_is_none : {A : Type 0} (o : Option A) (x : A) → o ≡ Some x → o ≡ None → ⊥
some_is_none {A} o x p q = let e : ◌≡◌ {A = Option A} (Some x) None = sym p ∙ q in cc

one_taken : (A : Type 0) (taken : Option A) (part : Part) (Next : A → Answer → Type 0) → ((x : A) → taken ≡ Some x → One (Next x)) → One (TakenThen A taken part Next)
one_taken A taken part Next next a b (formed x p m) (formed y q n) = next x p a b m (subst (λ z. Next z b) (sym (some_is_some taken x y p q)) n)
one_taken A taken part Next next a b (formed x p m) (unformed q e) = absurd (some_is_none taken x p q)
one_taken A taken part Next next a b (unformed p e) (formed y q n) = absurd (some_is_none taken y q p)
one_taken A taken part Next next a b (unformed p d) (unformed q e) = d ∙ sym e

true_is_false : (b : Bool) → b ≡ true → b ≡ false → ⊥
true_is_false b p q = let e : true ≡ false = sym p ∙ q in cc

one_built : (test : Bool) (part : Part) (Next : Answer → Type 0) → One Next → One (BuiltThen test part Next)
one_built test part Next next a b (built p m) (built q n) = next a b m n
one_built test part Next next a b (built p m) (unbuilt q e) = absurd (true_is_false test p q)
one_built test part Next next a b (unbuilt p e) (built q n) = absurd (true_is_false test q p)
one_built test part Next next a b (unbuilt p d) (unbuilt q e) = d ∙ sym e

one_read : (A : Type 0) (Spells : A → Type 0) (IsFault : ReadFault → Type 0) (part : Part) (Next : A → Answer → Type 0)
    → ((x y : A) → Spells x → Spells y → x ≡ y) → ((x : A) (f : ReadFault) → Spells x → IsFault f → f ≡ Memory) → ((f g : ReadFault) → f ≢ Memory → g ≢ Memory → IsFault f → IsFault g → f ≡ g) → ((x : A) → One (Next x))
    → One (ReadThen A Spells IsFault part Next)
one_read A Spells IsFault part Next one both none next =
    one_found A ReadFault Spells (λ f. (f ≢ Memory) × IsFault f) (λ f. Refused part (Read f)) Next one (λ x f p q. q.0 (both x f p q.1)) (λ f g p q. none f g p.0 q.0 p.1 q.1) next

-- the last point has one answer
one_width : (d : Design) → One (FromWidth d)
one_width d a b (narrow p m) (narrow q n) = m ∙ sym n
one_width d a b (narrow p m) (wide q n) = absurd (omega arith)
one_width d a b (wide p m) (narrow q n) = absurd (omega arith)
one_width d a b (wide p m) (wide q n) = m ∙ sym n

make : Module → Supplies → ℕ → ℕ → Circuit → Design
make r s p g c = record { rtl = r; supplies = s; power = p; ground = g; circuit = c }

made : (d : Design) → make d.rtl d.supplies d.power d.ground d.circuit ≡ d
unfolding make
made d = refl

make_same : (r r' : Module) (s s' : Supplies) (p p' g g' : ℕ) (c c' : Circuit) → r ≡ r' → s ≡ s' → p ≡ p' → g ≡ g' → c ≡ c' → make r s p g c ≡ make r' s' p' g' c'
make_same r r' s s' p p' g g' c c' e1 e2 e3 e4 e5 = cc

-- there is one design of the same parts
same_design : (m : Module) (intent : Intent) (s : Supplies) (c : Circuit) (d e : Design) → IsDesignOf m intent s c d → IsDesignOf m intent s c e → d ≡ e
same_design m intent s c d e p q =
    sym (made d)
    ∙ make_same d.rtl e.rtl d.supplies e.supplies d.power e.power d.ground e.ground d.circuit e.circuit
    (p.rtl ∙ sym q.rtl) (p.supplies ∙ sym q.supplies) (p.power_supply ∙ sym q.power_supply) (p.ground_supply ∙ sym q.ground_supply) (p.circuit ∙ sym q.circuit)
    ∙ made e

one_made : (m : Module) (intent : Intent) (s : Supplies) (c : Circuit) → One (FromDesign m intent s c)
one_made m intent s c a b p q =
    one_width p.design a b p.next (subst (λ d. FromWidth d b) (same_design m intent s c q.design p.design q.parts p.parts) q.next)

-- what the readers, the views and the supplies are known to have one of
pub record Laws : Type 0 where
  pub source : (language : Lang) (text : List ℕ) (x y : Source) → IsVerilog language text x → IsVerilog language text y → x ≡ y
  pub source_both : (language : Lang) (text : List ℕ) (x : Source) (f : ReadFault) → IsVerilog language text x → IsVerilogFault language text f → f ≡ Memory
  pub source_fault : (language : Lang) (text : List ℕ) (f g : ReadFault) → f ≢ Memory → g ≢ Memory → IsVerilogFault language text f → IsVerilogFault language text g → f ≡ g
  pub upf : (text : List ℕ) (x y : Intent) → IsUpf text x → IsUpf text y → x ≡ y
  pub upf_both : (text : List ℕ) (x : Intent) (f : ReadFault) → IsUpf text x → IsUpfFault text f → f ≡ Memory
  pub upf_fault : (text : List ℕ) (f g : ReadFault) → IsUpfFault text f → IsUpfFault text g → f ≢ Memory → g ≢ Memory → f ≡ g
  pub liberty : (text : List ℕ) (x y : Group) → IsLiberty text x → IsLiberty text y → x ≡ y
  pub liberty_both : (text : List ℕ) (x : Group) (f : ReadFault) → IsLiberty text x → IsReadFault text f → f ≡ Memory
  pub liberty_fault : (text : List ℕ) (f g : ReadFault) → f ≢ Memory → g ≢ Memory → IsReadFault text f → IsReadFault text g → f ≡ g
  pub map_file : (text : List ℕ) (x y : MapFile) → IsMap text x → IsMap text y → x ≡ y
  pub map_both : (text : List ℕ) (x : MapFile) (f : ReadFault) → IsMap text x → IsMapFault text f → f ≡ Memory
  pub map_fault : (text : List ℕ) (f g : ReadFault) → f ≢ Memory → g ≢ Memory → IsMapFault text f → IsMapFault text g → f ≡ g
  pub views : (library : Group) (name : List ℕ) (a b : Result CellView CellFault) → IsOutcome library name a → IsOutcome library name b → a ≡ b
  pub supplies : (intent : Intent) (a b : Result Supplies SupplyFault) → IsSupplyOutcome intent a → IsSupplyOutcome intent b → a ≡ b

module _ (laws : Laws) where
  same_view : (library : Group) (name : List ℕ) (v w : CellView) → IsView library name v → IsView library name w → v ≡ w
  same_view library name v w p q = let e : ◌≡◌ {A = Result CellView CellFault} (Ok v) (Ok w) = laws.views library name (Ok v) (Ok w) p q in cc

  view_or_not : (library : Group) (name : List ℕ) (v : CellView) (f : CellFault) → IsView library name v → IsOutcome library name (Err f) → ⊥
  view_or_not library name v f p q = let e : ◌≡◌ {A = Result CellView CellFault} (Ok v) (Err f) = laws.views library name (Ok v) (Err f) p q in cc

  same_reason : (library : Group) (name : List ℕ) (f g : CellFault) → IsOutcome library name (Err f) → IsOutcome library name (Err g) → f ≡ g
  same_reason library name f g p q = let e : ◌≡◌ {A = Result CellView CellFault} (Err f) (Err g) = laws.views library name (Err f) (Err g) p q in cc

  same_views : (library : Group) (cells : List (List ℕ)) (vs ws : List CellView) → AreViews library cells vs → AreViews library cells ws → vs ≡ ws
  same_views library [] [] [] p q = refl
  same_views library [] [] (w ∷ ws) p q = absurd q
  same_views library [] (v ∷ vs) ws p q = absurd p
  same_views library (c ∷ cs) [] ws p q = absurd p
  same_views library (c ∷ cs) (v ∷ vs) [] p q = absurd q
  same_views library (c ∷ cs) (v ∷ vs) (w ∷ ws) p q =
      let head : v ≡ w = same_view library c v w p.0 q.0 in
      let tail : vs ≡ ws = same_views library cs vs ws p.1 q.1 in
      cc

  views_or_not : (library : Group) (cells : List (List ℕ)) (vs : List CellView) (f : CellFault) → AreViews library cells vs → IsFirstRefused library cells f → ⊥
  views_or_not library [] vs f p q = q
  views_or_not library (c ∷ cs) [] f p q = p
  views_or_not library (c ∷ cs) (v ∷ vs) f p (inl q) = view_or_not library c v f p.0 q
  views_or_not library (c ∷ cs) (v ∷ vs) f p (inr q) = views_or_not library cs vs f p.1 q.2

  same_reasons : (library : Group) (cells : List (List ℕ)) (f g : CellFault) → IsFirstRefused library cells f → IsFirstRefused library cells g → f ≡ g
  same_reasons library [] f g p q = absurd p
  same_reasons library (c ∷ cs) f g (inl p) (inl q) = same_reason library c f g p q
  same_reasons library (c ∷ cs) f g (inl p) (inr q) = absurd (view_or_not library c q.0 f q.1 p)
  same_reasons library (c ∷ cs) f g (inr p) (inl q) = absurd (view_or_not library c p.0 g p.1 q)
  same_reasons library (c ∷ cs) f g (inr p) (inr q) = same_reasons library cs f g p.2 q.2

  same_supplies : (intent : Intent) (s t : Supplies) → IsBuilt intent s → IsBuilt intent t → s ≡ t
  same_supplies intent s t p q = let e : ◌≡◌ {A = Result Supplies SupplyFault} (Ok s) (Ok t) = laws.supplies intent (Ok s) (Ok t) p q in cc

  supplies_or_not : (intent : Intent) (s : Supplies) (f : SupplyFault) → IsBuilt intent s → IsSupplyOutcome intent (Err f) → ⊥
  supplies_or_not intent s f p q = let e : ◌≡◌ {A = Result Supplies SupplyFault} (Ok s) (Err f) = laws.supplies intent (Ok s) (Err f) p q in cc

  same_want : (intent : Intent) (f g : SupplyFault) → IsSupplyOutcome intent (Err f) → IsSupplyOutcome intent (Err g) → f ≡ g
  same_want intent f g p q = let e : ◌≡◌ {A = Result Supplies SupplyFault} (Err f) (Err g) = laws.supplies intent (Err f) (Err g) p q in cc

  one_fit : (m : Module) (intent : Intent) (n : Netlist) (views : List CellView) (s : Supplies) → One (FromFit m intent n views s)
  unfolding FromFit
  one_fit m intent n views s =
      let c : Circuit = circuit_of n m s.names (used_cells n) views in
      one_built (is_fitting m intent s c) Net (FromDesign m intent s c) (one_made m intent s c)

  one_supply : (m : Module) (intent : Intent) (n : Netlist) (views : List CellView) → One (FromSupplies m intent n views)
  unfolding FromSupplies
  one_supply m intent n views =
      one_found Supplies SupplyFault (IsBuilt intent) (λ f. IsSupplyOutcome intent (Err f)) (λ f. Refused Upf (Supply f)) (FromFit m intent n views)
      (same_supplies intent) (supplies_or_not intent) (same_want intent) (one_fit m intent n views)

  one_viewing : (m : Module) (intent : Intent) (library : Group) (n : Netlist) → One (FromViews m intent library n)
  unfolding FromViews
  one_viewing m intent library n =
      one_found (List CellView) CellFault (AreViews library (used_cells n)) (IsFirstRefused library (used_cells n)) (λ f. Refused Lib (Cell f)) (FromSupplies m intent n)
      (same_views library (used_cells n)) (views_or_not library (used_cells n)) (same_reasons library (used_cells n)) (one_supply m intent n)

  one_map : (t : Texts) (m : Module) (intent : Intent) (library : Group) (n : Netlist) → One (FromMap t m intent library n)
  unfolding FromMap
  one_map t m intent library n =
      one_read MapFile (IsMap t.map) (IsMapFault t.map) Map (λ map. BuiltThen (not (is_some_of map.lines)) Map (FromViews m intent library n))
      (laws.map_file t.map) (laws.map_both t.map) (laws.map_fault t.map)
      (λ map. one_built (not (is_some_of map.lines)) Map (FromViews m intent library n) (one_viewing m intent library n))

  one_net : (t : Texts) (m : Module) (intent : Intent) (library : Group) → One (FromNet t m intent library)
  unfolding FromNet
  one_net t m intent library =
      one_read Source (IsVerilog lang.Netlist t.net) (IsVerilogFault lang.Netlist t.net) Net (λ s. TakenThen Netlist (netlist_in s.modules) Net (FromMap t m intent library))
      (laws.source lang.Netlist t.net) (laws.source_both lang.Netlist t.net) (laws.source_fault lang.Netlist t.net)
      (λ s. one_taken Netlist (netlist_in s.modules) Net (FromMap t m intent library) (λ n e. one_map t m intent library n))

  one_lib : (t : Texts) (m : Module) (intent : Intent) → One (FromLib t m intent)
  unfolding FromLib
  one_lib t m intent =
      one_read Group (IsLiberty t.lib) (IsReadFault t.lib) Lib (FromNet t m intent) (laws.liberty t.lib) (laws.liberty_both t.lib) (laws.liberty_fault t.lib) (one_net t m intent)

  one_power : (t : Texts) (m : Module) → One (FromUpf t m)
  unfolding FromUpf
  one_power t m =
      one_read Intent (IsUpf t.upf) (IsUpfFault t.upf) Upf (λ intent. BuiltThen (is_one_domain intent) Upf (FromLib t m intent))
      (laws.upf t.upf) (laws.upf_both t.upf) (λ f g n k p q. laws.upf_fault t.upf f g p q n k)
      (λ intent. one_built (is_one_domain intent) Upf (FromLib t m intent) (one_lib t m intent))

  -- five texts give one answer
  pub one_given : (t : Texts) → One (IsGiven t)
  unfolding IsGiven
  one_given t =
      one_read Source (IsVerilog lang.Rtl t.rtl) (IsVerilogFault lang.Rtl t.rtl) Rtl (λ s. TakenThen Module (module_in s.modules) Rtl (FromUpf t))
      (laws.source lang.Rtl t.rtl) (laws.source_both lang.Rtl t.rtl) (laws.source_fault lang.Rtl t.rtl)
      (λ s. one_taken Module (module_in s.modules) Rtl (FromUpf t) (λ m e. one_power t m))
