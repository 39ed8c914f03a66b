-- A plan has one outcome.
use Rattle.std.proofs.Common.{◌≡◌, ◌≢◌, ◌⊎◌, inl, inr, ℕ, ◌<◌, ◌≤◌, List, [], ◌∷◌, length, map, Option, Some, None, Result, Ok, Err, refl, ap, sym, ◌∙◌, subst, arith}
use Rattle.std.specs.List.{All, AllZip}
use Rattle.std.proofs.lemmas.Bool.{cases_order}
use Rattle.std.proofs.lemmas.List.Elements.{All-head, All-tail}
use Rattle.pe_bool_expr.specs.declared.expr.Expr.{Expr}
use Rattle.pe_bool_expr.specs.declared.fault.ExprFault.{ExprFault}
use Rattle.pe_bool_expr.specs.declared.style.Style.TheVariants.{Upf}
use Rattle.pe_bool_expr.specs.Reading.{IsFunction}
use Rattle.pe_bool_expr.proofs.Outcomes.{one_outcome}
use Rattle.pe_supply.specs.declared.fault.SupplyFault.{SupplyFault}
use Rattle.pe_supply.specs.declared.fault.SupplyFault.TheVariants.{Memory, NoSupply, TwoDrivers, TwoNets, SupplyLoop, Expression, NoRows, TwoTables, RowLength, NoState, TooManyRows, TooManySupplies}
use Rattle.pe_supply.specs.declared.plan.Plan.{Plan}
use Rattle.pe_supply.specs.declared.plan.SwitchText.{SwitchText}
use Rattle.pe_supply.specs.declared.supplies.Supplies.{Supplies}
use Rattle.pe_supply.specs.declared.supplies.Switch.{Switch}
use Rattle.pe_supply.specs.Building.{controls_of, IsRead, IsUnread, AreRead, IsRefusedSwitch, IsFirstRefused, AreNamed, AreDriven, AreOnNets, AreFed, HaveFunctions, HaveRows, HaveTable, AreLong, HaveStates, AreFewRows, AreFew, IsLoopName, IsSwitchOf, AreSupplies, Says}
use Rattle.pe_supply.specs.Drivers.{edges_of, first_driven_twice, first_elsewhere, roots_in, IsLooped}
use Rattle.pe_supply.specs.Numbers.{AreNumbered, first_name, supply_count}
use Rattle.pe_supply.specs.Steps.{told}
use Rattle.pe_supply.specs.Tables.{columns, second_table, first_unlike, table_in, first_unknown, row_in, set_in}
use Rattle.pe_supply.specs.Uses.{first_missing}
use Rattle.pe_supply.proofs.Numbered.{numbered_one}

abbrev Answer : Type 0
Answer = Result Supplies SupplyFault

abbrev IsOne : (Answer → Type 0) → Type 0
IsOne P = (a b : Answer) → P a → P b → a ≡ b

-- a refusal, or what comes where it does not hold
step : (Left : Answer → Type 0) (Pass : Type 0) (Next : Answer → Type 0) → IsOne Left → ((a : Answer) → Left a → Pass → ⊥) → IsOne Next → IsOne (λ r. Left r ⊎ (Pass × Next r))
step Left Pass Next left clash next a b p q = elim p [
  | inl x ↦ elim q [ inl y ↦ left a b x y | inr y ↦ absurd (clash a x y.0) ]
  | inr x ↦ elim q [ inl y ↦ absurd (clash b y x.0) | inr y ↦ next a b x.1 y.1 ]
]

-- a refusal with a name that is found
record Named (found : Option (List ℕ)) (fault : List ℕ → SupplyFault) (r : Answer) : Type 0 where
  name : List ℕ
  is : found ≡ Some name
  answer : r ≡ Err (fault name)

one_named : (found : Option (List ℕ)) (fault : List ℕ → SupplyFault) → IsOne (Named found fault)
one_named found fault a b x y =
    let same : x.name ≡ y.name = some_same found x.name y.name x.is y.is in
    x.answer ∙ ap (λ n. Err (fault n)) same ∙ sym y.answer
  where
    some_same : (o : Option (List ℕ)) (m n : List ℕ) → o ≡ Some m → o ≡ Some n → m ≡ n
    some_same o m n e f = cc

no_named : (found : Option (List ℕ)) (fault : List ℕ → SupplyFault) (r : Answer) → Named found fault r → found ≡ None → ⊥
no_named found fault r x e = not_both found x.name x.is e
  where
    not_both : (o : Option (List ℕ)) (n : List ℕ) → o ≡ Some n → o ≡ None → ⊥
    not_both o n e f = cc

-- a refusal with a name that a relation gives
record Told (P : List ℕ → Type 0) (fault : List ℕ → SupplyFault) (r : Answer) : Type 0 where
  name : List ℕ
  is : P name
  answer : r ≡ Err (fault name)

one_told : (P : List ℕ → Type 0) (fault : List ℕ → SupplyFault) → ((m n : List ℕ) → P m → P n → m ≡ n) → IsOne (Told P fault)
one_told P fault one a b x y = x.answer ∙ ap (λ n. Err (fault n)) (one x.name y.name x.is y.is) ∙ sym y.answer

-- a refusal with a count
record Counted (count : ℕ) (fault : ℕ → SupplyFault) (r : Answer) : Type 0 where
  many : 64 < count
  answer : r ≡ Err (fault (told count))

one_counted : (count : ℕ) (fault : ℕ → SupplyFault) → IsOne (Counted count fault)
one_counted count fault a b x y = x.answer ∙ sym y.answer

-- texts are functions or none
read_or_not : (names : List (List ℕ)) (text : List ℕ) → IsRead names text → IsUnread names text → ⊥
read_or_not names text h k = different h.0 k.0 (one_outcome Upf names text (Ok h.0) (Err k.0) h.1 k.1)
  where
    different : (e : Expr) (f : ExprFault) → ◌≡◌ {A = Result Expr ExprFault} (Ok e) (Err f) → ⊥
    different e f q = cc

switch_or_not : (w : SwitchText) → AreRead w → IsRefusedSwitch w → ⊥
switch_or_not w h k = elim k [
  | inl on ↦ read_or_not (controls_of w) w.on h.0 on
  | inr off ↦
      let P : List ℕ → Type 0 = IsRead (controls_of w) in
      let here : IsRead (controls_of w) off.1 = subst P off.3 (h.1 off.0 off.1 off.2) in
      read_or_not (controls_of w) off.1 here off.4
]

none_refused : (ws : List SwitchText) (name : List ℕ) → IsFirstRefused ws name → All AreRead ws → ⊥
none_refused [] name h all = h
none_refused (w ∷ ws) name h all = elim h [
  | inl here ↦ switch_or_not w (All-head AreRead w ws all) here.0
  | inr more ↦ none_refused ws name more.1 (All-tail AreRead w ws all)
]

one_refused : (ws : List SwitchText) (m n : List ℕ) → IsFirstRefused ws m → IsFirstRefused ws n → m ≡ n
one_refused [] m n h k = absurd h
one_refused (w ∷ ws) m n h k = elim h [
  | inl x ↦ elim k [ inl y ↦ x.1 ∙ sym y.1 | inr y ↦ absurd (switch_or_not w y.0 x.0) ]
  | inr x ↦ elim k [ inl y ↦ absurd (switch_or_not w x.0 y.0) | inr y ↦ one_refused ws m n x.1 y.1 ]
]

one_loop : (names : List (List ℕ × ℕ)) (edges : List (ℕ × ℕ)) (m n : List ℕ) → IsLoopName names edges m → IsLoopName names edges n → m ≡ n
one_loop names edges m n h k = elim (cases_order h.supply k.supply) [
  | inl same ↦ h.is ∙ ap (first_name names) same ∙ sym k.is
  | inr o ↦ elim o [ inl l ↦ absurd (k.first.first h.supply l h.first.looped) | inr l ↦ absurd (h.first.first k.supply l k.first.looped) ]
]

-- lists that stand in a relation of one answer to a list are one
zip_one : {A B : Type 0} (R : A → B → Type 0) → ((x : A) (y z : B) → R x y → R x z → y ≡ z) → (xs : List A) (ys zs : List B) → AllZip R xs ys → AllZip R xs zs → ys ≡ zs
zip_one R one [] [] [] h k = refl
zip_one R one [] [] (z ∷ zs) h k = absurd k
zip_one R one [] (y ∷ ys) zs h k = absurd h
zip_one R one (x ∷ xs) [] zs h k = absurd h
zip_one R one (x ∷ xs) (y ∷ ys) [] h k = absurd k
zip_one R one (x ∷ xs) (y ∷ ys) (z ∷ zs) h k = ap (λ v. v ∷ ys) (one x y z h.0 k.0) ∙ ap (λ vs. z ∷ vs) (zip_one R one xs ys zs h.1 k.1)

one_function : (names : List (List ℕ)) (text : List ℕ) (e f : Expr) → IsFunction Upf names text e → IsFunction Upf names text f → e ≡ f
one_function names text e f h k = same (one_outcome Upf names text (Ok e) (Ok f) h k)
  where
    same : ◌≡◌ {A = Result Expr ExprFault} (Ok e) (Ok f) → e ≡ f
    same q = cc

one_switch : (names : List (List ℕ × ℕ)) (text : SwitchText) (v w : Switch) → IsSwitchOf names text v → IsSwitchOf names text w → v ≡ w
one_switch names text v w h k =
    let edge : (v.output, v.input) ≡ (w.output, w.input) = h.edge ∙ sym k.edge in
    ap (λ n. record v { name = n }) (h.name ∙ sym k.name)
    ∙ ap (λ n. record v { name = w.name; output = n }) (ap (λ e. e.0) edge)
    ∙ ap (λ n. record v { name = w.name; output = w.output; input = n }) (ap (λ e. e.1) edge)
    ∙ ap (λ n. record v { name = w.name; output = w.output; input = w.input; controls = n }) (h.controls ∙ sym k.controls)
    ∙ ap (λ n. record v { name = w.name; output = w.output; input = w.input; controls = w.controls; on = n }) (one_function (controls_of text) text.on v.on w.on h.on k.on)
    ∙ ap (λ n. record w { off = n }) (zip_one (IsFunction Upf (controls_of text)) (λ t e f. one_function (controls_of text) t e f) text.off v.off w.off h.off k.off)

-- supplies of one numbering are one
supplies_same : (p : Plan) (s t : Supplies) → s.names ≡ t.names → AreSupplies p s → AreSupplies p t → s ≡ t
supplies_same p s t e h k =
    let switches : s.switches ≡ t.switches = zip_one (IsSwitchOf s.names) (λ x v w. one_switch s.names x v w) p.switches s.switches t.switches h.switches (subst (λ ns. AllZip (IsSwitchOf ns) p.switches t.switches) (sym e) k.switches) in
    let roots : s.roots ≡ t.roots = h.roots ∙ ap (λ ns. roots_in ns (edges_of ns p.switches)) e ∙ sym k.roots in
    let sets : s.sets ≡ t.sets = h.sets ∙ ap (λ ns. map (set_in ns) p.sets) e ∙ sym k.sets in
    let table : s.table ≡ t.table = h.table ∙ ap (λ ns. table_in ns p.tables) e ∙ sym k.table in
    let rows : s.rows ≡ t.rows = h.rows ∙ ap (λ ns. map (row_in ns p.states (table_in ns p.tables)) p.rows) e ∙ sym k.rows in
    ap (λ n. record s { names = n }) e
    ∙ ap (λ n. record s { names = t.names; roots = n }) roots
    ∙ ap (λ n. record s { names = t.names; roots = t.roots; switches = n }) switches
    ∙ ap (λ n. record s { names = t.names; roots = t.roots; switches = t.switches; sets = n }) sets
    ∙ ap (λ n. record s { names = t.names; roots = t.roots; switches = t.switches; sets = t.sets; table = n }) table
    ∙ ap (λ n. record t { rows = n }) rows

-- the outcomes of a plan that is named
record Built (p : Plan) (names : List (List ℕ × ℕ)) (r : Answer) : Type 0 where
  supplies : Supplies
  here : supplies.names ≡ names
  are : AreSupplies p supplies
  answer : r ≡ Ok supplies

one_built : (p : Plan) (names : List (List ℕ × ℕ)) → IsOne (Built p names)
one_built p names a b x y = x.answer ∙ ap (λ s. Ok s) (supplies_same p x.supplies y.supplies (x.here ∙ sym y.here) x.are y.are) ∙ sym y.answer

module _ (p : Plan) (names : List (List ℕ × ℕ)) where
  abbrev edges : List (ℕ × ℕ)
  edges = edges_of names p.switches

  abbrev At11 : Answer → Type 0
  At11 r = Counted (supply_count names) (λ n. TooManySupplies n) r ⊎ ((supply_count names ≤ 64) × Built p names r)

  abbrev At10 : Answer → Type 0
  At10 r = Counted (length p.rows) (λ n. TooManyRows n) r ⊎ ((length p.rows ≤ 64) × At11 r)

  abbrev At9 : Answer → Type 0
  At9 r = Named (first_unknown names p.states (table_in names p.tables) p.rows) (λ n. NoState n) r ⊎ ((first_unknown names p.states (table_in names p.tables) p.rows ≡ None) × At10 r)

  abbrev At8 : Answer → Type 0
  At8 r = Named (first_unlike (length (columns p.tables)) p.rows) (λ n. RowLength n) r ⊎ ((first_unlike (length (columns p.tables)) p.rows ≡ None) × At9 r)

  abbrev At7 : Answer → Type 0
  At7 r = Named (second_table p.tables) (λ n. TwoTables n) r ⊎ ((second_table p.tables ≡ None) × At8 r)

  abbrev At6 : Answer → Type 0
  At6 r = ((p.rows ≡ []) × (r ≡ Err NoRows)) ⊎ ((p.rows ≢ []) × At7 r)

  abbrev At5 : Answer → Type 0
  At5 r = Told (IsFirstRefused p.switches) (λ n. Expression n) r ⊎ (All AreRead p.switches × At6 r)

  abbrev At4 : Answer → Type 0
  At4 r = Told (IsLoopName names edges) (λ n. SupplyLoop n) r ⊎ (((i : ℕ) → IsLooped edges i → ⊥) × At5 r)

  abbrev At3 : Answer → Type 0
  At3 r = Named (first_elsewhere p.nets [] p.ties) (λ n. TwoNets n) r ⊎ ((first_elsewhere p.nets [] p.ties ≡ None) × At4 r)

  abbrev At2 : Answer → Type 0
  At2 r = Named (first_driven_twice names edges) (λ n. TwoDrivers n) r ⊎ ((first_driven_twice names edges ≡ None) × At3 r)

  one11 : IsOne At11
  one11 = step (Counted (supply_count names) (λ n. TooManySupplies n)) (supply_count names ≤ 64) (Built p names) (one_counted (supply_count names) (λ n. TooManySupplies n)) (λ a x few. absurd (omega (arith, x.many))) (one_built p names)

  one10 : IsOne At10
  one10 = step (Counted (length p.rows) (λ n. TooManyRows n)) (length p.rows ≤ 64) At11 (one_counted (length p.rows) (λ n. TooManyRows n)) (λ a x few. absurd (omega (arith, x.many))) one11

  one9 : IsOne At9
  one9 =
      step (Named (first_unknown names p.states (table_in names p.tables) p.rows) (λ n. NoState n)) (first_unknown names p.states (table_in names p.tables) p.rows ≡ None) At10
      (one_named (first_unknown names p.states (table_in names p.tables) p.rows) (λ n. NoState n)) (no_named (first_unknown names p.states (table_in names p.tables) p.rows) (λ n. NoState n)) one10

  one8 : IsOne At8
  one8 =
      step (Named (first_unlike (length (columns p.tables)) p.rows) (λ n. RowLength n)) (first_unlike (length (columns p.tables)) p.rows ≡ None) At9
      (one_named (first_unlike (length (columns p.tables)) p.rows) (λ n. RowLength n)) (no_named (first_unlike (length (columns p.tables)) p.rows) (λ n. RowLength n)) one9

  one7 : IsOne At7
  one7 = step (Named (second_table p.tables) (λ n. TwoTables n)) (second_table p.tables ≡ None) At8 (one_named (second_table p.tables) (λ n. TwoTables n)) (no_named (second_table p.tables) (λ n. TwoTables n)) one8

  one6 : IsOne At6
  one6 = step (λ r. (p.rows ≡ []) × (r ≡ Err NoRows)) (p.rows ≢ []) At7 (λ a b x y. x.1 ∙ sym y.1) (λ a x some. some x.0) one7

  one5 : IsOne At5
  one5 =
      step (Told (IsFirstRefused p.switches) (λ n. Expression n)) (All AreRead p.switches) At6 (one_told (IsFirstRefused p.switches) (λ n. Expression n) (one_refused p.switches))
      (λ a x all. none_refused p.switches x.name x.is all) one6

  one4 : IsOne At4
  one4 =
      step (Told (IsLoopName names edges) (λ n. SupplyLoop n)) ((i : ℕ) → IsLooped edges i → ⊥) At5 (one_told (IsLoopName names edges) (λ n. SupplyLoop n) (one_loop names edges))
      (λ a x none. none x.is.supply x.is.first.looped) one5

  one3 : IsOne At3
  one3 = step (Named (first_elsewhere p.nets [] p.ties) (λ n. TwoNets n)) (first_elsewhere p.nets [] p.ties ≡ None) At4 (one_named (first_elsewhere p.nets [] p.ties) (λ n. TwoNets n)) (no_named (first_elsewhere p.nets [] p.ties) (λ n. TwoNets n)) one4

  one2 : IsOne At2
  one2 = step (Named (first_driven_twice names edges) (λ n. TwoDrivers n)) (first_driven_twice names edges ≡ None) At3 (one_named (first_driven_twice names edges) (λ n. TwoDrivers n)) (no_named (first_driven_twice names edges) (λ n. TwoDrivers n)) one3

-- everything that is used is made, and the names have a numbering
record At1 (p : Plan) (r : Answer) : Type 0 where
  names : List (List ℕ × ℕ)
  numbered : AreNumbered p.names p.ties names
  next : At2 p names r

one1 : (p : Plan) → IsOne (At1 p)
one1 p a b x y =
    let same : y.names ≡ x.names = numbered_one p.names p.ties y.names x.names y.numbered x.numbered in
    one2 p x.names a b x.next (subst (λ ns. At2 p ns b) same y.next)

abbrev At0 : Plan → Answer → Type 0
At0 p r = Named (first_missing p) (λ n. NoSupply n) r ⊎ ((first_missing p ≡ None) × At1 p r)

one0 : (p : Plan) → IsOne (At0 p)
one0 p = step (Named (first_missing p) (λ n. NoSupply n)) (first_missing p ≡ None) (At1 p) (one_named (first_missing p) (λ n. NoSupply n)) (no_named (first_missing p) (λ n. NoSupply n)) (one1 p)

-- from a stage back to the first
up2 : (p : Plan) (names : List (List ℕ × ℕ)) (r : Answer) → AreNamed p names → At2 p names r → At0 p r
up2 p names r h x = inr (h.made, record { names = names; numbered = h.numbered; next = x })

up3 : (p : Plan) (names : List (List ℕ × ℕ)) (r : Answer) → AreDriven p names → At3 p names r → At0 p r
up3 p names r h x = up2 p names r h.named (inr (h.once, x))

up4 : (p : Plan) (names : List (List ℕ × ℕ)) (r : Answer) → AreOnNets p names → At4 p names r → At0 p r
up4 p names r h x = up3 p names r h.driven (inr (h.one, x))

up5 : (p : Plan) (names : List (List ℕ × ℕ)) (r : Answer) → AreFed p names → At5 p names r → At0 p r
up5 p names r h x = up4 p names r h.on_nets (inr (h.apart, x))

up6 : (p : Plan) (names : List (List ℕ × ℕ)) (r : Answer) → HaveFunctions p names → At6 p names r → At0 p r
up6 p names r h x = up5 p names r h.fed (inr (h.read, x))

up7 : (p : Plan) (names : List (List ℕ × ℕ)) (r : Answer) → HaveRows p names → At7 p names r → At0 p r
up7 p names r h x = up6 p names r h.functions (inr (h.some, x))

up8 : (p : Plan) (names : List (List ℕ × ℕ)) (r : Answer) → HaveTable p names → At8 p names r → At0 p r
up8 p names r h x = up7 p names r h.rows (inr (h.one, x))

up9 : (p : Plan) (names : List (List ℕ × ℕ)) (r : Answer) → AreLong p names → At9 p names r → At0 p r
up9 p names r h x = up8 p names r h.table (inr (h.long, x))

up10 : (p : Plan) (names : List (List ℕ × ℕ)) (r : Answer) → HaveStates p names → At10 p names r → At0 p r
up10 p names r h x = up9 p names r h.long (inr (h.states, x))

up11 : (p : Plan) (names : List (List ℕ × ℕ)) (r : Answer) → AreFewRows p names → At11 p names r → At0 p r
up11 p names r h x = up10 p names r h.states (inr (h.few, x))

up12 : (p : Plan) (names : List (List ℕ × ℕ)) (r : Answer) → AreFew p names → Built p names r → At0 p r
up12 p names r h x = up11 p names r h.rows (inr (h.few, x))

placed : (p : Plan) (r : Answer) → Says p r → At0 p r
placed p (Ok s) h = up12 p s.names (Ok s) h.few (record { supplies = s; here = refl; are = h; answer = refl })
placed p (Err Memory) h = absurd h
placed p (Err (NoSupply name)) h = inl (record { name = name; is = h; answer = refl })
placed p (Err (TwoDrivers name)) h = up2 p h.0 (Err (TwoDrivers name)) h.1 (inl (record { name = name; is = h.2; answer = refl }))
placed p (Err (TwoNets name)) h = up3 p h.0 (Err (TwoNets name)) h.1 (inl (record { name = name; is = h.2; answer = refl }))
placed p (Err (SupplyLoop name)) h = up4 p h.0 (Err (SupplyLoop name)) h.1 (inl (record { name = name; is = h.2; answer = refl }))
placed p (Err (Expression name)) h = up5 p h.0 (Err (Expression name)) h.1 (inl (record { name = name; is = h.2; answer = refl }))
placed p (Err NoRows) h = up6 p h.0 (Err NoRows) h.1 (inl (h.2, refl))
placed p (Err (TwoTables name)) h = up7 p h.0 (Err (TwoTables name)) h.1 (inl (record { name = name; is = h.2; answer = refl }))
placed p (Err (RowLength name)) h = up8 p h.0 (Err (RowLength name)) h.1 (inl (record { name = name; is = h.2; answer = refl }))
placed p (Err (NoState name)) h = up9 p h.0 (Err (NoState name)) h.1 (inl (record { name = name; is = h.2; answer = refl }))
placed p (Err (TooManyRows count)) h = up10 p h.0 (Err (TooManyRows count)) h.1 (inl (record { many = h.2; answer = ap (λ n. Err (TooManyRows n)) h.3 }))
placed p (Err (TooManySupplies count)) h = up11 p h.0 (Err (TooManySupplies count)) h.1 (inl (record { many = h.2; answer = ap (λ n. Err (TooManySupplies n)) h.3 }))

-- what is said of a plan by two answers makes them one
pub one_said : (p : Plan) (a b : Answer) → Says p a → Says p b → a ≡ b
one_said p a b x y = one0 p a b (placed p a x) (placed p b y)
