-- What a test of a case says of its assignment: of each assignment there is one cycle.
use Rattle.std.proofs.Common.{◌≡◌, Bool, true, false, not, ◌&&◌, List, [], ℕ, refl, sym, ap, ◌∙◌, subst, inl, inr}
use Rattle.pe_base.specs.declared.value.Val.{Val}
use Rattle.pe_base.specs.declared.value.Val.TheVariants.{Zero, One, Corrupt}
use Rattle.pe_base.specs.declared.text.Step.{Step}
use Rattle.pe_base.specs.Values.{Refines}
use Rattle.pe_base.specs.Names.{place_of}
use Rattle.pe_supply.specs.Rows.{row_holds}
use Rattle.pe_supply.proofs.Settling.{settled_one as states_once}
use Rattle.pe_assigns.specs.Form.{nets}
use Rattle.pe_assigns.specs.Settled.{IsRtlSettled}
use Rattle.pe_assigns.proofs.OneMap.{settled_once as rtl_once}
use Rattle.pe_instances.specs.Form.{nets as net_nets}
use Rattle.pe_instances.specs.Settled.{IsNetSettled}
use Rattle.pe_instances.proofs.OneMap.{settled_once as net_once}
use Rattle.pe_design.specs.declared.design.Design.{Design}
use Rattle.pe_design.specs.Power.{domain_on}
use Rattle.pe_design.specs.Sound.{IsSound}
use Rattle.pe_design.specs.Refined.{IsCycle}
use Rattle.pe_questions.specs.declared.cases.Case.{Case}
use Rattle.pe_questions.specs.Assignments.{roots_of, inputs_of}
use Rattle.pe_questions.specs.Questions.{levels_after}
use Rattle.pe_questions.specs.Answers.{IsPermitted, Refutes, DoesRefute}
use Rattle.pe_questions.specs.Cases.{IsCase, is_refined, value_at, permits, refutes}
use Rattle.pe_questions.proofs.Firsts.{Agrees}

-- two cycles of the same roots and inputs are the same
pub record AreSame (states others : List Bool) (rtl_map rtl_other net_map net_other : List Val) : Type 0 where
  pub states_same : states ≡ others
  pub rtl_same : rtl_map ≡ rtl_other
  pub net_same : net_map ≡ net_other

pub one_cycle : (d : Design) (roots inputs states others : List Bool) (rtl_map rtl_other net_map net_other : List Val) → IsSound d → IsCycle d roots inputs states rtl_map net_map → IsCycle d roots inputs others rtl_other net_other → AreSame states others rtl_map rtl_other net_map net_other
one_cycle d roots inputs states others rtl_map rtl_other net_map net_other sound x y =
    let e : states ≡ others = states_once d.supplies roots [] states others sound.supplies x.supplies y.supplies in
    let r : IsRtlSettled d.rtl (domain_on d others) inputs rtl_map = subst (λ s. IsRtlSettled d.rtl (domain_on d s) inputs rtl_map) e x.rtl in
    let n : IsNetSettled d.circuit others inputs net_map = subst (λ s. IsNetSettled d.circuit s inputs net_map) e x.net in
    record {
      states_same = e;
      rtl_same = rtl_once d.rtl (domain_on d others) inputs rtl_map rtl_other sound.rtl r y.rtl;
      net_same = net_once d.circuit others inputs net_map net_other sound.circuit n y.net;
    }

-- a case that passes the test of a step is permitted, and no other is
permitted_by : (d : Design) (step : Step) (c : Case) → IsCase d c → permits d step c ≡ true → IsPermitted d step c.bits
permitted_by d step c case e = record { states = c.states; rtl_map = c.rtl.items; net_map = c.net.items; cycle = case; holds = e }

pub permits_agrees : (d : Design) (step : Step) → IsSound d → Agrees d (permits d step) (IsPermitted d step)
permits_agrees d step sound = record {
  passes = permitted_by d step;
  fails = λ c case e other.
      let same = one_cycle d (roots_of d c.bits) (inputs_of d c.bits) c.states other.states c.rtl.items other.rtl_map c.net.items other.net_map sound case other.cycle in
      let z : false ≡ true = sym e ∙ ap (row_holds (levels_after d step) d.supplies.table) same.states_same ∙ other.holds in
      cc;
}

and_left : (a b : Bool) → (a && b) ≡ true → a ≡ true
and_left true b e = refl
and_left false b e = absurd (let z : false ≡ true = e in cc)

and_right : (a b : Bool) → (a && b) ≡ true → b ≡ true
and_right true b e = e
and_right false b e = absurd (let z : false ≡ true = e in cc)

not_is : (b : Bool) → not b ≡ true → b ≡ false
not_is true e = absurd (let z : false ≡ true = e in cc)
not_is false e = refl

one_fails : (a b : Bool) → a ≡ true → (a && not b) ≡ false → b ≡ true
one_fails true true e h = refl
one_fails true false e h = absurd (let z : true ≡ false = h in cc)
one_fails false b e h = absurd (let z : false ≡ true = e in cc)

-- the test is the definition
refined_true : (n r : Val) → is_refined n r ≡ true → Refines n r
refined_true n Corrupt e = inl refl
refined_true Zero Zero e = inr refl
refined_true One One e = inr refl
refined_true Zero One e = absurd (let x : false ≡ true = e in cc)
refined_true One Zero e = absurd (let x : false ≡ true = e in cc)
refined_true Corrupt Zero e = absurd (let x : false ≡ true = e in cc)
refined_true Corrupt One e = absurd (let x : false ≡ true = e in cc)

self_refined : (v : Val) → is_refined v v ≡ true
self_refined Zero = refl
self_refined One = refl
self_refined Corrupt = refl

corrupt_refined : (v : Val) → is_refined v Corrupt ≡ true
corrupt_refined Zero = refl
corrupt_refined One = refl
corrupt_refined Corrupt = refl

refined_false : (n r : Val) → is_refined n r ≡ false → Refines n r → ⊥
refined_false n r e (inl c) = let z : true ≡ false = sym (ap (is_refined n) c ∙ corrupt_refined n) ∙ e in cc
refined_false n r e (inr s) = let z : true ≡ false = sym (ap (λ v. is_refined v r) s ∙ self_refined r) ∙ e in cc

-- by places: where a net stands among the nets
abbrev pub rtl_place : Design → List ℕ → ℕ
rtl_place d output = place_of (nets d.rtl) output

abbrev pub net_place : Design → List ℕ → ℕ
net_place d output = place_of (net_nets d.circuit.netlist) output

-- the values of a case that refutes an output
pub refutes_by : (d : Design) (step : Step) (output : List ℕ) (c : Case) → IsCase d c → refutes d step (rtl_place d output) (net_place d output) c ≡ true →
    Refutes d step output c.bits (value_at c.rtl.items (rtl_place d output)) (value_at c.net.items (net_place d output))
refutes_by d step output c case e =
    let rtl = value_at c.rtl.items (rtl_place d output) in
    let net = value_at c.net.items (net_place d output) in
    record {
      permitted = record {
        states = c.states;
        rtl_map = c.rtl.items;
        net_map = c.net.items;
        cycle = case;
        holds = and_left (permits d step c) (not (is_refined net rtl)) e;
      };
      is_rtl = refl;
      is_net = refl;
      differs = refined_false net rtl (not_is (is_refined net rtl) (and_right (permits d step c) (not (is_refined net rtl)) e));
    }

pub refutes_agrees : (d : Design) (step : Step) (output : List ℕ) → IsSound d → Agrees d (refutes d step (rtl_place d output) (net_place d output)) (DoesRefute d step output)
refutes_agrees d step output sound = record {
  passes = λ c case e. record { rtl = value_at c.rtl.items (rtl_place d output); net = value_at c.net.items (net_place d output); refutes = refutes_by d step output c case e };
  fails = λ c case e other.
      let p = other.refutes.permitted in
      let same = one_cycle d (roots_of d c.bits) (inputs_of d c.bits) c.states p.states c.rtl.items p.rtl_map c.net.items p.net_map sound case p.cycle in
      let holds : permits d step c ≡ true = ap (row_holds (levels_after d step) d.supplies.table) same.states_same ∙ p.holds in
      let r : value_at c.rtl.items (rtl_place d output) ≡ other.rtl = ap (λ m. value_at m (rtl_place d output)) same.rtl_same ∙ sym other.refutes.is_rtl in
      let n : value_at c.net.items (net_place d output) ≡ other.net = ap (λ m. value_at m (net_place d output)) same.net_same ∙ sym other.refutes.is_net in
      let tested : is_refined (value_at c.net.items (net_place d output)) (value_at c.rtl.items (rtl_place d output)) ≡ true =
      one_fails (permits d step c) (is_refined (value_at c.net.items (net_place d output)) (value_at c.rtl.items (rtl_place d output))) holds e in
      other.refutes.differs (refined_true other.net other.rtl (sym (ap (λ v. is_refined v (value_at c.rtl.items (rtl_place d output))) n ∙ ap (is_refined other.net) r) ∙ tested));
}
