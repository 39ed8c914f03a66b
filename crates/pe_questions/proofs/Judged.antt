-- What is found among the cases of all assignments is an answer.
use Rattle.std.proofs.Common.{◌≡◌, Bool, List, ℕ, Option, Some, None, length, sym, ap, ◌∙◌, subst, arith}
use Rattle.std.proofs.lemmas.List.{length-take, length-drop}
use Rattle.std.specs.Prelude.{find}
use Rattle.pe_base.specs.declared.text.Step.{Step}
use Rattle.pe_base.specs.Names.{place_of}
use Rattle.pe_assigns.specs.Form.{nets, input_names}
use Rattle.pe_instances.specs.Form.{nets as net_nets}
use Rattle.pe_design.specs.declared.design.Design.{Design}
use Rattle.pe_design.specs.Refined.{rtl_value, net_value}
use Rattle.pe_design.specs.Sound.{IsSound}
use Rattle.pe_questions.specs.declared.cases.Case.{Case}
use Rattle.pe_questions.specs.Assignments.{width, roots_of, inputs_of, all_assignments}
use Rattle.pe_questions.specs.declared.answer.Answer.{Answer}
use Rattle.pe_questions.specs.declared.answer.Answer.TheVariants.{Mismatch, Sample}
use Rattle.pe_questions.specs.Answers.{HasNone, IsFirst, IsPermitted, DoesRefute, IsOutputAnswer, IsLiveAnswer}
use Rattle.pe_questions.specs.Cases.{AreCases, permits, refutes, told, sampled, value_at, IsReplayed}
use Rattle.pe_questions.proofs.Firsts.{none_found, is_found}
use Rattle.pe_questions.proofs.CaseFacts.{one_cycle, permits_agrees, refutes_agrees, refutes_by, rtl_place, net_place}

pub output_judged : (d : Design) (step : Step) (output : List ℕ) (cases : List Case) (o : Option Case) → IsSound d → AreCases d (all_assignments d) cases → find (refutes d step (rtl_place d output) (net_place d output)) cases ≡ o → IsOutputAnswer d step output (told (rtl_place d output) (net_place d output) o)
output_judged d step output cases None sound are e =
    subst (HasNone (DoesRefute d step output)) are.are
    (none_found d (refutes d step (rtl_place d output) (net_place d output)) (DoesRefute d step output) cases (refutes_agrees d step output sound) are.each e)
output_judged d step output cases (Some c) sound are e =
    let found = is_found d (refutes d step (rtl_place d output) (net_place d output)) (DoesRefute d step output) cases c (refutes_agrees d step output sound) are.each e in
    (refutes_by d step output c found.case found.passed, subst (λ list. IsFirst (DoesRefute d step output) list c.bits) are.are found.first)

pub live_judged : (d : Design) (step : Step) (cases : List Case) (o : Option Case) → IsSound d → AreCases d (all_assignments d) cases → find (permits d step) cases ≡ o → IsLiveAnswer d step (sampled o)
live_judged d step cases None sound are e =
    subst (HasNone (IsPermitted d step)) are.are (none_found d (permits d step) (IsPermitted d step) cases (permits_agrees d step sound) are.each e)
live_judged d step cases (Some c) sound are e =
    let found = is_found d (permits d step) (IsPermitted d step) cases c (permits_agrees d step sound) are.each e in
    subst (λ list. IsFirst (IsPermitted d step) list c.bits) are.are found.first

-- an assignment of a cycle has all bits
cycle_long : (d : Design) (bits : List Bool) → length (roots_of d bits) ≡ length d.supplies.roots → length (inputs_of d bits) ≡ length (input_names d.rtl) → length bits ≡ width d
cycle_long d bits roots inputs =
    omega (arith, roots, inputs, length-take (length d.supplies.roots) bits, length-drop (length d.supplies.roots) bits)

-- by places that are those of the output
abbrev pub ArePlaces : Design → List ℕ → ℕ → ℕ → Type 0
ArePlaces d output rtl net = (rtl ≡ rtl_place d output) × (net ≡ net_place d output)

-- as the indexes of both sides give them
pub placed : (d : Design) (output : List ℕ) (names others : List (List ℕ)) (rtl net : ℕ) → names ≡ nets d.rtl → others ≡ net_nets d.circuit.netlist → rtl ≡ place_of names output → net ≡ place_of others output → ArePlaces d output rtl net
placed d output names others rtl net r n x y = (x ∙ ap (λ z. place_of z output) r, y ∙ ap (λ z. place_of z output) n)

pub output_found : (d : Design) (step : Step) (output : List ℕ) (cases : List Case) (o : Option Case) (rtl net : ℕ) → IsSound d → AreCases d (all_assignments d) cases → ArePlaces d output rtl net → o ≡ find (refutes d step rtl net) cases → IsOutputAnswer d step output (told rtl net o)
output_found d step output cases o rtl net sound are (r, n) e =
    let here : IsOutputAnswer d step output (told (rtl_place d output) (net_place d output) o) =
    output_judged d step output cases o sound are (sym (e ∙ ap (λ x. find (refutes d step x net) cases) r ∙ ap (λ x. find (refutes d step (rtl_place d output) x) cases) n)) in
    subst (λ x. IsOutputAnswer d step output (told x net o)) (sym r) (subst (λ x. IsOutputAnswer d step output (told (rtl_place d output) x o)) (sym n) here)

-- what was found has all bits
pub found_long : (d : Design) (step : Step) (output : List ℕ) (cases : List Case) (c : Case) (rtl net : ℕ) (bits : List Bool) → IsSound d → AreCases d (all_assignments d) cases → ArePlaces d output rtl net → Some c ≡ find (refutes d step rtl net) cases →
    bits ≡ c.bits → length bits ≡ width d
found_long d step output cases c rtl net bits sound are places e b =
    let cycle = (output_found d step output cases (Some c) rtl net sound are places e).0.permitted.cycle in
    ap length b ∙ cycle_long d c.bits cycle.roots_long cycle.inputs_long

-- The assignment that was found has one cycle, so that the values of a second evaluation are those of the case.
pub mismatch_replayed : (d : Design) (step : Step) (output : List ℕ) (cases : List Case) (c : Case) (rtl net : ℕ) (bits : List Bool) (answer : Answer) → IsSound d → AreCases d (all_assignments d) cases → ArePlaces d output rtl net → Some c ≡ find (refutes d step rtl net) cases →
    bits ≡ c.bits → IsReplayed d rtl net bits answer → IsOutputAnswer d step output answer
mismatch_replayed d step output cases c rtl net bits answer sound are places e b replayed =
    let found = output_found d step output cases (Some c) rtl net sound are places e in
    let again = subst (λ z. IsReplayed d rtl net z answer) b replayed in
    let permitted = found.0.permitted in
    let same = one_cycle d (roots_of d c.bits) (inputs_of d c.bits) again.states permitted.states again.rtl_map permitted.rtl_map again.net_map permitted.net_map sound again.cycle permitted.cycle in
    let r : value_at again.rtl_map rtl ≡ value_at c.rtl.items rtl = ap (value_at again.rtl_map) places.0 ∙ ap (λ m. rtl_value d m output) same.rtl_same ∙ sym found.0.is_rtl in
    let n : value_at again.net_map net ≡ value_at c.net.items net = ap (value_at again.net_map) places.1 ∙ ap (λ m. net_value d m output) same.net_same ∙ sym found.0.is_net in
    let told : answer ≡ Mismatch c.bits (value_at c.rtl.items rtl) (value_at c.net.items net) =
    again.is ∙ ap (λ v. Mismatch c.bits v (value_at again.net_map net)) r ∙ ap (Mismatch c.bits (value_at c.rtl.items rtl)) n in
    subst (IsOutputAnswer d step output) (sym told) found

pub live_found : (d : Design) (step : Step) (cases : List Case) (o : Option Case) → IsSound d → AreCases d (all_assignments d) cases → o ≡ find (permits d step) cases → IsLiveAnswer d step (sampled o)
live_found d step cases o sound are e = live_judged d step cases o sound are (sym e)

pub sample_told : (d : Design) (step : Step) (cases : List Case) (c : Case) (bits : List Bool) → IsSound d → AreCases d (all_assignments d) cases → Some c ≡ find (permits d step) cases → bits ≡ c.bits → IsLiveAnswer d step (Sample bits)
sample_told d step cases c bits sound are e b = subst (λ z. IsLiveAnswer d step (Sample z)) (sym b) (live_found d step cases (Some c) sound are e)
