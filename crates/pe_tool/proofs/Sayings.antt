-- What is said has its cause.
use Rattle.std.proofs.Common.{◌≡◌, ◌≢◌, ◌⊎◌, ℕ, ◌<◌, Bool, true, false, cond, List, [], ◌∷◌, refl, sym, ◌∙◌, subst, inl, inr, arith, Option, Some, None, Result, Ok, Err, IfOk}
use Rattle.std.specs.Prelude.{◌==◌}
use Rattle.std.proofs.lemmas.Bool.Decides.{nat_tests}
use Rattle.pe_base.specs.declared.text.Want.{Want}
use Rattle.pe_base.specs.declared.text.Texts.{Texts}
use Rattle.pe_outside.specs.Outside.{HasRisen, grown}
use Rattle.pe_design.specs.declared.design.Design.{Design}
use Rattle.pe_design.specs.Refined.{Refined}
use Rattle.pe_front.specs.declared.fault.CheckFault.TheVariants.{Refused}
use Rattle.pe_front.specs.Given.{IsDesign}
use Rattle.pe_questions.specs.declared.answer.Answer.{Answer}
use Rattle.pe_questions.specs.Answers.{mismatched}
use Rattle.pe_questions.proofs.Headline.{refined_where_none, replays_where_some}
use Rattle.pe_tool.specs.declared.run.Said.{Said}
use Rattle.pe_tool.specs.Reads.{StandFor}
use Rattle.pe_tool.specs.Run.{FileNames, AreTold, names_of, Saying, reported, refused, unread, misused, IsCause, IsRight, status_of, bytes_of, OfTexts, NoneRose, IsOneOf, name_list, IsRefusedRun, IsUnreadRun, IsJudgedRun}
use Rattle.pe_tool.specs.Report.{report_status}
use Rattle.pe_tool.specs.Equivalent.{IsReported, IsEquivalent, HasMismatch}
use Rattle.pe_tool.specs.Said.{IsJudged, IsSaid}
use Rattle.pe_tool.proofs.Standing.{OneAnswer, same_given, same_reported, one_of, no_two}

-- what is right of texts that stand for the files is said with its cause
right_cause : (words : List (List ℕ)) (told : List ℕ → Option (List ℕ)) (before after : List ℕ → ℕ) (n : FileNames) (texts : Texts) (saying : Saying) → names_of words ≡ Some n → ((t : Texts) → AreTold told n t → StandFor texts t) → IsRight texts saying → IsCause words told before after saying
right_cause words told before after n texts (reported d answers) e stand r = (n, e, λ t h. same_reported texts t d answers (stand t h) r)
right_cause words told before after n texts (refused part fault) e stand r = (n, e, λ t h. same_given texts t (Err (Refused part fault)) (stand t h) r)
right_cause words told before after n texts (unread name) e stand r = absurd r
right_cause words told before after n texts misused e stand r = absurd r

pub judged_said : (words : List (List ℕ)) (told : List ℕ → Option (List ℕ)) (before after : List ℕ → ℕ) (n : FileNames) (texts : Texts) (answer : Result Said Want) → names_of words ≡ Some n → ((t : Texts) → AreTold told n t → StandFor texts t) →
    IfOk answer (IsJudged texts) → IfOk answer (IsSaid words told before after)
judged_said words told before after n texts (Ok said) e stand h = record { saying = h.saying; cause = right_cause words told before after n texts h.saying e stand h.right; says = h.says }
judged_said words told before after n texts (Err want) e stand h = tt

status_low : (b : Bool) (k : ℕ) → cond b 0 1 ≡ k → k < 2
status_low true k e = omega (arith, e)
status_low false k e = omega (arith, e)

is_zero : (n : ℕ) → ◌≡◌ {A = ℕ} (cond (n == 0) 0 1) 0 → n ≡ 0
is_zero n e = grind (arith, nat_tests)

-- where the report's status is 0, the design is refined
report_refined : (t : Texts) (d : Design) (answers : List Answer) → report_status answers ≡ 0 → IsReported t d answers → Refined d
report_refined t d answers nothing r = refined_where_none d answers r.are (is_zero (mismatched answers) nothing)

-- and the texts' netlist is equivalent to the RTL
report_equivalent : OneAnswer → (t : Texts) (d : Design) (answers : List Answer) → report_status answers ≡ 0 → IsReported t d answers → IsEquivalent t
report_equivalent one t d answers nothing r = record {
  design = d;
  given = r.given;
  refined = λ e y. (let P : Design → Type 0 = λ c. Refined c in subst P (one_of one t d e r.given y) (report_refined t d answers nothing r));
}

not_zero : (n : ℕ) → ◌≡◌ {A = ℕ} (cond (n == 0) 0 1) 1 → n ≢ 0
not_zero n e = grind (arith, nat_tests)

-- where it is 1, a mismatch replays
report_mismatch : (t : Texts) (d : Design) (answers : List Answer) → report_status answers ≡ 1 → IsReported t d answers → HasMismatch t
report_mismatch t d answers one r = record { design = d; given = r.given; replays = replays_where_some d answers r.are (not_zero (mismatched answers) one) }

pub said_accepted : OneAnswer → (words : List (List ℕ)) (told : List ℕ → Option (List ℕ)) (before after : List ℕ → ℕ) (saying : Saying) (status : ℕ) → IsCause words told before after saying → status ≡ status_of saying → status ≡ 0 → OfTexts words told IsEquivalent
said_accepted one words told before after (reported d answers) status (n, e, h) s z = (n, e, λ t told_is. report_equivalent one t d answers (sym s ∙ z) (h t told_is))
said_accepted one words told before after (refused part fault) status c s z = absurd (let x : 0 ≡ 3 = sym z ∙ s in omega (arith, x))
said_accepted one words told before after (unread name) status c s z = absurd (let x : 0 ≡ 4 = sym z ∙ s in omega (arith, x))
said_accepted one words told before after misused status c s z = absurd (let x : 0 ≡ 6 = sym z ∙ s in omega (arith, x))

pub said_mismatch : (words : List (List ℕ)) (told : List ℕ → Option (List ℕ)) (before after : List ℕ → ℕ) (saying : Saying) (status : ℕ) → IsCause words told before after saying → status ≡ status_of saying → status ≡ 1 → OfTexts words told HasMismatch
said_mismatch words told before after (reported d answers) status (n, e, h) s z = (n, e, λ t told_is. report_mismatch t d answers (sym s ∙ z) (h t told_is))
said_mismatch words told before after (refused part fault) status c s z = absurd (let x : 1 ≡ 3 = sym z ∙ s in omega (arith, x))
said_mismatch words told before after (unread name) status c s z = absurd (let x : 1 ≡ 4 = sym z ∙ s in omega (arith, x))
said_mismatch words told before after misused status c s z = absurd (let x : 1 ≡ 6 = sym z ∙ s in omega (arith, x))

pub said_refused : (words : List (List ℕ)) (told : List ℕ → Option (List ℕ)) (before after : List ℕ → ℕ) (old new : Option (List ℕ)) (saying : Saying) (status : ℕ) → IsCause words told before after saying → status ≡ status_of saying → new ≡ grown old (bytes_of saying) → status ≡ 3 → IsRefusedRun words told old new
said_refused words told before after old new (reported d answers) status c s w z = absurd (let x : cond (mismatched answers == 0) 0 1 ≡ 3 = sym s ∙ z in let l = status_low (mismatched answers == 0) 3 x in omega arith)
said_refused words told before after old new (refused part fault) status c s w z = (part, fault, c, w)
said_refused words told before after old new (unread name) status c s w z = absurd (let x : 4 ≡ 3 = sym s ∙ z in omega (arith, x))
said_refused words told before after old new misused status c s w z = absurd (let x : 6 ≡ 3 = sym s ∙ z in omega (arith, x))

pub said_unread : (words : List (List ℕ)) (told : List ℕ → Option (List ℕ)) (before after : List ℕ → ℕ) (old new : Option (List ℕ)) (saying : Saying) (status : ℕ) → IsCause words told before after saying → status ≡ status_of saying → new ≡ grown old (bytes_of saying) → status ≡ 4 → IsUnreadRun words before after old new
said_unread words told before after old new (reported d answers) status c s w z = absurd (let x : cond (mismatched answers == 0) 0 1 ≡ 4 = sym s ∙ z in let l = status_low (mismatched answers == 0) 4 x in omega arith)
said_unread words told before after old new (refused part fault) status c s w z = absurd (let x : 3 ≡ 4 = sym s ∙ z in omega (arith, x))
said_unread words told before after old new (unread name) status (n, e, i, r) s w z = (n, name, e, i, r, w)
said_unread words told before after old new misused status c s w z = absurd (let x : 6 ≡ 4 = sym s ∙ z in omega (arith, x))

none_rose : (before after : List ℕ → ℕ) (names : List (List ℕ)) (name : List ℕ) → NoneRose before after names → IsOneOf names name → HasRisen (before name) (after name) → ⊥
none_rose before after [] name h i r = i
none_rose before after (other ∷ names) name h (inl e) r = let P : List ℕ → Type 0 = λ x. HasRisen (before x) (after x) in h.0 (subst P (sym e) r)
none_rose before after (other ∷ names) name h (inr i) r = none_rose before after names name h.1 i r

same_names : (m n : FileNames) → Some m ≡ Some n → m ≡ n
same_names m n e = cc

pub said_judged : (words : List (List ℕ)) (told : List ℕ → Option (List ℕ)) (before after : List ℕ → ℕ) (old new : Option (List ℕ)) (saying : Saying) (status : ℕ) → IsCause words told before after saying → status ≡ status_of saying → new ≡ grown old (bytes_of saying) →
    (n : FileNames) (t : Texts) → names_of words ≡ Some n → AreTold told n t → NoneRose before after (name_list n) → IsJudgedRun t status old new
said_judged words told before after old new (reported d answers) status (m, e, h) s w n t f told_is quiet =
    let P : FileNames → Type 0 = λ x. AreTold told x t in
    (reported d answers, h t (subst P (sym (same_names m n (sym e ∙ f))) told_is), s, w)
said_judged words told before after old new (refused part fault) status (m, e, h) s w n t f told_is quiet =
    let P : FileNames → Type 0 = λ x. AreTold told x t in
    (refused part fault, h t (subst P (sym (same_names m n (sym e ∙ f))) told_is), s, w)
said_judged words told before after old new (unread name) status (m, e, i, r) s w n t f told_is quiet =
    let P : FileNames → Type 0 = λ x. NoneRose before after (name_list x) in
    absurd (none_rose before after (name_list m) name (subst P (sym (same_names m n (sym e ∙ f))) quiet) i r)
said_judged words told before after old new misused status c s w n t f told_is quiet = absurd (let x : None ≡ Some n = sym c ∙ f in cc)

either_status : (answers : List Answer) → (report_status answers ≡ 0) ⊎ (report_status answers ≡ 1)
either_status answers = by_test (mismatched answers == 0)
  where
    by_test : (b : Bool) → (◌≡◌ {A = ℕ} (cond b 0 1) 0) ⊎ (◌≡◌ {A = ℕ} (cond b 0 1) 1)
    by_test true = inl refl
    by_test false = inr refl

-- what is right of texts that give a design says whether it is refined
pub judged_complete : OneAnswer → (t : Texts) (d : Design) (saying : Saying) (status : ℕ) → IsDesign t d → IsRight t saying → status ≡ status_of saying → ((status ≡ 0) × Refined d) ⊎ ((status ≡ 1) × HasMismatch t)
judged_complete one t d (reported e answers) status x r s =
    elim (either_status answers) [
      | inl z ↦ inl (s ∙ z, (let P : Design → Type 0 = λ c. Refined c in subst P (one_of one t e d r.given x) (report_refined t e answers z r)))
      | inr o ↦ inr (s ∙ o, report_mismatch t e answers o r)
    ]
judged_complete one t d (refused part fault) status x r s = absurd (no_two one t d part fault x r)
judged_complete one t d (unread name) status x r s = absurd r
judged_complete one t d misused status x r s = absurd r
