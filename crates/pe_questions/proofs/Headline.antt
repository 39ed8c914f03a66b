-- What lists of answers say of a design.
use Rattle.std.proofs.Common.{◌≡◌, ◌≢◌, ◌⊎◌, ℕ, zero, suc, ◌+◌, ◌<◌, Bool, true, false, cond, List, [], ◌∷◌, ◌++◌, length, take, drop, refl, sym, ap, ◌∙◌, subst, arith, inl, inr, length-append}
use Rattle.std.specs.List.{Contains}
use Rattle.std.proofs.lemmas.List.Elements.{All-head, All-tail, All-contains, Contains-append_right}
use Rattle.std.proofs.lemmas.List.Sums.{sum_by-cons}
use Rattle.std.proofs.Math.Seq.{take-append_seam, drop-append_seam}
use Rattle.pe_base.specs.declared.value.Val.{Val}
use Rattle.pe_base.specs.declared.value.Val.TheVariants.{Zero, One, Corrupt}
use Rattle.pe_base.specs.declared.text.Step.{Step}
use Rattle.pe_base.specs.declared.text.Step.TheVariants.{Start}
use Rattle.pe_base.specs.Values.{Refines}
use Rattle.pe_nets.specs.Nets.{name_at}
use Rattle.pe_supply.specs.Rows.{row_holds}
use Rattle.pe_assigns.specs.Form.{output_names}
use Rattle.pe_design.specs.declared.design.Design.{Design}
use Rattle.pe_design.specs.Sound.{IsSound}
use Rattle.pe_design.specs.Refined.{IsCycle, rtl_value, net_value, Refined, Replays}
use Rattle.pe_questions.specs.declared.question.Question.{Question}
use Rattle.pe_questions.specs.declared.question.Point.{Point}
use Rattle.pe_questions.specs.declared.question.Point.TheVariants.{Output, Live}
use Rattle.pe_questions.specs.declared.answer.Answer.{Answer}
use Rattle.pe_questions.specs.declared.answer.Answer.TheVariants.{Holds, Mismatch, Sample, Empty}
use Rattle.pe_questions.specs.Assignments.{width, roots_of, inputs_of, all_assignments}
use Rattle.pe_questions.specs.Questions.{output_question, live_question, levels_of, levels_after, questions}
use Rattle.pe_questions.specs.Answers.{IsPermitted, Refutes, DoesRefute, HasNone, IsFirst, IsOutputAnswer, IsLiveAnswer, IsPointAnswer, IsAnswer, AreAnswers, is_mismatch, mismatched}
use Rattle.pe_questions.proofs.Trying.{is_assignment}
use Rattle.pe_questions.proofs.CaseFacts.{one_cycle}
use Rattle.pe_questions.proofs.Asked.{told_of, asked_of, is_asked, asked_is, some_at, there_at, any_default, contains_at}

-- a value may stand for another, or it may not
refines_or_not : (n r : Val) → Refines n r ⊎ (Refines n r → ⊥)
refines_or_not n Corrupt = inl (inl refl)
refines_or_not Zero Zero = inl (inr refl)
refines_or_not One One = inl (inr refl)
refines_or_not Zero One = inr (λ e. elim e [ inl a ↦ absurd (let z : One ≡ Corrupt = a in cc) | inr b ↦ absurd (let z : Zero ≡ One = b in cc) ])
refines_or_not One Zero = inr (λ e. elim e [ inl a ↦ absurd (let z : Zero ≡ Corrupt = a in cc) | inr b ↦ absurd (let z : One ≡ Zero = b in cc) ])
refines_or_not Corrupt Zero = inr (λ e. elim e [ inl a ↦ absurd (let z : Zero ≡ Corrupt = a in cc) | inr b ↦ absurd (let z : Corrupt ≡ Zero = b in cc) ])
refines_or_not Corrupt One = inr (λ e. elim e [ inl a ↦ absurd (let z : One ≡ Corrupt = a in cc) | inr b ↦ absurd (let z : Corrupt ≡ One = b in cc) ])

-- where no answer is a mismatch, one among them is none
counted : (a : Answer) (answers : List Answer) → mismatched (a ∷ answers) ≡ cond (is_mismatch a) 1 0 + mismatched answers
counted a answers = sum_by-cons (λ x. cond (is_mismatch x) 1 0) a answers

no_mismatch : (answers : List Answer) (a : Answer) → mismatched answers ≡ 0 → Contains answers a → is_mismatch a ≡ false
no_mismatch [] a e (k, l, f) = absurd (omega arith)
no_mismatch (b ∷ answers) a e (zero, l, f) = at (is_mismatch b) refl
  where
    at : (m : Bool) → is_mismatch b ≡ m → is_mismatch a ≡ false
    at false s = ap is_mismatch (sym f) ∙ s
    at true s =
        let n : ◌≡◌ {A = ℕ} (cond (is_mismatch b) 1 0) 1 = ap (λ m. cond m 1 0) s in
        absurd (omega (arith, counted b answers, n, e))
no_mismatch (b ∷ answers) a e (suc k, l, f) = no_mismatch answers a (omega (arith, counted b answers, e)) (k, omega arith, f)

some_mismatch : (answers : List Answer) → mismatched answers ≢ 0 → (a : Answer) × Contains answers a × (is_mismatch a ≡ true)
some_mismatch [] h = absurd (h refl)
some_mismatch (b ∷ answers) h = at (is_mismatch b) refl (some_mismatch answers)
  where
    at : (m : Bool) → is_mismatch b ≡ m → (mismatched answers ≢ 0 → (a : Answer) × Contains answers a × (is_mismatch a ≡ true)) → (a : Answer) × Contains (b ∷ answers) a × (is_mismatch a ≡ true)
    at true s behind = (b, (zero, omega arith, refl), s)
    at false s behind =
        let n : ◌≡◌ {A = ℕ} (cond (is_mismatch b) 1 0) 0 = ap (λ m. cond m 1 0) s in
        let c = counted b answers in
        let more = behind (λ z. h (omega (arith, c, n, z))) in
        let there = more.1 in
        (more.0, (suc there.0, omega (arith, there.1), there.2), more.2)

-- an answer to an output's question that is no mismatch says that no assignment refutes it
none_refutes : (d : Design) (step : Step) (output : List ℕ) (a : Answer) → is_mismatch a ≡ false → IsOutputAnswer d step output a → HasNone (DoesRefute d step output) (all_assignments d)
none_refutes d step output Holds e is = is
none_refutes d step output (Mismatch bits rtl net) e is = absurd (let z : true ≡ false = e in cc)
none_refutes d step output (Sample bits) e is = absurd is
none_refutes d step output Empty e is = absurd is

-- where no answer is a mismatch, the netlist is equivalent
pub refined_where_none : (d : Design) (answers : List Answer) → AreAnswers d (questions d) answers → mismatched answers ≡ 0 → Refined d
refined_where_none d answers are none = record {
  each = λ row output roots inputs states rtl_map net_map in_rows in_outputs cycle holds.
      let (q, few, row_is) = in_rows in
      let (k, less, output_is) = in_outputs in
      let names = output_names d.rtl in
      let told = told_of d (questions d) answers (output_question q k) are (is_asked (length names) (length d.supplies.rows) q k few less) in
      let free = none_refutes d (Start q) (name_at names k) told.answer (no_mismatch answers told.answer none told.there) told.is in
      let named : name_at names k ≡ output = any_default names k [] output less ∙ output_is in
      let levels : levels_after d (Start q) ≡ row.levels = ap levels_of (some_at d.supplies.rows q row few row_is) in
      let bits = roots ++ inputs in
      let long : length bits ≡ width d = length-append roots inputs ∙ ap (λ n. n + length inputs) cycle.roots_long ∙ ap (λ n. length d.supplies.roots + n) cycle.inputs_long in
      let front : roots_of d bits ≡ roots = ap (λ n. take n bits) (sym cycle.roots_long) ∙ take-append_seam roots inputs in
      let back : inputs_of d bits ≡ inputs = ap (λ n. drop n bits) (sym cycle.roots_long) ∙ drop-append_seam roots inputs in
      let moved : IsCycle d (roots_of d bits) (inputs_of d bits) states rtl_map net_map =
      subst (λ r. IsCycle d r (inputs_of d bits) states rtl_map net_map) (sym front) (subst (λ i. IsCycle d roots i states rtl_map net_map) (sym back) cycle) in
      let permitted : IsPermitted d (Start q) bits = record {
        states = states;
        rtl_map = rtl_map;
        net_map = net_map;
        cycle = moved;
        holds = ap (λ l. row_holds l d.supplies.table states) levels ∙ holds;
      } in
      elim (refines_or_not (net_value d net_map output) (rtl_value d rtl_map output)) [
        | inl fine ↦ fine
        | inr differs ↦ absurd (All-contains (λ b. DoesRefute d (Start q) (name_at names k) b → ⊥) (all_assignments d) bits free (is_assignment (width d) bits long) (record {
          rtl = rtl_value d rtl_map output;
          net = net_value d net_map output;
          refutes = record {
            permitted = permitted;
            is_rtl = ap (rtl_value d rtl_map) (sym named);
            is_net = ap (net_value d net_map) (sym named);
            differs = differs;
          };
        }))
      ];
}

-- a mismatch replays
replays_at : (d : Design) (q k : ℕ) (bits : List Bool) (rtl net : Val) → q < length d.supplies.rows → k < length (output_names d.rtl) → Refutes d (Start q) (name_at (output_names d.rtl) k) bits rtl net → Replays d
replays_at d q k bits rtl net few less refutes =
    let (row, row_is, in_rows) = there_at d.supplies.rows q few in
    let names = output_names d.rtl in
    let p = refutes.permitted in
    record {
      row = row;
      output = name_at names k;
      roots = roots_of d bits;
      inputs = inputs_of d bits;
      states = p.states;
      rtl_map = p.rtl_map;
      net_map = p.net_map;
      in_rows = in_rows;
      in_outputs = contains_at names k [] less;
      cycle = p.cycle;
      holds = ap (λ l. row_holds l d.supplies.table p.states) (sym (ap levels_of row_is)) ∙ p.holds;
      differs = λ fine. refutes.differs (subst (λ r. Refines net r) (sym refutes.is_rtl) (subst (λ n. Refines n (rtl_value d p.rtl_map (name_at names k))) (sym refutes.is_net) fine));
    }

pub replays_where_some : (d : Design) (answers : List Answer) → AreAnswers d (questions d) answers → mismatched answers ≢ 0 → Replays d
replays_where_some d answers are h =
    let (a, there, is) = some_mismatch answers h in
    let asked = asked_of d (questions d) answers a are there in
    let of_row = asked_is (length (output_names d.rtl)) (length d.supplies.rows) asked.question asked.there in
    at_point a of_row.row asked.question is of_row.few asked.is of_row.is
  where
    at_point : (a : Answer) (q : ℕ) (question : Question) → is_mismatch a ≡ true → q < length d.supplies.rows → IsAnswer d question a → ((k : ℕ) × (k < length (output_names d.rtl)) × (question ≡ output_question q k)) ⊎ (question ≡ live_question q) → Replays d
    at_point (Mismatch bits rtl net) q question e few is (inl (k, less, same)) =
        let moved : IsAnswer d (output_question q k) (Mismatch bits rtl net) = subst (λ x. IsAnswer d x (Mismatch bits rtl net)) same is in
        replays_at d q k bits rtl net few less moved.0
    at_point (Mismatch bits rtl net) q question e few is (inr same) =
        let moved : IsAnswer d (live_question q) (Mismatch bits rtl net) = subst (λ x. IsAnswer d x (Mismatch bits rtl net)) same is in
        absurd moved
    at_point Holds q question e few is of_row = absurd (let z : false ≡ true = e in cc)
    at_point (Sample bits) q question e few is of_row = absurd (let z : false ≡ true = e in cc)
    at_point Empty q question e few is of_row = absurd (let z : false ≡ true = e in cc)

-- the first of a list with a property is one
one_first : (P : List Bool → Type 0) (before after others rest : List (List Bool)) (x y : List Bool) → before ++ x ∷ after ≡ others ++ y ∷ rest → HasNone P before → HasNone P others → P x → P y → x ≡ y
one_first P [] after [] rest x y e none quiet p q = cc
one_first P [] after (o ∷ others) rest x y e none quiet p q =
    let s : x ≡ o = cc in
    absurd (All-head (λ b. P b → ⊥) o others quiet (subst P s p))
one_first P (b ∷ before) after [] rest x y e none quiet p q =
    let s : y ≡ b = cc in
    absurd (All-head (λ c. P c → ⊥) b before none (subst P s q))
one_first P (b ∷ before) after (o ∷ others) rest x y e none quiet p q =
    let s : before ++ x ∷ after ≡ others ++ y ∷ rest = cc in
    one_first P before after others rest x y s (All-tail (λ c. P c → ⊥) b before none) (All-tail (λ c. P c → ⊥) o others quiet) p q

first_is_first : (P : List Bool → Type 0) (list : List (List Bool)) (x y : List Bool) → IsFirst P list x → IsFirst P list y → x ≡ y
first_is_first P list x y a b = one_first P a.before a.after b.before b.after x y (sym a.splits ∙ b.splits) a.none b.none a.has b.has

-- where none has the property none is the first
not_first : (P : List Bool → Type 0) (list : List (List Bool)) (x : List Bool) → HasNone P list → IsFirst P list x → ⊥
not_first P list x none first =
    let there : Contains (first.before ++ x ∷ first.after) x = Contains-append_right first.before (x ∷ first.after) x (zero, omega arith, refl) in
    All-contains (λ b. P b → ⊥) list x none (subst (λ l. Contains l x) (sym first.splits) there) first.has

-- of an assignment that refutes an output there is one value of each side
same_values : (d : Design) (step : Step) (output : List ℕ) (bits : List Bool) (rtl net rtl_other net_other : Val) → IsSound d → Refutes d step output bits rtl net → Refutes d step output bits rtl_other net_other → Mismatch bits rtl net ≡ Mismatch bits rtl_other net_other
same_values d step output bits rtl net rtl_other net_other sound a b =
    let p = a.permitted in
    let o = b.permitted in
    let same = one_cycle d (roots_of d bits) (inputs_of d bits) p.states o.states p.rtl_map o.rtl_map p.net_map o.net_map sound p.cycle o.cycle in
    let r : rtl ≡ rtl_other = a.is_rtl ∙ ap (λ m. rtl_value d m output) same.rtl_same ∙ sym b.is_rtl in
    let n : net ≡ net_other = a.is_net ∙ ap (λ m. net_value d m output) same.net_same ∙ sym b.is_net in
    ap (λ v. Mismatch bits v net) r ∙ ap (Mismatch bits rtl_other) n

one_output_answer : (d : Design) (step : Step) (output : List ℕ) (a b : Answer) → IsSound d → IsOutputAnswer d step output a → IsOutputAnswer d step output b → a ≡ b
one_output_answer d step output Holds Holds sound x y = refl
one_output_answer d step output Holds (Mismatch bits rtl net) sound x y = absurd (not_first (DoesRefute d step output) (all_assignments d) bits x y.1)
one_output_answer d step output (Mismatch bits rtl net) Holds sound x y = absurd (not_first (DoesRefute d step output) (all_assignments d) bits y x.1)
one_output_answer d step output (Mismatch bits rtl net) (Mismatch others r n) sound x y =
    let same = first_is_first (DoesRefute d step output) (all_assignments d) bits others x.1 y.1 in
    let moved : Refutes d step output bits r n = subst (λ b. Refutes d step output b r n) (sym same) y.0 in
    same_values d step output bits rtl net r n sound x.0 moved ∙ ap (λ b. Mismatch b r n) same
one_output_answer d step output (Sample bits) b sound x y = absurd x
one_output_answer d step output Empty b sound x y = absurd x
one_output_answer d step output Holds (Sample bits) sound x y = absurd y
one_output_answer d step output Holds Empty sound x y = absurd y
one_output_answer d step output (Mismatch bits rtl net) (Sample others) sound x y = absurd y
one_output_answer d step output (Mismatch bits rtl net) Empty sound x y = absurd y

one_live_answer : (d : Design) (step : Step) (a b : Answer) → IsLiveAnswer d step a → IsLiveAnswer d step b → a ≡ b
one_live_answer d step (Sample bits) (Sample others) x y = ap Sample (first_is_first (IsPermitted d step) (all_assignments d) bits others x y)
one_live_answer d step (Sample bits) Empty x y = absurd (not_first (IsPermitted d step) (all_assignments d) bits y x)
one_live_answer d step Empty (Sample bits) x y = absurd (not_first (IsPermitted d step) (all_assignments d) bits x y)
one_live_answer d step Empty Empty x y = refl
one_live_answer d step Holds b x y = absurd x
one_live_answer d step (Mismatch bits rtl net) b x y = absurd x
one_live_answer d step (Sample bits) Holds x y = absurd y
one_live_answer d step (Sample bits) (Mismatch others rtl net) x y = absurd y
one_live_answer d step Empty Holds x y = absurd y
one_live_answer d step Empty (Mismatch bits rtl net) x y = absurd y

one_answer : (d : Design) (step : Step) (point : Point) (a b : Answer) → IsSound d → IsPointAnswer d step point a → IsPointAnswer d step point b → a ≡ b
one_answer d step (Output k) a b sound x y = one_output_answer d step (name_at (output_names d.rtl) k) a b sound x y
one_answer d step Live a b sound x y = one_live_answer d step a b x y

-- questions have one list of answers
pub one_list : (d : Design) (qs : List Question) (answers others : List Answer) → IsSound d → AreAnswers d qs answers → AreAnswers d qs others → answers ≡ others
one_list d [] [] [] sound x y = refl
one_list d [] (a ∷ answers) others sound x y = absurd x
one_list d [] [] (b ∷ others) sound x y = absurd y
one_list d (q ∷ qs) [] others sound x y = absurd x
one_list d (q ∷ qs) (a ∷ answers) [] sound x y = absurd y
one_list d (q ∷ qs) (a ∷ answers) (b ∷ others) sound x y =
    ap (λ z. z ∷ answers) (one_answer d q.step q.point a b sound x.0 y.0) ∙ ap (λ zs. b ∷ zs) (one_list d qs answers others sound x.1 y.1)
