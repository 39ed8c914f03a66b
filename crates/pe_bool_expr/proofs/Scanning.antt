-- What a scan takes has a derivation, and where it stops no text goes on.
use Rattle.std.proofs.Common.{◌≡◌, ℕ, zero, suc, ◌+◌, ◌<◌, ◌≤◌, List, [], ◌∷◌, ◌++◌, Option, Some, None, length, take, drop, get_or, refl, sym, ap, ◌∙◌, subst, append_assoc, arith}
use Rattle.std.proofs.lemmas.List.{append-nil, take-append-drop, take_more}
use Rattle.std.proofs.lemmas.List.Elements.{All-append, All-cons, All-nil, All-take}
use Rattle.std.proofs.Math.Seq.{take-length}
use Rattle.std.specs.List.{All}
use Rattle.pe_grammar.specs.declared.terminal.Token.{Token}
use Rattle.pe_grammar.specs.Derivation.{Derivation}
use Rattle.pe_grammar.specs.Grammar.{Spells, IsViable, IsFault}
use Rattle.pe_bool_expr.specs.declared.scan.Expected.{Expected}
use Rattle.pe_bool_expr.specs.declared.scan.Expected.TheVariants as expected
use Rattle.pe_bool_expr.specs.declared.scan.State.{State}
use Rattle.pe_bool_expr.specs.declared.style.Style.{Style}
use Rattle.pe_bool_expr.specs.declared.style.Style.TheVariants.{Liberty, Upf}
use Rattle.pe_bool_expr.specs.declared.terminal.Role.{Role}
use Rattle.pe_bool_expr.specs.declared.terminal.Role.TheVariants.{Leading, Opening, Closing, Operand, Trailing, Joining}
use Rattle.pe_bool_expr.specs.Scan.{before_operand, behind_operand, begun, gone_on, behind, behind_all}
use Rattle.pe_bool_expr.specs.Styles.{table_of}
use Rattle.pe_bool_expr.specs.Terminals.{role_of}
use Rattle.pe_bool_expr.proofs.Running.{Ends, no_end, behind_append}
use Rattle.pe_bool_expr.proofs.Spelling.{Is, is_same, is_whole, IsOperand}
use Rattle.pe_bool_expr.proofs.Ways.{spelled_ends}
use Rattle.pe_bool_expr.proofs.Tokens.{Means, means, bracketed, side_by_side}

-- what may stand behind an operand and ends a text
abbrev Tail : Style → List Token → Type 0
Tail style xs = (ps : List Token) → IsOperand style ps → Is style 0 (ps ++ xs)

-- tokens of which P holds, and then for each parenthesis that is open the one that closes it and what stands behind that
abbrev Split : (List Token → Type 0) → Style → ℕ → List Token → Type 0
Split P style zero ts = P ts
Split P style (suc n) ts = (xs : List Token) × (c : Token) × (ys : List Token) × (ts ≡ xs ++ c ∷ ys) × (c.kind ≡ 11) × P xs × Split (Tail style) style n ys

-- tokens put before the first of these parts
grown : (P Q : List Token → Type 0) (style : Style) (xs : List Token) (n : ℕ) (ts : List Token) → ((ys : List Token) → P ys → Q (xs ++ ys)) → Split P style n ts → Split Q style n (xs ++ ts)
grown P Q style xs zero ts f h = f ts h
grown P Q style xs (suc n) ts f h = (xs ++ h.0, h.1, h.2, ap (λ v. xs ++ v) h.3 ∙ sym (append_assoc xs h.0 (h.1 ∷ h.2)), h.4, f h.0 h.5, h.6)

-- what is known of tokens that a scan takes with n parentheses open
record Known (style : Style) (ts : List Token) (n : ℕ) : Type 0 where
  before : Ends style (Some (before_operand n)) ts → Split (Is style 0) style n ts
  behind : Ends style (Some (behind_operand n)) ts → Split (Tail style) style n ts

-- one token more, where an operand is expected
begins : (style : Style) (role : Role) (t : Token) (ts : List Token) (n : ℕ) → Means style role t → ((n : ℕ) → Known style ts n) → Ends style (begun role n) ts → Split (Is style 0) style n (t ∷ ts)
begins style Leading t ts n m known h = grown (Is style 0) (Is style 0) style (t ∷ []) n ts m ((known n).before h)
begins style Opening t ts n m known h =
    let s = (known (suc n)).before h in
    let ps : List Token = (t ∷ s.0) ++ s.1 ∷ [] in
    let e : ps ++ s.2 ≡ t ∷ ts = ap (λ v. t ∷ v) (append_assoc s.0 (s.1 ∷ []) s.2 ∙ sym s.3) in
    subst (λ v. Split (Is style 0) style n v) e (grown (Tail style) (Is style 0) style ps n s.2 (λ ys f. f ps (bracketed style t s.1 s.0 m s.4 s.5)) s.6)
begins style Operand t ts n m known h = grown (Tail style) (Is style 0) style (t ∷ []) n ts (λ ys f. f (t ∷ []) m) ((known n).behind h)
begins style Closing t ts n m known h = no_end style ts h
begins style Trailing t ts n m known h = no_end style ts h
begins style Joining t ts n m known h = no_end style ts h

-- one token more, behind an operand
goes_on : (style : Style) (role : Role) (t : Token) (ts : List Token) (n : ℕ) → Means style role t → ((n : ℕ) → Known style ts n) → Ends style (gone_on style role n) ts → Split (Tail style) style n (t ∷ ts)
goes_on style Joining t ts n m known h =
    grown (Is style 0) (Tail style) style (t ∷ []) n ts (λ ys i. λ ps p. is_same style 0 (ps ++ t ∷ [] ++ ys) (ps ++ (t ∷ ys)) (append_assoc ps (t ∷ []) ys) (m ps p ys i)) ((known n).before h)
goes_on style Trailing t ts n m known h =
    grown (Tail style) (Tail style) style (t ∷ []) n ts (λ ys f. λ ps p. is_same style 0 (ps ++ t ∷ [] ++ ys) (ps ++ (t ∷ ys)) (append_assoc ps (t ∷ []) ys) (f (ps ++ t ∷ []) (m ps p))) ((known n).behind h)
goes_on style Closing t ts zero m known h = no_end style ts h
goes_on style Closing t ts (suc n) m known h = ([], t, ts, refl, m, λ ps p. is_same style 0 ps (ps ++ []) (sym (append-nil ps)) (is_whole style ps p), (known n).behind h)
goes_on Liberty Leading t ts n m known h = grown (Is Liberty 0) (Tail Liberty) Liberty [] n (t ∷ ts) (λ ys i. λ ps p. side_by_side ps ys p i) (begins Liberty Leading t ts n m known h)
goes_on Liberty Opening t ts n m known h = grown (Is Liberty 0) (Tail Liberty) Liberty [] n (t ∷ ts) (λ ys i. λ ps p. side_by_side ps ys p i) (begins Liberty Opening t ts n m known h)
goes_on Liberty Operand t ts n m known h = grown (Is Liberty 0) (Tail Liberty) Liberty [] n (t ∷ ts) (λ ys i. λ ps p. side_by_side ps ys p i) (begins Liberty Operand t ts n m known h)
goes_on Upf Leading t ts n m known h = no_end Upf ts h
goes_on Upf Opening t ts n m known h = no_end Upf ts h
goes_on Upf Operand t ts n m known h = no_end Upf ts h

-- tokens are terminals of the grammars
abbrev pub AreTerminals : List Token → Type 0
AreTerminals ts = All (λ t. t.kind < 12) ts

first_terminal : (t : Token) (ts : List Token) → AreTerminals (t ∷ ts) → t.kind < 12
first_terminal t ts k = k 0 t (omega arith)

further_terminals : (t : Token) (ts : List Token) → AreTerminals (t ∷ ts) → AreTerminals ts
further_terminals t ts k = λ i d h. k (suc i) d (omega arith)

known : (style : Style) (ts : List Token) → AreTerminals ts → (n : ℕ) → Known style ts n
known style [] k zero = record {
  before = λ h. let e : before_operand 0 ≡ behind_operand 0 = cc in let f = ap (λ s. s.expected) e in cc;
  behind = λ h. λ ps p. is_same style 0 ps (ps ++ []) (sym (append-nil ps)) (is_whole style ps p);
}
known style [] k (suc n) = record {
  before = λ h. let e : before_operand (suc n) ≡ behind_operand 0 = cc in let f = ap (λ s. s.expected) e in cc;
  behind = λ h. let e : behind_operand (suc n) ≡ behind_operand 0 = cc in let f = ap (λ s. s.depth) e in cc;
}
known style (t ∷ ts) k n = record {
  before = λ h. begins style (role_of style t.kind) t ts n (means style t (first_terminal t ts k)) (known style ts (further_terminals t ts k)) h;
  behind = λ h. goes_on style (role_of style t.kind) t ts n (means style t (first_terminal t ts k)) (known style ts (further_terminals t ts k)) h;
}

-- what may end behind the tokens has a derivation
pub ended_spelled : (style : Style) (ts : List Token) → AreTerminals ts → Ends style (Some (before_operand 0)) ts → (d : Derivation) × Spells (table_of style) 0 ts d
ended_spelled style ts k h = (known style ts k 0).before h

-- what ends a text behind this: an operand if one is expected, and a parenthesis for each that is open
closings : ℕ → List Token
closings zero = []
closings (suc n) = record { kind = 11; place = 0 } ∷ closings n

ending : Expected → ℕ → List Token
ending expected.Operand n = record { kind = 7; place = 0 } ∷ closings n
ending expected.Operator n = closings n

closings_end : (style : Style) (n : ℕ) → Ends style (Some (behind_operand n)) (closings n)
unfolding closings
closings_end style zero = refl
closings_end Liberty (suc n) = closings_end Liberty n
closings_end Upf (suc n) = closings_end Upf n

ending_ends : (style : Style) (e : Expected) (n : ℕ) → Ends style (Some (record { expected = e; depth = n })) (ending e n)
unfolding ending
ending_ends style expected.Operator n = closings_end style n
ending_ends Liberty expected.Operand n = closings_end Liberty n
ending_ends Upf expected.Operand n = closings_end Upf n

closings_terminals : (n : ℕ) → AreTerminals (closings n)
unfolding closings
closings_terminals zero = All-nil (λ t. t.kind < 12)
closings_terminals (suc n) = All-cons (λ t. t.kind < 12) _ (closings n) (omega arith) (closings_terminals n)

ending_terminals : (e : Expected) (n : ℕ) → AreTerminals (ending e n)
unfolding ending
ending_terminals expected.Operator n = closings_terminals n
ending_terminals expected.Operand n = All-cons (λ t. t.kind < 12) _ (closings n) (omega arith) (closings_terminals n)

abbrev start : Option State
start = Some (before_operand 0)

-- the tokens that a scan goes over begin a text
viable : (style : Style) (ts : List Token) (s : State) → AreTerminals ts → behind_all style start ts ≡ Some s → IsViable (table_of style) 0 ts
viable style ts s k h =
    let end = ending s.expected s.depth in
    let ends : Ends style start (ts ++ end) = behind_append style start ts end ∙ ap (λ o. behind_all style o end) h ∙ ending_ends style s.expected s.depth in
    let d = ended_spelled style (ts ++ end) (All-append (λ t. t.kind < 12) ts end k (ending_terminals s.expected s.depth)) ends in
    (end, d.0, d.1)

-- and those that it refuses don't
not_viable : (style : Style) (ts : List Token) → behind_all style start ts ≡ None → IsViable (table_of style) 0 ts → ⊥
not_viable style ts h v =
    no_end style v.0 (ap (λ o. behind_all style o v.0) (sym h) ∙ sym (behind_append style start ts v.0) ∙ spelled_ends style (ts ++ v.0) v.1 v.2)

-- a scan over one token more
pub one_more : (style : Style) (ts : List Token) (i : ℕ) (d : Token) (s : State) → i < length ts → behind_all style (Some (before_operand 0)) (take i ts) ≡ Some s →
    behind_all style (Some (before_operand 0)) (take (i + 1) ts) ≡ behind style (role_of style (get_or ts i d).kind) s
one_more style ts i d s lt h =
    ap (behind_all style start) (take_more ts i d lt) ∙ behind_append style start (take i ts) (get_or ts i d ∷ []) ∙ ap (λ o. behind_all style o (get_or ts i d ∷ [])) h

-- where a scan stops
pub stopped : (style : Style) (ts : List Token) (i : ℕ) (s : State) → AreTerminals ts → i < length ts → behind_all style (Some (before_operand 0)) (take i ts) ≡ Some s →
    behind_all style (Some (before_operand 0)) (take (i + 1) ts) ≡ None → IsFault (table_of style) 0 ts i
stopped style ts i s k lt h stop = record {
  within = omega arith;
  viable = viable style (take i ts) s (All-take (λ t. t.kind < 12) i ts k) h;
  not_further = λ _ v. not_viable style (take (i + 1) ts) stop v;
  no_text = λ d sp. not_viable style (take (i + 1) ts) stop (drop (i + 1) ts, d, record { derives = sp.derives; spelled = sp.spelled ∙ sym (take-append-drop (i + 1) ts) });
}

-- where it ends too early
pub unfinished : (style : Style) (ts : List Token) (i : ℕ) (s : State) → AreTerminals ts → i ≤ length ts → length ts ≤ i → behind_all style (Some (before_operand 0)) (take i ts) ≡ Some s →
    (s ≡ behind_operand 0 → ⊥) → IsFault (table_of style) 0 ts (length ts)
unfinished style ts i s k le ge h not_ended =
    let e : i ≡ length ts = omega arith in
    let all : take i ts ≡ ts = ap (λ n. take n ts) e ∙ take-length ts in
    record {
      within = omega arith;
      viable = viable style (take (length ts) ts) s (All-take (λ t. t.kind < 12) (length ts) ts k) (ap (λ n. behind_all style start (take n ts)) (sym e) ∙ h);
      not_further = λ lt v. absurd (omega arith);
      no_text = λ d sp.
          let both : Some s ≡ Some (behind_operand 0) = sym h ∙ ap (behind_all style start) all ∙ spelled_ends style ts d sp in
          not_ended (cc);
    }

-- and where it ends well
pub finished : (style : Style) (ts : List Token) (i : ℕ) (s : State) → AreTerminals ts → i ≤ length ts → length ts ≤ i → behind_all style (Some (before_operand 0)) (take i ts) ≡ Some s →
    s ≡ behind_operand 0 → (d : Derivation) × Spells (table_of style) 0 ts d
finished style ts i s k le ge h e =
    let n : i ≡ length ts = omega arith in
    let all : take i ts ≡ ts = ap (λ n. take n ts) n ∙ take-length ts in
    ended_spelled style ts k (ap (behind_all style start) (sym all) ∙ h ∙ ap (λ v. Some v) e)
