-- A text has one outcome: it is one function, or it is none for one reason.
use Rattle.std.proofs.Common.{◌≡◌, ◌⊎◌, inl, inr, ℕ, ◌+◌, ◌<◌, ◌≤◌, Bool, true, cond, ltb, List, ◌++◌, length, take, drop, Option, Some, None, Result, Ok, Err, refl, sym, ap, ◌∙◌, subst, append_assoc, arith}
use Rattle.std.proofs.lemmas.Bool.{lt-ltb, le-ltb}
use Rattle.std.proofs.lemmas.List.{take-append-drop, take-append-le, length-take}
use Rattle.std.specs.Prelude.{MatchResult}
use Rattle.pe_grammar.specs.declared.form.Entry.{Entry}
use Rattle.pe_grammar.specs.declared.terminal.Token.{Token as Terminal}
use Rattle.pe_grammar.specs.Derivation.{Derivation}
use Rattle.pe_grammar.specs.Grammar.{IsViable, IsFault}
use Rattle.pe_grammar.specs.Test.{passes}
use Rattle.pe_grammar.proofs.Theory.{unique}
use Rattle.pe_grammar.proofs.Test.{deterministic}
use Rattle.pe_text.specs.declared.token.Token.{Token}
use Rattle.pe_text.specs.Cut.{IsBadAt, IsCut}
use Rattle.pe_text.proofs.Walking.{one_cut, not_both, one_bad}
use Rattle.pe_bool_expr.specs.declared.expr.Expr.{Expr}
use Rattle.pe_bool_expr.specs.declared.fault.ExprFault.{ExprFault}
use Rattle.pe_bool_expr.specs.declared.fault.ExprFault.TheVariants.{Memory, Syntax, NoName, Deep, Inputs}
use Rattle.pe_bool_expr.specs.declared.style.Style.{Style}
use Rattle.pe_bool_expr.specs.declared.style.Style.TheVariants.{Liberty, Upf}
use Rattle.pe_bool_expr.specs.Functions.{different, pins_of}
use Rattle.pe_bool_expr.specs.Names.{first_unknown}
use Rattle.pe_bool_expr.specs.Nesting.{first_deep}
use Rattle.pe_bool_expr.specs.Reading.{IsParse, IsOf, IsRefused, IsOutcome, IsAnswered, tree_of, start_of}
use Rattle.pe_bool_expr.specs.Styles.{table_of, class_of}
use Rattle.pe_bool_expr.specs.Terminals.{terminals_from}

table_passes : (style : Style) → passes (table_of style) ≡ true
table_passes Liberty = refl
table_passes Upf = refl

-- the tokens have one derivation
one_parse : (style : Style) (text : List ℕ) (tokens : List Token) (d e : Derivation) → IsParse style text tokens d → IsParse style text tokens e → d ≡ e
one_parse style text tokens d e p q = unique (table_of style) (deterministic (table_of style) (table_passes style)) 0 (terminals_from style text 0 tokens) d e p q

-- what begins a text, each beginning of it does
earlier : (g : List Entry) (n : ℕ) (ts : List Terminal) (a b : ℕ) → a ≤ b → a ≤ length ts → IsViable g n (take b ts) → IsViable g n (take a ts)
earlier g n ts a b le within v =
    let front : take a (take b ts) ≡ take a ts = sym (take-append-le a (take b ts) (drop b ts) (omega (arith, length-take b ts))) ∙ ap (take a) (take-append-drop b ts) in
    let between = drop a (take b ts) in
    let split : take b ts ≡ take a ts ++ between = sym (take-append-drop a (take b ts)) ∙ ap (λ u. u ++ between) front in
    (between ++ v.0, v.1, record { derives = v.2.derives; spelled = v.2.spelled ∙ ap (λ u. u ++ v.0) split ∙ append_assoc (take a ts) between v.0 })

not_before : (g : List Entry) (n : ℕ) (ts : List Terminal) (a b : ℕ) → IsFault g n ts a → IsFault g n ts b → a < b → ⊥
not_before g n ts a b p q lt = p.not_further (omega (arith, q.within)) (earlier g n ts (a + 1) b (omega arith) (omega (arith, q.within)) q.viable)

-- tokens go wrong at one place
one_fault : (g : List Entry) (n : ℕ) (ts : List Terminal) (a b : ℕ) → IsFault g n ts a → IsFault g n ts b → a ≡ b
one_fault g n ts a b p q =
    let not_less : a < b → ⊥ = not_before g n ts a b p q in
    let not_more : b < a → ⊥ = not_before g n ts b a q p in
    omega arith

-- the outcome of tokens with a derivation of this tree
abbrev by_inputs : Bool → ℕ → Expr → Result Expr ExprFault
by_inputs many count e = cond many (Err (Inputs count)) (Ok e)

abbrev by_nesting : List ℕ → List Token → Option Terminal → Expr → Result Expr ExprFault
by_nesting text tokens None e = by_inputs (ltb 10 (length (different (pins_of e)))) (length (different (pins_of e))) e
by_nesting text tokens (Some t) e = Err (Deep (start_of text tokens t.place))

abbrev by_names : List ℕ → List Token → Option ℕ → Option Terminal → Expr → Result Expr ExprFault
by_names text tokens None deep e = by_nesting text tokens deep e
by_names text tokens (Some at) deep e = Err (NoName at)

-- what is said of tokens by an answer
abbrev Says : Style → List (List ℕ) → List ℕ → List Token → Result Expr ExprFault → Type 0
Says style names text tokens (Ok e) = IsOf style names text tokens e
Says style names text tokens (Err Memory) = ⊥
Says style names text tokens (Err (Syntax at)) = IsRefused style names text tokens (Syntax at)
Says style names text tokens (Err (NoName at)) = IsRefused style names text tokens (NoName at)
Says style names text tokens (Err (Deep at)) = IsRefused style names text tokens (Deep at)
Says style names text tokens (Err (Inputs count)) = IsRefused style names text tokens (Inputs count)

module _ (style : Style) (names : List (List ℕ)) (text : List ℕ) (tokens : List Token) where
  abbrev outcome : Derivation → Result Expr ExprFault
  outcome d = by_names text tokens (first_unknown names text tokens) (first_deep style (terminals_from style text 0 tokens)) (tree_of style names text tokens d)

  -- the tokens go wrong, or they have a derivation
  record Wrong (r : Result Expr ExprFault) : Type 0 where
    number : ℕ
    fault : IsFault (table_of style) 0 (terminals_from style text 0 tokens) number
    is : r ≡ Err (Syntax (start_of text tokens number))

  record Derived (r : Result Expr ExprFault) : Type 0 where
    derivation : Derivation
    parsed : IsParse style text tokens derivation
    is : r ≡ outcome derivation

  few_outcome : (e : Expr) → length (different (pins_of e)) ≤ 10 → by_nesting text tokens None e ≡ Ok e
  few_outcome e few = let n = length (different (pins_of e)) in ap (λ b. by_inputs b n e) (le-ltb 10 n few)

  many_outcome : (e : Expr) → 10 < length (different (pins_of e)) → by_nesting text tokens None e ≡ Err (Inputs (length (different (pins_of e))))
  many_outcome e many = let n = length (different (pins_of e)) in ap (λ b. by_inputs b n e) (lt-ltb 10 n many)

  told : (r : Result Expr ExprFault) → Says style names text tokens r → Wrong r ⊎ Derived r
  told (Ok e) h = inr record { derivation = h.derivation; parsed = h.parsed; is = ap (λ v. Ok v) h.is ∙ rw (h.known, h.shallow) (sym (few_outcome (tree_of style names text tokens h.derivation) (subst (λ v. length (different (pins_of v)) ≤ 10) h.is h.few))) }
  told (Err Memory) h = absurd h
  told (Err (Syntax at)) h = inl record { number = h.number; fault = h.fault; is = ap (λ v. Err (Syntax v)) h.is }
  told (Err (NoName at)) h = inr record { derivation = h.derivation; parsed = h.parsed; is = rw h.unknown refl }
  told (Err (Deep at)) h = inr record { derivation = h.derivation; parsed = h.parsed; is = rw (h.known, h.deep) (ap (λ v. Err (Deep v)) h.is) }
  told (Err (Inputs count)) h = inr record { derivation = h.derivation; parsed = h.parsed; is = ap (λ v. Err (Inputs v)) h.is ∙ rw (h.known, h.shallow) (sym (many_outcome (tree_of style names text tokens h.derivation) (omega (arith, h.is, h.many)))) }

  one_said : (a b : Result Expr ExprFault) → Says style names text tokens a → Says style names text tokens b → a ≡ b
  one_said a b p q = elim (told a p) [
    | inl x ↦ elim (told b q) [
      | inl y ↦ x.is ∙ ap (λ n. Err (Syntax (start_of text tokens n))) (one_fault (table_of style) 0 (terminals_from style text 0 tokens) x.number y.number x.fault y.fault) ∙ sym y.is
      | inr y ↦ absurd (x.fault.no_text y.derivation y.parsed)
    ]
    | inr x ↦ elim (told b q) [
      | inl y ↦ absurd (y.fault.no_text x.derivation x.parsed)
      | inr y ↦ x.is ∙ ap outcome (one_parse style text tokens x.derivation y.derivation x.parsed y.parsed) ∙ sym y.is
    ]
  ]

-- what is said of a text is that it is not cut at a place, or is said of its tokens
record Uncut (style : Style) (text : List ℕ) (r : Result Expr ExprFault) : Type 0 where
  at : ℕ
  bad : IsBadAt (class_of style) text at
  is : r ≡ Err (Syntax at)

record Cut (style : Style) (names : List (List ℕ)) (text : List ℕ) (r : Result Expr ExprFault) : Type 0 where
  tokens : List Token
  cut : IsCut (class_of style) text tokens
  said : Says style names text tokens r

cut_or_not : (style : Style) (names : List (List ℕ)) (text : List ℕ) (r : Result Expr ExprFault) → IsOutcome style names text r → Uncut style text r ⊎ Cut style names text r
cut_or_not style names text (Ok e) h = inr record { tokens = h.0; cut = h.1; said = h.2 }
cut_or_not style names text (Err Memory) h = absurd h
cut_or_not style names text (Err (Syntax at)) h = elim h [
  | inl b ↦ inl record { at = at; bad = b; is = refl }
  | inr c ↦ inr record { tokens = c.0; cut = c.1; said = c.2 }
]
cut_or_not style names text (Err (NoName at)) h = inr record { tokens = h.0; cut = h.1; said = h.2 }
cut_or_not style names text (Err (Deep at)) h = inr record { tokens = h.0; cut = h.1; said = h.2 }
cut_or_not style names text (Err (Inputs count)) h = inr record { tokens = h.0; cut = h.1; said = h.2 }

pub one_outcome : (style : Style) (names : List (List ℕ)) (text : List ℕ) (a b : Result Expr ExprFault) → IsOutcome style names text a → IsOutcome style names text b → a ≡ b
one_outcome style names text a b p q = elim (cut_or_not style names text a p) [
  | inl x ↦ elim (cut_or_not style names text b q) [
    | inl y ↦ x.is ∙ ap (λ n. Err (Syntax n)) (one_bad (class_of style) text x.at y.at x.bad y.bad) ∙ sym y.is
    | inr y ↦ absurd (not_both (class_of style) text y.tokens x.at y.cut x.bad)
  ]
  | inr x ↦ elim (cut_or_not style names text b q) [
    | inl y ↦ absurd (not_both (class_of style) text x.tokens y.at x.cut y.bad)
    | inr y ↦
        let same = one_cut (class_of style) text x.tokens y.tokens x.cut y.cut in
        one_said style names text y.tokens a b (subst (λ ts. Says style names text ts a) same x.said) y.said
  ]
]

-- what is answered to the tokens of a text is its outcome, or want of memory
pub exact : (style : Style) (names : List (List ℕ)) (text : List ℕ) (tokens : List Token) (answer r : Result Expr ExprFault) → IsCut (class_of style) text tokens →
    MatchResult answer (λ e. IsOf style names text tokens e) (λ f. IsRefused style names text tokens f) → IsOutcome style names text r → (answer ≡ r) ⊎ (answer ≡ Err Memory)
exact style names text tokens (Ok e) r cut h p = inl (one_outcome style names text (Ok e) r (tokens, cut, h) p)
exact style names text tokens (Err Memory) r cut h p = inr refl
exact style names text tokens (Err (Syntax at)) r cut h p = inl (one_outcome style names text (Err (Syntax at)) r (inr (tokens, cut, h)) p)
exact style names text tokens (Err (NoName at)) r cut h p = inl (one_outcome style names text (Err (NoName at)) r (tokens, cut, h) p)
exact style names text tokens (Err (Deep at)) r cut h p = inl (one_outcome style names text (Err (Deep at)) r (tokens, cut, h) p)
exact style names text tokens (Err (Inputs count)) r cut h p = inl (one_outcome style names text (Err (Inputs count)) r (tokens, cut, h) p)

-- so where it is a function, that is answered
pub answered : (e : Expr) (r : Result Expr ExprFault) → (r ≡ Ok e) ⊎ (r ≡ Err Memory) → IsAnswered e r
answered e (Ok f) h = elim h [ inl p ↦ cc | inr p ↦ cc ]
answered e (Err Memory) h = tt
answered e (Err (Syntax at)) h = elim h [ inl p ↦ cc | inr p ↦ cc ]
answered e (Err (NoName at)) h = elim h [ inl p ↦ cc | inr p ↦ cc ]
answered e (Err (Deep at)) h = elim h [ inl p ↦ cc | inr p ↦ cc ]
answered e (Err (Inputs count)) h = elim h [ inl p ↦ cc | inr p ↦ cc ]
