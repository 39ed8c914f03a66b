-- The test that a table is a grammar as it is written.
use Rattle.std.specs.Prelude.{ℕ, Bool, true, false, ◌&&◌, eqb, List, [], ◌∷◌, Option, Some, slice_get, is_some, suc}
use Rattle.pe_grammar.specs.declared.form.Bounds.{Bounds}
use Rattle.pe_grammar.specs.declared.form.Entry.{Entry}
use Rattle.pe_grammar.specs.declared.form.Form.{Form}
use Rattle.pe_grammar.specs.declared.form.Form.TheVariants.{Terminal, Empty, Sequence, Choice, Repeat, Clause, Once}
use Rattle.pe_grammar.specs.Grammar.{form_at}
use Rattle.pe_grammar.specs.Written.{Written, word, rule, empty, both, either, many, nearest, each_once}

-- the test, at the parts of a form of the kind
abbrev pub at_terminal : Option Form → (ℕ → Bool) → Bool
at_terminal (Some (Terminal k)) f = f k
at_terminal _ f = false

abbrev pub at_empty : Option Form → Bool
at_empty (Some Empty) = true
at_empty _ = false

abbrev pub at_sequence : Option Form → (ℕ → ℕ → Bool) → Bool
at_sequence (Some (Sequence i j)) f = f i j
at_sequence _ f = false

abbrev pub at_choice : Option Form → (ℕ → ℕ → Bool) → Bool
at_choice (Some (Choice i j)) f = f i j
at_choice _ f = false

abbrev pub at_repeat : Option Form → (ℕ → Bool) → Bool
at_repeat (Some (Repeat i)) f = f i
at_repeat _ f = false

abbrev pub at_clause : Option Form → (ℕ → ℕ → Bool) → Bool
at_clause (Some (Clause w i)) f = f w i
at_clause _ f = false

abbrev pub at_once : Option Form → (ℕ → Bounds → Bool) → Bool
at_once (Some (Once i s)) f = f i s
at_once _ f = false

-- the form n of the table is e
abbrev pub stands : List Entry → List Written → ℕ → Written → Bool
stands g rs n (word k) = at_terminal (form_at g n) (λ j. eqb j k)
stands g rs n (rule r) = eqb n r && is_some (slice_get rs r)
stands g rs n empty = at_empty (form_at g n)
stands g rs n (both a b) = at_sequence (form_at g n) (λ i j. stands g rs i a && stands g rs j b)
stands g rs n (either a b) = at_choice (form_at g n) (λ i j. stands g rs i a && stands g rs j b)
stands g rs n (many a) = at_repeat (form_at g n) (λ i. stands g rs i a)
stands g rs n (nearest w a) = at_clause (form_at g n) (λ v i. eqb v w && stands g rs i a)
stands g rs n (each_once set a) = at_once (form_at g n) (λ i s. (eqb s.once set.once && eqb s.needed set.needed) && at_repeat (form_at g i) (λ j. stands g rs j a))

abbrev pub is_body : Written → Bool
is_body (rule r) = false
is_body _ = true

-- the first forms of the table are the rules
abbrev pub rules_from : List Entry → List Written → ℕ → List Written → Bool
rules_from g all r [] = true
rules_from g all r (e ∷ es) = (is_body e && stands g all r e) && rules_from g all (suc r) es
