-- The test of a grammar and its table, which the checker computes.
use Rattle.std.specs.Prelude.{ℕ, Bool, true, false, cond, not, ◌&&◌, ◌^◌, ltb, eqb, bit_and, List, [], ◌∷◌, slice_get, Option, Some, None}
use Rattle.std.specs.List.{list_all}
use Rattle.pe_grammar.specs.declared.form.Entry.{Entry}
use Rattle.pe_grammar.specs.declared.form.Form.{Form}
use Rattle.pe_grammar.specs.declared.form.Form.TheVariants.{Terminal, Empty, Sequence, Choice, Repeat, Clause, Once}
use Rattle.pe_grammar.specs.Certain.{certain}
use Rattle.pe_grammar.specs.Derivation.{has}

abbrev pub within : ℕ → ℕ → Bool
within x y = eqb (bit_and x y) x

abbrev pub apart : ℕ → ℕ → Bool
apart x y = eqb (bit_and x y) 0

-- the second, where the first holds
abbrev pub where_true : Bool → Bool → Bool
where_true x y = cond x y true

abbrev pub all_true : List Bool → Bool
all_true [] = true
all_true (b ∷ bs) = cond b (all_true bs) false

abbrev pub sequence_tests : Entry → Entry → Entry → List Bool
sequence_tests e a b =
    where_true a.nullable (where_true b.nullable e.nullable)
    ∷ where_true e.nullable a.nullable
    ∷ where_true e.nullable b.nullable
    ∷ within a.first e.first
    ∷ where_true a.nullable (within b.first e.first)
    ∷ within b.goes_on e.goes_on
    ∷ where_true b.nullable (within a.goes_on e.goes_on)
    ∷ apart a.goes_on b.first
    ∷ within b.opened e.opened
    ∷ where_true b.nullable (within a.opened e.opened)
    ∷ cond b.nullable true (apart a.opened b.first)
    ∷ ltb a.rank e.rank
    ∷ where_true a.nullable (ltb b.rank e.rank)
    ∷ ltb a.height e.height
    ∷ ltb b.height e.height
    ∷ []

abbrev pub choice_tests : Entry → Entry → Entry → List Bool
choice_tests e a b =
    where_true a.nullable e.nullable
    ∷ where_true b.nullable e.nullable
    ∷ where_true e.nullable (cond a.nullable true b.nullable)
    ∷ within a.first e.first
    ∷ within b.first e.first
    ∷ within a.goes_on e.goes_on
    ∷ within b.goes_on e.goes_on
    ∷ where_true a.nullable (within b.first e.goes_on)
    ∷ where_true b.nullable (within a.first e.goes_on)
    ∷ apart a.first b.first
    ∷ where_true a.nullable (not b.nullable)
    ∷ within a.opened e.opened
    ∷ within b.opened e.opened
    ∷ ltb a.rank e.rank
    ∷ ltb b.rank e.rank
    ∷ cond (ltb a.height e.height) true (ltb b.height e.height)
    ∷ []

abbrev pub repeat_tests : Entry → Entry → List Bool
repeat_tests e a =
    e.nullable
    ∷ not a.nullable
    ∷ within a.first e.first
    ∷ within a.goes_on e.goes_on
    ∷ within a.first e.goes_on
    ∷ apart a.goes_on e.first
    ∷ within a.opened e.opened
    ∷ ltb a.rank e.rank
    ∷ []

abbrev pub clause_tests : Entry → ℕ → Entry → List Bool
clause_tests e w a =
    e.nullable
    ∷ within w e.first
    ∷ within a.goes_on e.goes_on
    ∷ within w e.opened
    ∷ within a.opened e.opened
    ∷ []

abbrev pub repeats : Form → Bool
repeats (Repeat a) = true
repeats (Terminal k) = false
repeats Empty = false
repeats (Sequence a b) = false
repeats (Choice a b) = false
repeats (Clause w a) = false
repeats (Once r bounds) = false

abbrev pub repeated_form : Form → ℕ
repeated_form (Repeat a) = a
repeated_form (Terminal k) = 0
repeated_form Empty = 0
repeated_form (Sequence a b) = 0
repeated_form (Choice a b) = 0
repeated_form (Clause w a) = 0
repeated_form (Once r bounds) = 0

abbrev pub once_tests : List Entry → Entry → ℕ → Entry → List Bool
once_tests g e needed a =
    repeats a.form
    ∷ within needed (certain e.rank g e.height (repeated_form a.form))
    ∷ ltb needed (2 ^ 128)
    ∷ where_true (eqb needed 0) e.nullable
    ∷ where_true e.nullable (eqb needed 0)
    ∷ apart a.opened needed
    ∷ within a.first e.first
    ∷ within a.goes_on e.goes_on
    ∷ within a.opened e.opened
    ∷ ltb a.rank e.rank
    ∷ []

abbrev pub passes_two : (Entry → Entry → List Bool) → Option Entry → Option Entry → Bool
passes_two tests (Some a) (Some b) = all_true (tests a b)
passes_two tests (Some a) None = false
passes_two tests None b = false

abbrev pub passes_one : (Entry → List Bool) → Option Entry → Bool
passes_one tests (Some a) = all_true (tests a)
passes_one tests None = false

abbrev pub passes_form : List Entry → Entry → Form → Bool
passes_form g e (Terminal k) = all_true (has e.first k ∷ not e.nullable ∷ [])
passes_form g e Empty = e.nullable
passes_form g e (Sequence a b) = passes_two (sequence_tests e) (slice_get g a) (slice_get g b)
passes_form g e (Choice a b) = passes_two (choice_tests e) (slice_get g a) (slice_get g b)
passes_form g e (Repeat a) = passes_one (repeat_tests e) (slice_get g a)
passes_form g e (Once r bounds) = passes_one (once_tests g e bounds.needed) (slice_get g r)
passes_form g e (Clause w a) = passes_one (clause_tests e w) (slice_get g a)

abbrev pub passes_entry : List Entry → Entry → Bool
passes_entry g e = ltb e.rank 65536 && passes_form g e e.form

-- One token of look-ahead is enough, each form has a text, and the table is right.
abbrev pub passes : List Entry → Bool
passes g = list_all (λ e. passes_entry g e) g
