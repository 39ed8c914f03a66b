-- The places of the two tables by what they are for a scan, and that a scan goes over each text of a place so.
use Rattle.std.proofs.Common.{◌≡◌, ℕ, zero, suc, Bool, true, false, ◌&&◌, inl, inr, List, [], ◌∷◌, ◌++◌, Option, Some, None, refl, sym, ap, ◌∙◌, subst, append_assoc}
use Rattle.std.proofs.lemmas.Bool.{and_parts}
use Rattle.std.proofs.lemmas.List.{append-nil}
use Rattle.std.specs.Prelude.{slice_get}
use Rattle.pe_grammar.specs.declared.terminal.Token.{Token}
use Rattle.pe_grammar.specs.declared.form.Entry.{Entry}
use Rattle.pe_grammar.specs.declared.form.Form.{Form}
use Rattle.pe_grammar.specs.declared.form.Form.TheVariants.{Terminal, Empty, Sequence, Choice, Repeat, Clause, Once}
use Rattle.pe_grammar.specs.Derivation.{Derivation, leaf, nothing, pair, left, right, done, more, present, absent, once, text, IsNear, LeavesOut}
use Rattle.pe_grammar.specs.Grammar.{form_at, form_in, Derives, Spells}
use Rattle.pe_bool_expr.specs.declared.scan.State.{State}
use Rattle.pe_bool_expr.specs.declared.style.Style.{Style}
use Rattle.pe_bool_expr.specs.declared.style.Style.TheVariants.{Liberty, Upf}
use Rattle.pe_bool_expr.specs.declared.terminal.Role.{Role}
use Rattle.pe_bool_expr.specs.declared.terminal.Role.TheVariants.{Leading, Opening, Closing, Operand, Trailing, Joining}
use Rattle.pe_bool_expr.specs.Scan.{before_operand, behind_operand, behind, behind_all}
use Rattle.pe_bool_expr.specs.Styles.{table_of}
use Rattle.pe_bool_expr.specs.Terminals.{role_of}
use Rattle.pe_bool_expr.proofs.Running.{Ends, beside}

-- an operand, an operator, marks before an operand, what stands behind one, a parenthesis that opens, what follows it, and one that closes
data Way : Type 0 where
  operand : Way
  operator : Way
  marks : Way
  tail : Way
  opening : Way
  inside : Way
  closing : Way

-- where a text of it begins, and where it ends
abbrev from : Way → ℕ → State
from operand n = before_operand n
from operator n = behind_operand n
from marks n = before_operand n
from tail n = behind_operand n
from opening n = before_operand n
from inside n = before_operand (suc n)
from closing n = behind_operand (suc n)

abbrev to : Way → ℕ → State
to operand n = behind_operand n
to operator n = before_operand n
to marks n = before_operand n
to tail n = behind_operand n
to opening n = before_operand (suc n)
to inside n = behind_operand n
to closing n = behind_operand n

abbrev liberty_ways : List Way
liberty_ways =
    operand ∷ operand ∷ operand ∷ operand ∷ operand ∷ operand
    ∷ tail ∷ tail ∷ operator ∷ operator ∷ operator
    ∷ tail ∷ tail ∷ operator ∷ operator ∷ operator ∷ operator ∷ operator
    ∷ tail ∷ tail ∷ operator
    ∷ marks ∷ marks ∷ tail ∷ tail
    ∷ operand ∷ operand ∷ operand ∷ operand ∷ operand ∷ operand
    ∷ opening ∷ inside ∷ closing
    ∷ []

abbrev upf_ways : List Way
upf_ways =
    operand ∷ operand ∷ operand ∷ operand ∷ operand ∷ operand ∷ operand
    ∷ tail ∷ tail ∷ operator
    ∷ tail ∷ tail ∷ operator
    ∷ tail ∷ tail ∷ operator
    ∷ tail ∷ tail ∷ operator
    ∷ tail ∷ tail ∷ operator
    ∷ marks ∷ marks ∷ marks ∷ marks
    ∷ operand ∷ operand ∷ operand ∷ operand ∷ operand ∷ operand
    ∷ opening ∷ inside ∷ closing
    ∷ []

abbrev ways_of : Style → List Way
ways_of Liberty = liberty_ways
ways_of Upf = upf_ways

abbrev same_way : Way → Way → Bool
same_way operand operand = true
same_way operator operator = true
same_way marks marks = true
same_way tail tail = true
same_way opening opening = true
same_way inside inside = true
same_way closing closing = true
same_way _ _ = false

-- a text of the second and then one of the third is one of the first
abbrev composed : Way → Way → Way → Bool
composed operand operand tail = true
composed operand marks operand = true
composed operand opening inside = true
composed tail operator operand = true
composed inside operand closing = true
composed _ _ _ = false

abbrev repeated : Way → Bool
repeated tail = true
repeated marks = true
repeated _ = false

abbrev empty : Style → Way → Bool
empty Liberty operator = true
empty _ _ = false

abbrev plays : Role → Way → Bool
plays Leading marks = true
plays Opening opening = true
plays Closing closing = true
plays Operand operand = true
plays Trailing tail = true
plays Joining operator = true
plays _ _ = false

abbrev on_two : (Way → Way → Bool) → Option Way → Option Way → Bool
on_two test (Some v) (Some w) = test v w
on_two test (Some v) None = false
on_two test None w = false

abbrev on_one : (Way → Bool) → Option Way → Bool
on_one test (Some v) = test v
on_one test None = false

-- what the form says of the ways of its parts
abbrev form_fits : Style → List Way → Way → Form → Bool
form_fits style ways w (Terminal k) = plays (role_of style k) w
form_fits style ways w Empty = empty style w
form_fits style ways w (Sequence a b) = on_two (composed w) (slice_get ways a) (slice_get ways b)
form_fits style ways w (Choice a b) = on_two (λ u v. same_way w u && same_way w v) (slice_get ways a) (slice_get ways b)
form_fits style ways w (Repeat a) = on_one (λ v. same_way w v && repeated v) (slice_get ways a)
form_fits style ways w (Clause set a) = false
form_fits style ways w (Once r bounds) = false

abbrev entries_fit : Style → List Way → List Entry → List Way → Bool
entries_fit style all (e ∷ es) (w ∷ ws) = form_fits style all w e.form && entries_fit style all es ws
entries_fit style all [] [] = true
entries_fit style all (e ∷ es) [] = false
entries_fit style all [] (w ∷ ws) = false

tables_fit : (style : Style) → entries_fit style (ways_of style) (table_of style) (ways_of style) ≡ true
tables_fit Liberty = refl
tables_fit Upf = refl

-- the way of a form that there is
record Fits (style : Style) (ways all : List Way) (n : ℕ) (form : Form) : Type 0 where
  way : Way
  is : slice_get ways n ≡ Some way
  fits : form_fits style all way form ≡ true

entry_fits : (style : Style) (all : List Way) (es : List Entry) (ws : List Way) (n : ℕ) (form : Form) → entries_fit style all es ws ≡ true →
    form_in (slice_get es n) ≡ Some form → Fits style ws all n form
entry_fits style all [] ws n form h f = cc
entry_fits style all (e ∷ es) [] n form h f = cc
entry_fits style all (e ∷ es) (w ∷ ws) zero form h f =
    let p = and_parts (form_fits style all w e.form) (entries_fit style all es ws) h in
    let q : e.form ≡ form = cc in
    record { way = w; is = refl; fits = subst (λ v. form_fits style all w v ≡ true) q p.0 }
entry_fits style all (e ∷ es) (w ∷ ws) (suc n) form h f =
    let p = and_parts (form_fits style all w e.form) (entries_fit style all es ws) h in
    let r = entry_fits style all es ws n form p.1 f in
    record { way = r.way; is = r.is; fits = r.fits }

fits_at : (style : Style) (n : ℕ) (form : Form) → form_at (table_of style) n ≡ Some form → Fits style (ways_of style) (ways_of style) n form
fits_at style n form f = entry_fits style (ways_of style) (table_of style) (ways_of style) n form (tables_fit style) f

fits_way : (style : Style) (n : ℕ) (w : Way) (form : Form) → slice_get (ways_of style) n ≡ Some w → form_at (table_of style) n ≡ Some form →
    form_fits style (ways_of style) w form ≡ true
fits_way style n w form e f =
    let x = fits_at style n form f in
    let is = x.is in
    let p : x.way ≡ w = cc in
    subst (λ v. form_fits style (ways_of style) v form ≡ true) p x.fits

one_part : (test : Way → Bool) (o : Option Way) → on_one test o ≡ true → (v : Way) × (o ≡ Some v) × (test v ≡ true)
one_part test (Some v) h = (v, refl, h)
one_part test None h = cc

two_parts : (test : Way → Way → Bool) (o p : Option Way) → on_two test o p ≡ true → (v : Way) × (w : Way) × (o ≡ Some v) × (p ≡ Some w) × (test v w ≡ true)
two_parts test (Some v) (Some w) h = (v, w, refl, refl, h)
two_parts test (Some v) None h = cc
two_parts test None p h = cc

same : (v w : Way) → same_way v w ≡ true → v ≡ w
same operand operand h = refl
same operator operator h = refl
same marks marks h = refl
same tail tail h = refl
same opening opening h = refl
same inside inside h = refl
same closing closing h = refl
same _ _ h = cc

-- what may end from b on may end from a on with these tokens before it
abbrev Through : Style → State → List Token → State → Type 0
Through style a tokens b = (rest : List Token) → Ends style (Some b) rest → Ends style (Some a) (tokens ++ rest)

abbrev Leads : Style → Way → List Token → Type 0
Leads style w tokens = (n : ℕ) → Through style (from w n) tokens (to w n)

through_two : (style : Style) (a b c : State) (xs ys : List Token) → Through style a xs b → Through style b ys c → Through style a (xs ++ ys) c
through_two style a b c xs ys p q = λ rest h. ap (behind_all style (Some a)) (append_assoc xs ys rest) ∙ p (ys ++ rest) (q rest h)

leads_role : (style : Style) (role : Role) (w : Way) → plays role w ≡ true → (n : ℕ) (rest : List Token) → Ends style (Some (to w n)) rest → Ends style (behind style role (from w n)) rest
leads_role style Leading marks p n rest h = h
leads_role style Opening opening p n rest h = h
leads_role style Closing closing p n rest h = h
leads_role style Operand operand p n rest h = h
leads_role style Trailing tail p n rest h = h
leads_role style Joining operator p n rest h = h
leads_role style _ _ p n rest h = cc

leads_empty : (style : Style) (w : Way) → empty style w ≡ true → Leads style w []
leads_empty Liberty operator p = λ n rest h. beside n rest h
leads_empty _ _ p = cc

leads_two : (style : Style) (w u v : Way) (xs ys : List Token) → composed w u v ≡ true → Leads style u xs → Leads style v ys → Leads style w (xs ++ ys)
leads_two style operand operand tail xs ys c p q = λ n. through_two style _ (behind_operand n) _ xs ys (p n) (q n)
leads_two style operand marks operand xs ys c p q = λ n. through_two style _ (before_operand n) _ xs ys (p n) (q n)
leads_two style operand opening inside xs ys c p q = λ n. through_two style _ (before_operand (suc n)) _ xs ys (p n) (q n)
leads_two style tail operator operand xs ys c p q = λ n. through_two style _ (before_operand n) _ xs ys (p n) (q n)
leads_two style inside operand closing xs ys c p q = λ n. through_two style _ (behind_operand (suc n)) _ xs ys (p (suc n)) (q n)
leads_two style _ _ _ xs ys c p q = cc

leads_none : (style : Style) (w : Way) → repeated w ≡ true → Leads style w []
leads_none style tail p = λ n rest h. h
leads_none style marks p = λ n rest h. h
leads_none style _ p = cc

leads_more : (style : Style) (w : Way) (xs ys : List Token) → repeated w ≡ true → Leads style w xs → Leads style w ys → Leads style w (xs ++ ys)
leads_more style tail xs ys c p q = λ n. through_two style _ (behind_operand n) _ xs ys (p n) (q n)
leads_more style marks xs ys c p q = λ n. through_two style _ (before_operand n) _ xs ys (p n) (q n)
leads_more style _ xs ys c p q = cc

-- the ways of the parts of a choice, and of what is repeated
choice_ways : (style : Style) (n a b : ℕ) (w : Way) → slice_get (ways_of style) n ≡ Some w → form_at (table_of style) n ≡ Some (Choice a b) →
    (slice_get (ways_of style) a ≡ Some w) × (slice_get (ways_of style) b ≡ Some w)
choice_ways style n a b w e f =
    let x = two_parts (λ u v. same_way w u && same_way w v) (slice_get (ways_of style) a) (slice_get (ways_of style) b) (fits_way style n w (Choice a b) e f) in
    let y = and_parts (same_way w x.0) (same_way w x.1) x.4 in
    (x.2 ∙ ap (λ v. Some v) (sym (same w x.0 y.0)), x.3 ∙ ap (λ v. Some v) (sym (same w x.1 y.1)))

repeat_ways : (style : Style) (n a : ℕ) (w : Way) → slice_get (ways_of style) n ≡ Some w → form_at (table_of style) n ≡ Some (Repeat a) →
    (slice_get (ways_of style) a ≡ Some w) × (repeated w ≡ true)
repeat_ways style n a w e f =
    let x = one_part (λ v. same_way w v && repeated v) (slice_get (ways_of style) a) (fits_way style n w (Repeat a) e f) in
    let y = and_parts (same_way w x.0) (repeated x.0) x.2 in
    let p = same w x.0 y.0 in
    (x.1 ∙ ap (λ v. Some v) (sym p), subst (λ v. repeated v ≡ true) (sym p) y.1)

-- a scan goes over each text of a place
leads : (style : Style) (d : Derivation) (n : ℕ) (w : Way) → slice_get (ways_of style) n ≡ Some w → Derives (table_of style) n d → Leads style w (text d)
leads style (leaf t) n w e h = leads_role style (role_of style t.kind) w (fits_way style n w (Terminal t.kind) e h)
leads style nothing n w e h = leads_empty style w (fits_way style n w Empty e h)
leads style (pair c d) n w e h =
    let x = two_parts (composed w) (slice_get (ways_of style) h.0) (slice_get (ways_of style) h.1) (fits_way style n w (Sequence h.0 h.1) e h.2) in
    leads_two style w x.0 x.1 (text c) (text d) x.4 (leads style c h.0 x.0 x.2 h.3) (leads style d h.1 x.1 x.3 h.4)
leads style (left d) n w e h = leads style d h.0 w ((choice_ways style n h.0 h.1 w e h.2).0) h.3
leads style (right d) n w e h = leads style d h.1 w ((choice_ways style n h.0 h.1 w e h.2).1) h.3
leads style done n w e h = leads_none style w ((repeat_ways style n h.0 w e h.1).1)
leads style (more c d) n w e h =
    let x = repeat_ways style n h.0 w e h.1 in
    leads_more style w (text c) (text d) x.1 (leads style c h.0 w x.0 h.2) (leads style d n w e h.3)
leads style (present t d) n w e h = let p = fits_way style n w (Clause h.0 h.1) e h.2 in cc
leads style (absent k) n w e h = let p = fits_way style n w (Clause k h.0) e h.1 in cc
leads style (once d) n w e h = let p = fits_way style n w (Once h.0 h.1) e h.2 in cc

whole_way : (style : Style) → slice_get (ways_of style) 0 ≡ Some operand
whole_way Liberty = refl
whole_way Upf = refl

-- what has a derivation is gone over, and may end
pub spelled_ends : (style : Style) (tokens : List Token) (d : Derivation) → Spells (table_of style) 0 tokens d → Ends style (Some (before_operand 0)) tokens
spelled_ends style tokens d h =
    ap (behind_all style (Some (before_operand 0))) (sym (append-nil tokens) ∙ ap (λ ts. ts ++ []) (sym h.spelled))
    ∙ leads style d 0 operand (whole_way style) h.derives 0 [] refl

-- no clause is left out in a derivation of these tables
no_clause : (style : Style) (n : ℕ) (form : Form) → form_at (table_of style) n ≡ Some form → (w : Way) × (form_fits style (ways_of style) w form ≡ true)
no_clause style n form f = let x = fits_at style n form f in (x.way, x.fits)

none_left : (style : Style) (d : Derivation) (n : ℕ) → Derives (table_of style) n d → (k : ℕ) → LeavesOut d k → ⊥
none_left style (leaf t) n h k o = o
none_left style nothing n h k o = o
none_left style (pair c d) n h k o = elim o [ inl p ↦ none_left style d h.1 h.4 k p | inr p ↦ none_left style c h.0 h.3 k p.1 ]
none_left style (left d) n h k o = none_left style d h.0 h.3 k o
none_left style (right d) n h k o = none_left style d h.1 h.3 k o
none_left style done n h k o = o
none_left style (more c d) n h k o = elim o [ inl p ↦ none_left style d n h.3 k p | inr p ↦ none_left style c h.0 h.2 k p.1 ]
none_left style (present t d) n h k o = let p = (no_clause style n (Clause h.0 h.1) h.2).1 in cc
none_left style (absent set) n h k o = let p = (no_clause style n (Clause set h.0) h.1).1 in cc
none_left style (once d) n h k o = let p = (no_clause style n (Once h.0 h.1) h.2).1 in cc

pub near : (style : Style) (d : Derivation) (n : ℕ) (rest : List Token) → Derives (table_of style) n d → IsNear d rest
near style d n rest h = λ k f o. none_left style d n h k o
