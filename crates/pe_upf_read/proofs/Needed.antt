-- An option that a list of options needs is found in it.
use Rattle.std.proofs.Common.{◌≡◌, ℕ, zero, suc, Bool, true, false, ◌&&◌, ◌||◌, is_some, eqb, List, [], ◌∷◌, ◌++◌, Option, Some, if◌then◌else◌, refl, sym, subst}
use Rattle.std.specs.List.{list_any, cons_option}
use Rattle.pe_grammar.specs.declared.form.Bounds.{Bounds}
use Rattle.pe_grammar.specs.declared.form.Entry.{Entry}
use Rattle.pe_grammar.specs.declared.form.Form.{Form}
use Rattle.pe_grammar.specs.declared.form.Form.TheVariants.{Terminal, Sequence, Choice, Repeat, Clause, Once}
use Rattle.pe_grammar.specs.declared.terminal.Token.{Token}
use Rattle.pe_grammar.specs.Derivation.{Derivation, leaf, nothing, pair, left, right, done, more, present, absent, once, text, front, heads}
use Rattle.pe_grammar.specs.Derivation.{has as is_in, HasEach}
use Rattle.pe_grammar.specs.Grammar.{Derives, form_at}
use Rattle.pe_upf_read.specs.Options.{has}
use Rattle.pe_upf_read.specs.Parts.{head_of, each, find}

-- each text of the form begins with the first terminal of a sequence
abbrev begins_form : (ℕ → Bool) → Option Form → Bool
begins_form p (Some (Terminal k)) = true
begins_form p (Some (Sequence a b)) = p a
begins_form p (Some (Choice a b)) = p a && p b
begins_form p _ = false

abbrev pub begins : ℕ → List Entry → ℕ → Bool
begins zero g n = false
begins (suc steps) g n = begins_form (begins steps g) (form_at g n)

front_append : (xs ys : List Token) (k : ℕ) → front xs ≡ Some k → front (xs ++ ys) ≡ Some k
front_append [] ys k e = cc
front_append (x ∷ xs) ys k e = e

both_left : (a b : Bool) → a && b ≡ true → a ≡ true
both_left true b e = refl
both_left false b e = e

both_right : (a b : Bool) → a && b ≡ true → b ≡ true
both_right true b e = e
both_right false b e = cc

head_front : (steps : ℕ) (g : List Entry) (n : ℕ) (d : Derivation) → begins steps g n ≡ true → Derives g n d → front (text d) ≡ Some (head_of d)
unfolding head_of
head_front zero g n d p h = cc
head_front (suc s) g n (leaf t) p h = refl
head_front (suc s) g n nothing p h = absurd (cc (subst (λ o. begins_form (begins s g) o ≡ true) h p))
head_front (suc s) g n (pair d e) p h = front_append (text d) (text e) (head_of d) (head_front s g h.0 d (subst (λ o. begins_form (begins s g) o ≡ true) h.2 p) h.3)
head_front (suc s) g n (left d) p h =
    head_front s g h.0 d (both_left (begins s g h.0) (begins s g h.1) (subst (λ o. begins_form (begins s g) o ≡ true) h.2 p)) h.3
head_front (suc s) g n (right d) p h =
    head_front s g h.1 d (both_right (begins s g h.0) (begins s g h.1) (subst (λ o. begins_form (begins s g) o ≡ true) h.2 p)) h.3
head_front (suc s) g n done p h = absurd (cc (subst (λ o. begins_form (begins s g) o ≡ true) h.1 p))
head_front (suc s) g n (more d e) p h = absurd (cc (subst (λ o. begins_form (begins s g) o ≡ true) h.1 p))
head_front (suc s) g n (present t d) p h = absurd (cc (subst (λ o. begins_form (begins s g) o ≡ true) h.2 p))
head_front (suc s) g n (absent k) p h = absurd (cc (subst (λ o. begins_form (begins s g) o ≡ true) h.1 p))
head_front (suc s) g n (once d) p h = absurd (cc (subst (λ o. begins_form (begins s g) o ≡ true) h.2 p))

same_part : (g : List Entry) (r a b : ℕ) → form_at g r ≡ Some (Repeat a) → form_at g r ≡ Some (Repeat b) → a ≡ b
same_part g r a b p q = cc

found_step : (b any : Bool) (v : Derivation) (o : Option Derivation) → (any ≡ true → is_some o ≡ true) → b || any ≡ true → is_some (if b then Some v else o) ≡ true
found_step true any v o f e = refl
found_step false any v o f e = f e

found : (steps : ℕ) (g : List Entry) (r part k : ℕ) (c : Derivation) → form_at g r ≡ Some (Repeat part) → begins steps g part ≡ true → Derives g r c → list_any (λ y. eqb y k) (heads c) ≡ true → has k (each c) ≡ true
unfolding each find
found steps g r part k (more d e) f p h any =
    let begun : begins steps g h.0 ≡ true = subst (λ a. begins steps g a ≡ true) (same_part g r part h.0 f h.1) p in
    let at = head_front steps g h.0 d begun h.2 in
    let any' : list_any (λ y. eqb y k) (cons_option (Some (head_of d)) (heads e)) ≡ true = subst (λ o. list_any (λ y. eqb y k) (cons_option o (heads e)) ≡ true) at any in
    found_step (eqb (head_of d) k) (list_any (λ y. eqb y k) (heads e)) _ (find k (each e)) (λ rest. found steps g r part k e f p h.3 rest) any'
found steps g r part k (leaf t) f p h any = cc
found steps g r part k nothing f p h any = cc
found steps g r part k (pair d e) f p h any = cc
found steps g r part k (left d) f p h any = cc
found steps g r part k (right d) f p h any = cc
found steps g r part k done f p h any = cc
found steps g r part k (present t d) f p h any = cc
found steps g r part k (absent n) f p h any = cc
found steps g r part k (once d) f p h any = cc

same_once : (g : List Entry) (n r s : ℕ) (b c : Bounds) → form_at g n ≡ Some (Once r b) → form_at g n ≡ Some (Once s c) → (r ≡ s) × (b ≡ c)
same_once g n r s b c p q = (cc, cc)

pub needed_found : (steps : ℕ) (g : List Entry) (n r part k : ℕ) (bounds : Bounds) (d : Derivation) → form_at g n ≡ Some (Once r bounds) → form_at g r ≡ Some (Repeat part) → begins steps g part ≡ true →
    is_in bounds.needed k ≡ true → Derives g n d → has k (each d) ≡ true
unfolding each
needed_found steps g n r part k bounds (once c) o f p i h =
    let same = same_once g n r h.0 bounds h.1 o h.2 in
    let derives : Derives g r c = subst (λ x. Derives g x c) (sym same.0) h.3 in
    let all : HasEach bounds.needed (heads c) = subst (λ b. HasEach b.needed (heads c)) (sym same.1) h.5 in
    found steps g r part k c f p derives (all k i)
needed_found steps g n r part k bounds (leaf t) o f p i h = absurd (cc)
needed_found steps g n r part k bounds nothing o f p i h = absurd (cc)
needed_found steps g n r part k bounds (pair d e) o f p i h = let x : form_at g n ≡ Some (Sequence h.0 h.1) = h.2 in absurd (cc)
needed_found steps g n r part k bounds (left d) o f p i h = let x : form_at g n ≡ Some (Choice h.0 h.1) = h.2 in absurd (cc)
needed_found steps g n r part k bounds (right d) o f p i h = let x : form_at g n ≡ Some (Choice h.0 h.1) = h.2 in absurd (cc)
needed_found steps g n r part k bounds done o f p i h = let x : form_at g n ≡ Some (Repeat h.0) = h.1 in absurd (cc)
needed_found steps g n r part k bounds (more d e) o f p i h = let x : form_at g n ≡ Some (Repeat h.0) = h.1 in absurd (cc)
needed_found steps g n r part k bounds (present t d) o f p i h = let x : form_at g n ≡ Some (Clause h.0 h.1) = h.2 in absurd (cc)
needed_found steps g n r part k bounds (absent w) o f p i h = let x : form_at g n ≡ Some (Clause w h.0) = h.1 in absurd (cc)
