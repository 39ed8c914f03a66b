-- A map file has at most one line `top` and at most one line `clock`.
use Rattle.std.proofs.Common.{◌≡◌, ℕ, ◌+◌, ◌≤◌, List, [], ◌∷◌, ◌++◌, refl, ap, sym, subst, ◌∙◌, arith}
use Rattle.std.proofs.lemmas.Bool.{eqb-true, eq-eqb}
use Rattle.std.proofs.lemmas.List.Folds.{list_any-append}
use Rattle.std.proofs.lemmas.List.Sums.{sum_by-cons}
use Rattle.std.specs.List.{cons_option, list_any}
use Rattle.std.specs.Prelude.{Bool, true, false, cond, eqb, ◌&&◌, ◌||◌, count_by, Option, Some, None}
use Rattle.pe_grammar.proofs.Texts.{left_part, right_part, pair_parts, more_parts}
use Rattle.pe_grammar.specs.Derivation.{Derivation, leaf, nothing, pair, left, right, done, more, present, absent, once, text, front, has, heads, taken, IsFresh}
use Rattle.pe_grammar.specs.Grammar.{Derives, form_at}
use Rattle.pe_grammar.specs.declared.form.Bounds.{Bounds}
use Rattle.pe_grammar.specs.declared.form.Entry.{Entry}
use Rattle.pe_grammar.specs.declared.form.Form.TheVariants.{Terminal, Empty, Sequence, Choice, Repeat, Clause, Once}
use Rattle.pe_grammar.specs.declared.terminal.Token.{Token as Leaf}
use Rattle.pe_text.specs.declared.token.Token.{Token}
use Rattle.pe_compare.specs.MapFile.{is_top, is_clock, HasOneTop, HasOneClock}
use Rattle.pe_compare.specs.MapMeaning.{design_of, port_of, register_of, row_of, line_of, lines_of, map_of}
use Rattle.pe_compare.specs.declared.map.MapLine.{MapLine}
use Rattle.pe_compare.specs.declared.map.MapLine.TheVariants.{Top, Clock}
use Rattle.pe_compare.specs.declared.map_table.TheConstants.{MAP, AT_MAP, AT_MAP_MANY, AT_LINE, AT_LINE_2, AT_DESIGN, AT_DESIGN_PART_1, AT_DESIGN_PART_2, AT_TOKEN_TOP, AT_TOKEN_CLOCK, AT_TWO, AT_ONE, TOP, CLOCK}

-- how often a terminal is in a list
abbrev times : ℕ → List ℕ → ℕ
times k ks = count_by (λ y. eqb y k) ks

times-cons : (k j : ℕ) (js : List ℕ) → times k (j ∷ js) ≡ cond (eqb j k) 1 0 + times k js
times-cons k j js = sum_by-cons (λ y. cond (eqb y k) 1 0) j js

none_more : (b : Bool) (n : ℕ) → (b ≡ true → ⊥) → n ≡ 0 → cond b 1 0 + n ≡ 0
none_more true n h e = absurd (h refl)
none_more false n h e = omega arith

one_more : (b : Bool) (n : ℕ) → (b ≡ true → n ≡ 0) → n ≤ 1 → cond b 1 0 + n ≤ 1
one_more true n h e = omega (arith, h refl)
one_more false n h e = omega arith

both_true : (x y : Bool) → x ≡ true → y ≡ true → (x && y) ≡ true
both_true true true p q = refl
both_true true false p q = q
both_true false y p q = p

left_true : (x y : Bool) → x ≡ true → (x || y) ≡ true
left_true true y p = refl
left_true false y p = cc

right_true : (x y : Bool) → y ≡ true → (x || y) ≡ true
right_true true y p = refl
right_true false y p = p

-- of the set, none that was used comes again
fresh_none : (set k : ℕ) (used ks : List ℕ) → has set k ≡ true → list_any (λ y. eqb y k) used ≡ true → IsFresh set used ks → times k ks ≡ 0
fresh_none set k used [] s u h = refl
fresh_none set k used (j ∷ js) s u h =
    let again : eqb j k ≡ true → ⊥ = λ e. let P : ℕ → Type 0 = λ x. taken set used x ≡ true in h.0 (subst P (sym (eqb-true j k e)) (both_true (has set k) (list_any (λ y. eqb y k) used) s u)) in
    let still : list_any (λ y. eqb y k) (used ++ j ∷ []) ≡ true = list_any-append (λ y. eqb y k) used (j ∷ []) ∙ left_true (list_any (λ y. eqb y k) used) (list_any (λ y. eqb y k) (j ∷ [])) u in
    times-cons k j js ∙ none_more (eqb j k) (times k js) again (fresh_none set k (used ++ j ∷ []) js s still h.1)

-- and the others once at most
fresh_one : (set k : ℕ) (used ks : List ℕ) → has set k ≡ true → IsFresh set used ks → times k ks ≤ 1
fresh_one set k used [] s h = omega arith
fresh_one set k used (j ∷ js) s h =
    let then : eqb j k ≡ true → times k js ≡ 0 = λ e.
    fresh_none set k (used ++ j ∷ []) js s
    (list_any-append (λ y. eqb y k) used (j ∷ []) ∙ right_true (list_any (λ y. eqb y k) used) (list_any (λ y. eqb y k) (j ∷ [])) (left_true (eqb j k) (list_any (λ y. eqb y k) []) e))
    h.1 in
    omega (arith, times-cons k j js, one_more (eqb j k) (times k js) then (fresh_one set k (used ++ j ∷ []) js s h.1))

-- what a text of a terminal begins with
terminal_front : (g : List Entry) (n k : ℕ) (d : Derivation) (rest : List Leaf) → form_at g n ≡ Some (Terminal k) → Derives g n d → front (text d ++ rest) ≡ Some k
terminal_front g n k (leaf t) rest p h = let e : Some (Terminal t.kind) ≡ Some (Terminal k) = sym h ∙ p in let f : t.kind ≡ k = cc in ap Some f
terminal_front g n k nothing rest p h = absurd (let e : Some Empty ≡ Some (Terminal k) = sym h ∙ p in cc)
terminal_front g n k (pair d e) rest p h = absurd (let e : Some (Sequence h.0 h.1) ≡ Some (Terminal k) = sym h.2 ∙ p in cc)
terminal_front g n k (left d) rest p h = absurd (let e : Some (Choice h.0 h.1) ≡ Some (Terminal k) = sym h.2 ∙ p in cc)
terminal_front g n k (right d) rest p h = absurd (let e : Some (Choice h.0 h.1) ≡ Some (Terminal k) = sym h.2 ∙ p in cc)
terminal_front g n k done rest p h = absurd (let e : Some (Repeat h.0) ≡ Some (Terminal k) = sym h.1 ∙ p in cc)
terminal_front g n k (more d e) rest p h = absurd (let e : Some (Repeat h.0) ≡ Some (Terminal k) = sym h.1 ∙ p in cc)
terminal_front g n k (present t d) rest p h = absurd (let e : Some (Clause h.0 h.1) ≡ Some (Terminal k) = sym h.2 ∙ p in cc)
terminal_front g n k (absent w) rest p h = absurd (let e : Some (Clause w h.0) ≡ Some (Terminal k) = sym h.1 ∙ p in cc)
terminal_front g n k (once d) rest p h = absurd (let e : Some (Once h.0 h.1) ≡ Some (Terminal k) = sym h.2 ∙ p in cc)

-- the first word of a line that may come once
abbrev begins : Option MapLine → Option ℕ
begins (Some (Top rtl net)) = Some TOP
begins (Some (Clock port)) = Some CLOCK
begins _ = None

module _ (source : List ℕ) (tokens : List Token) where
  design_begins : (d : Derivation) (k : ℕ) → Derives MAP AT_DESIGN d → begins (design_of source tokens d) ≡ Some k → front (text d) ≡ Some k
  design_begins (left (pair t u)) k h p =
      let line = left_part MAP AT_DESIGN AT_DESIGN_PART_1 AT_DESIGN_PART_2 (pair t u) refl h in
      let word = pair_parts MAP AT_DESIGN_PART_1 AT_TOKEN_TOP AT_TWO t u refl line in
      terminal_front MAP AT_TOKEN_TOP TOP t (text u) refl word.0 ∙ p
  design_begins (right (pair t u)) k h p =
      let line = right_part MAP AT_DESIGN AT_DESIGN_PART_1 AT_DESIGN_PART_2 (pair t u) refl h in
      let word = pair_parts MAP AT_DESIGN_PART_2 AT_TOKEN_CLOCK AT_ONE t u refl line in
      terminal_front MAP AT_TOKEN_CLOCK CLOCK t (text u) refl word.0 ∙ p
  design_begins _ k h p = absurd (cc p)

  port_silent : (d : Derivation) → begins (port_of source tokens d) ≡ None
  port_silent (left (pair s d)) = refl
  port_silent (right (left (pair p d))) = refl
  port_silent (right (right (pair t d))) = refl
  port_silent _ = refl

  register_silent : (d : Derivation) → begins (register_of source tokens d) ≡ None
  register_silent (left (pair r d)) = refl
  register_silent (right (pair r d)) = refl
  register_silent _ = refl

  row_silent : (d : Derivation) → begins (row_of source tokens d) ≡ None
  row_silent (left (pair s d)) = refl
  row_silent (right (pair s d)) = refl
  row_silent _ = refl

  silent : (o : Option MapLine) (k : ℕ) → begins o ≡ None → begins o ≡ Some k → ⊥
  silent o k p q = cc

  -- such a line begins with its word
  line_begins : (d : Derivation) (k : ℕ) → Derives MAP AT_LINE d → begins (line_of source tokens d) ≡ Some k → front (text d) ≡ Some k
  line_begins (left d) k h p = design_begins d k (left_part MAP AT_LINE AT_DESIGN AT_LINE_2 d refl h) p
  line_begins (right (left d)) k h p = absurd (silent (port_of source tokens d) k (port_silent d) p)
  line_begins (right (right (left d))) k h p = absurd (silent (register_of source tokens d) k (register_silent d) p)
  line_begins (right (right (right (left d)))) k h p = absurd (silent (row_of source tokens d) k (row_silent d) p)
  line_begins _ k h p = absurd (cc p)

  module _ (is : MapLine → Bool) (k : ℕ) (begun : (l : MapLine) → is l ≡ true → begins (Some l) ≡ Some k) where
    times_more : (o : Option ℕ) (ks : List ℕ) → times k ks ≤ times k (cons_option o ks)
    times_more None ks = omega arith
    times_more (Some j) ks = omega (arith, times-cons k j ks)

    counted : (b : Bool) (n m : ℕ) (f : Option ℕ) (ks : List ℕ) → m ≡ times k ks → (b ≡ true → f ≡ Some k) → n ≤ m → cond b 1 0 + n ≤ times k (cons_option f ks)
    counted false n m f ks e h le = omega (arith, times_more f ks)
    counted true n m f ks e h le =
        let P : Option ℕ → Type 0 = λ o. 1 + n ≤ times k (cons_option o ks) in
        let same : ◌≡◌ {A = ℕ} (cond (eqb k k) 1 0) 1 = ap (λ b. cond b 1 0) (eq-eqb k k refl) in
        subst P (sym (h refl)) (omega (arith, le, e, times-cons k k ks, same))

    line_counts : (o : Option MapLine) (f : Option ℕ) (ls : List MapLine) (ks : List ℕ) → (begins o ≡ Some k → f ≡ Some k) → count_by is ls ≤ times k ks → count_by is (cons_option o ls) ≤ times k (cons_option f ks)
    line_counts None f ls ks h le = omega (arith, times_more f ks)
    line_counts (Some l) f ls ks h le = omega (arith, sum_by-cons (λ m. cond (is m) 1 0) l ls, counted (is l) (count_by is ls) (times k ks) f ks refl (λ e. h (begun l e)) le)

    lines_count : (d : Derivation) → Derives MAP AT_MAP_MANY d → count_by is (lines_of source tokens d) ≤ times k (heads d)
    lines_count (more d e) h =
        let p = more_parts MAP AT_MAP_MANY AT_LINE d e refl h in
        line_counts (line_of source tokens d) (front (text d)) (lines_of source tokens e) (heads e) (line_begins d k p.0) (lines_count e p.1)
    lines_count _ h = omega arith

    map_once : (d : Derivation) → has 3 k ≡ true → Derives MAP AT_MAP d → count_by is (map_of source tokens d).lines ≤ 1
    map_once (once d) s h =
        let e : Some (Once AT_MAP_MANY (record { once = 3; needed = 0 })) ≡ Some (Once h.0 h.1) = h.2 in
        let place : h.0 ≡ AT_MAP_MANY = cc in
        let bounds : h.1 ≡ record { once = 3; needed = 0 } = cc in
        let P : ℕ → Type 0 = λ n. Derives MAP n d in
        let Q : Bounds → Type 0 = λ b. IsFresh b.once [] (heads d) in
        omega (arith, lines_count d (subst P place h.3), fresh_one 3 k [] (heads d) s (subst Q bounds h.4))
    map_once _ s h = omega arith

  top_begun : (l : MapLine) → is_top l ≡ true → begins (Some l) ≡ Some TOP
  top_begun (Top rtl net) e = refl
  top_begun _ e = absurd (cc e)

  clock_begun : (l : MapLine) → is_clock l ≡ true → begins (Some l) ≡ Some CLOCK
  clock_begun (Clock port) e = refl
  clock_begun _ e = absurd (cc e)

  pub one_top : (d : Derivation) → Derives MAP AT_MAP d → HasOneTop (map_of source tokens d)
  one_top d h = map_once is_top TOP top_begun d refl h

  pub one_clock : (d : Derivation) → Derives MAP AT_MAP d → HasOneClock (map_of source tokens d)
  one_clock d h = map_once is_clock CLOCK clock_begun d refl h
