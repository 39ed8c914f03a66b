-- Where the table is the written grammar, their derivations are the same.
use Rattle.std.proofs.Common.{◌≡◌, ℕ, zero, suc, ◌+◌, Bool, true, ◌&&◌, eqb, List, [], ◌∷◌, Option, Some, None, refl, ap, ◌∙◌, subst, arith}
use Rattle.std.proofs.lemmas.Bool.{eqb-true, and_parts}
use Rattle.std.specs.Prelude.{slice_get, is_some}
use Rattle.pe_grammar.specs.declared.form.Bounds.{Bounds}
use Rattle.pe_grammar.specs.declared.form.Entry.{Entry}
use Rattle.pe_grammar.specs.declared.form.Form.{Form}
use Rattle.pe_grammar.specs.declared.form.Form.TheVariants.{Terminal, Empty, Sequence, Choice, Repeat, Clause, Once}
use Rattle.pe_grammar.specs.Derivation.{Derivation, leaf, nothing, pair, left, right, done, more, present, absent, once}
use Rattle.pe_grammar.specs.Grammar.{form_at, Derives}
use Rattle.pe_grammar.specs.Written.{Written, word, rule, empty, both, either, many, nearest, each_once, body, IsOf}
use Rattle.pe_grammar.specs.Stands.{at_terminal, at_empty, at_sequence, at_choice, at_repeat, at_clause, at_once, stands, is_body, rules_from}

terminal_at : (o : Option Form) (f : ℕ → Bool) → at_terminal o f ≡ true → (k : ℕ) × (o ≡ Some (Terminal k)) × (f k ≡ true)
terminal_at (Some (Terminal k)) f h = (k, refl, h)
terminal_at _ f h = cc

empty_at : (o : Option Form) → at_empty o ≡ true → o ≡ Some Empty
empty_at (Some Empty) h = refl
empty_at _ h = cc

sequence_at : (o : Option Form) (f : ℕ → ℕ → Bool) → at_sequence o f ≡ true → (i : ℕ) × (j : ℕ) × (o ≡ Some (Sequence i j)) × (f i j ≡ true)
sequence_at (Some (Sequence i j)) f h = (i, j, refl, h)
sequence_at _ f h = cc

choice_at : (o : Option Form) (f : ℕ → ℕ → Bool) → at_choice o f ≡ true → (i : ℕ) × (j : ℕ) × (o ≡ Some (Choice i j)) × (f i j ≡ true)
choice_at (Some (Choice i j)) f h = (i, j, refl, h)
choice_at _ f h = cc

repeat_at : (o : Option Form) (f : ℕ → Bool) → at_repeat o f ≡ true → (i : ℕ) × (o ≡ Some (Repeat i)) × (f i ≡ true)
repeat_at (Some (Repeat i)) f h = (i, refl, h)
repeat_at _ f h = cc

clause_at : (o : Option Form) (f : ℕ → ℕ → Bool) → at_clause o f ≡ true → (w : ℕ) × (i : ℕ) × (o ≡ Some (Clause w i)) × (f w i ≡ true)
clause_at (Some (Clause w i)) f h = (w, i, refl, h)
clause_at _ f h = cc

same_bounds : (a b : Bounds) → (eqb a.once b.once && eqb a.needed b.needed) ≡ true → a ≡ b
same_bounds a b h =
    let p = and_parts (eqb a.once b.once) (eqb a.needed b.needed) h in
    ap (λ v. record { once = v; needed = a.needed }) (eqb-true a.once b.once p.0) ∙ ap (λ v. record { once = b.once; needed = v }) (eqb-true a.needed b.needed p.1)

once_at : (o : Option Form) (f : ℕ → Bounds → Bool) → at_once o f ≡ true → (i : ℕ) × (s : Bounds) × (o ≡ Some (Once i s)) × (f i s ≡ true)
once_at (Some (Once i s)) f h = (i, s, refl, h)
once_at _ f h = cc

module _ (g : List Entry) (rs : List Written) where
  -- what the form n is where it stands for a body
  abbrev Says : ℕ → Written → Type 0
  Says n (word k) = form_at g n ≡ Some (Terminal k)
  Says n (rule r) = ⊥
  Says n empty = form_at g n ≡ Some Empty
  Says n (both a b) = (i : ℕ) × (j : ℕ) × (form_at g n ≡ Some (Sequence i j)) × (stands g rs i a ≡ true) × (stands g rs j b ≡ true)
  Says n (either a b) = (i : ℕ) × (j : ℕ) × (form_at g n ≡ Some (Choice i j)) × (stands g rs i a ≡ true) × (stands g rs j b ≡ true)
  Says n (many a) = (i : ℕ) × (form_at g n ≡ Some (Repeat i)) × (stands g rs i a ≡ true)
  Says n (nearest w a) = (i : ℕ) × (form_at g n ≡ Some (Clause w i)) × (stands g rs i a ≡ true)
  Says n (each_once set a) = (i : ℕ) × (form_at g n ≡ Some (Once i set)) × (stands g rs i (many a) ≡ true)

  says : (n : ℕ) (e : Written) → is_body e ≡ true → stands g rs n e ≡ true → Says n e
  says n (word k) b h = let x = terminal_at (form_at g n) (λ j. eqb j k) h in x.1 ∙ ap (λ v. Some (Terminal v)) (eqb-true x.0 k x.2)
  says n (rule r) b h = cc
  says n empty b h = empty_at (form_at g n) h
  says n (both c d) b h =
      let x = sequence_at (form_at g n) (λ i j. stands g rs i c && stands g rs j d) h in
      let y = and_parts (stands g rs x.0 c) (stands g rs x.1 d) x.3 in (x.0, x.1, x.2, y.0, y.1)
  says n (either c d) b h =
      let x = choice_at (form_at g n) (λ i j. stands g rs i c && stands g rs j d) h in
      let y = and_parts (stands g rs x.0 c) (stands g rs x.1 d) x.3 in (x.0, x.1, x.2, y.0, y.1)
  says n (many c) b h = let x = repeat_at (form_at g n) (λ i. stands g rs i c) h in (x.0, x.1, x.2)
  says n (nearest w c) b h =
      let x = clause_at (form_at g n) (λ v i. eqb v w && stands g rs i c) h in
      let y = and_parts (eqb x.0 w) (stands g rs x.1 c) x.3 in
      (x.1, x.2 ∙ ap (λ v. Some (Clause v x.1)) (eqb-true x.0 w y.0), y.1)
  says n (each_once set c) b h =
      let x = once_at (form_at g n) (λ i s. (eqb s.once set.once && eqb s.needed set.needed) && at_repeat (form_at g i) (λ j. stands g rs j c)) h in
      let y = and_parts (eqb x.1.once set.once && eqb x.1.needed set.needed) (at_repeat (form_at g x.0) (λ j. stands g rs j c)) x.3 in
      (x.0, x.2 ∙ ap (λ v. Some (Once x.0 v)) (same_bounds x.1 set y.0), y.1)

  rule_at : (r n : ℕ) (es : List Written) (e : Written) → rules_from g rs r es ≡ true → slice_get es n ≡ Some e → (is_body e ≡ true) × (stands g rs (r + n) e ≡ true)
  rule_at r n [] e h q = cc
  rule_at r zero (x ∷ es) e h q =
      let p = and_parts (is_body x && stands g rs r x) (rules_from g rs (suc r) es) h in
      let b = and_parts (is_body x) (stands g rs r x) p.0 in
      let s : x ≡ e = cc in
      let z : r ≡ r + 0 = omega arith in
      (subst (λ v. is_body v ≡ true) s b.0, subst (λ v. stands g rs (r + 0) v ≡ true) s (subst (λ m. stands g rs m x ≡ true) z b.1))
  rule_at r (suc n) (x ∷ es) e h q =
      let p = and_parts (is_body x && stands g rs r x) (rules_from g rs (suc r) es) h in
      let i = rule_at (suc r) n es e p.1 q in
      let z : suc r + n ≡ r + suc n = omega arith in
      (i.0, subst (λ m. stands g rs m e ≡ true) z i.1)

  some_of : (o : Option Written) → is_some o ≡ true → (e : Written) × (o ≡ Some e)
  some_of None h = cc
  some_of (Some e) h = (e, refl)

  module _ (ok : rules_from g rs 0 rs ≡ true) where
    -- the body of what stands there stands there
    body_stands : (n : ℕ) (e : Written) → stands g rs n e ≡ true → (b : Written) × (body rs e ≡ Some b) × Says n b
    body_stands n (rule r) h =
        let p = and_parts (eqb n r) (is_some (slice_get rs r)) h in
        let x = some_of (slice_get rs r) p.1 in
        let y = rule_at 0 r rs x.0 ok x.1 in
        let z : 0 + r ≡ n = let q : n ≡ r = eqb-true n r p.0 in omega arith in
        (x.0, x.1, says n x.0 y.0 (subst (λ m. stands g rs m x.0 ≡ true) z y.1))
    body_stands n (word k) h = (word k, refl, says n (word k) refl h)
    body_stands n empty h = (empty, refl, says n empty refl h)
    body_stands n (both a b) h = (both a b, refl, says n (both a b) refl h)
    body_stands n (either a b) h = (either a b, refl, says n (either a b) refl h)
    body_stands n (many a) h = (many a, refl, says n (many a) refl h)
    body_stands n (nearest w a) h = (nearest w a, refl, says n (nearest w a) refl h)
    body_stands n (each_once s a) h = (each_once s a, refl, says n (each_once s a) refl h)

    says_of : (n : ℕ) (e b : Written) → stands g rs n e ≡ true → body rs e ≡ Some b → Says n b
    says_of n e b h q = let x = body_stands n e h in let p : x.0 ≡ b = cc in subst (λ v. Says n v) p x.2

    pub to_table : (d : Derivation) (n : ℕ) (e : Written) → stands g rs n e ≡ true → IsOf rs e d → Derives g n d
    to_table (leaf t) n e h o = says_of n e (word t.kind) h o
    to_table nothing n e h o = says_of n e empty h o
    to_table (pair c d) n e h o = let s = says_of n e (both o.0 o.1) h o.2 in (s.0, s.1, s.2, to_table c s.0 o.0 s.3 o.3, to_table d s.1 o.1 s.4 o.4, o.5)
    to_table (left c) n e h o = let s = says_of n e (either o.0 o.1) h o.2 in (s.0, s.1, s.2, to_table c s.0 o.0 s.3 o.3)
    to_table (right c) n e h o = let s = says_of n e (either o.0 o.1) h o.2 in (s.0, s.1, s.2, to_table c s.1 o.1 s.4 o.3)
    to_table done n e h o = let s = says_of n e (many o.0) h o.1 in (s.0, s.1)
    to_table (more c d) n e h o = let s = says_of n e (many o.0) h o.1 in (s.0, s.1, to_table c s.0 o.0 s.2 o.2, to_table d n e h o.3, o.4)
    to_table (present t c) n e h o = let s = says_of n e (nearest o.0 o.1) h o.2 in (o.0, s.0, s.1, o.3, to_table c s.0 o.1 s.2 o.4)
    to_table (absent k) n e h o = let s = says_of n e (nearest k o.0) h o.1 in (s.0, s.1)
    to_table (once c) n e h o = let s = says_of n e (each_once o.0 o.1) h o.2 in (s.0, o.0, s.1, to_table c s.0 (many o.1) s.2 o.3, o.4, o.5)

    is_word : (n m : ℕ) (b : Written) → Says n b → form_at g n ≡ Some (Terminal m) → b ≡ word m
    is_word n m (word k) s f = cc
    is_word n m empty s f = cc
    is_word n m (both c d) s f = let p = s.2 in cc
    is_word n m (either c d) s f = let p = s.2 in cc
    is_word n m (many c) s f = let p = s.1 in cc
    is_word n m (nearest v c) s f = let p = s.1 in cc
    is_word n m (each_once u c) s f = let p = s.1 in cc
    is_word n m (rule r) s f = absurd s

    is_empty : (n : ℕ) (b : Written) → Says n b → form_at g n ≡ Some Empty → b ≡ empty
    is_empty n (word k) s f = cc
    is_empty n empty s f = refl
    is_empty n (both c d) s f = let p = s.2 in cc
    is_empty n (either c d) s f = let p = s.2 in cc
    is_empty n (many c) s f = let p = s.1 in cc
    is_empty n (nearest v c) s f = let p = s.1 in cc
    is_empty n (each_once u c) s f = let p = s.1 in cc
    is_empty n (rule r) s f = absurd s

    is_both : (n i j : ℕ) (b : Written) → Says n b → form_at g n ≡ Some (Sequence i j) → (x : Written) × (y : Written) × (b ≡ both x y) × (stands g rs i x ≡ true) × (stands g rs j y ≡ true)
    is_both n i j (word k) s f = cc
    is_both n i j empty s f = cc
    is_both n i j (both c d) s f = let e = s.2 in let p : s.0 ≡ i = cc in let q : s.1 ≡ j = cc in (c, d, refl, subst (λ m. stands g rs m c ≡ true) p s.3, subst (λ m. stands g rs m d ≡ true) q s.4)
    is_both n i j (either c d) s f = let p = s.2 in cc
    is_both n i j (many c) s f = let p = s.1 in cc
    is_both n i j (nearest v c) s f = let p = s.1 in cc
    is_both n i j (each_once u c) s f = let p = s.1 in cc
    is_both n i j (rule r) s f = absurd s

    is_either : (n i j : ℕ) (b : Written) → Says n b → form_at g n ≡ Some (Choice i j) → (x : Written) × (y : Written) × (b ≡ either x y) × (stands g rs i x ≡ true) × (stands g rs j y ≡ true)
    is_either n i j (word k) s f = cc
    is_either n i j empty s f = cc
    is_either n i j (both c d) s f = let p = s.2 in cc
    is_either n i j (either c d) s f = let e = s.2 in let p : s.0 ≡ i = cc in let q : s.1 ≡ j = cc in (c, d, refl, subst (λ m. stands g rs m c ≡ true) p s.3, subst (λ m. stands g rs m d ≡ true) q s.4)
    is_either n i j (many c) s f = let p = s.1 in cc
    is_either n i j (nearest v c) s f = let p = s.1 in cc
    is_either n i j (each_once u c) s f = let p = s.1 in cc
    is_either n i j (rule r) s f = absurd s

    is_many : (n i : ℕ) (b : Written) → Says n b → form_at g n ≡ Some (Repeat i) → (x : Written) × (b ≡ many x) × (stands g rs i x ≡ true)
    is_many n i (word k) s f = cc
    is_many n i empty s f = cc
    is_many n i (both c d) s f = let p = s.2 in cc
    is_many n i (either c d) s f = let p = s.2 in cc
    is_many n i (many c) s f = let e = s.1 in let p : s.0 ≡ i = cc in (c, refl, subst (λ m. stands g rs m c ≡ true) p s.2)
    is_many n i (nearest v c) s f = let p = s.1 in cc
    is_many n i (each_once u c) s f = let p = s.1 in cc
    is_many n i (rule r) s f = absurd s

    is_nearest : (n w i : ℕ) (b : Written) → Says n b → form_at g n ≡ Some (Clause w i) → (x : Written) × (b ≡ nearest w x) × (stands g rs i x ≡ true)
    is_nearest n w i (word k) s f = cc
    is_nearest n w i empty s f = cc
    is_nearest n w i (both c d) s f = let p = s.2 in cc
    is_nearest n w i (either c d) s f = let p = s.2 in cc
    is_nearest n w i (many c) s f = let p = s.1 in cc
    is_nearest n w i (nearest v c) s f = let e = s.1 in let p : s.0 ≡ i = cc in let q : v ≡ w = cc in (c, ap (λ z. nearest z c) q, subst (λ m. stands g rs m c ≡ true) p s.2)
    is_nearest n w i (each_once u c) s f = let p = s.1 in cc
    is_nearest n w i (rule r) s f = absurd s

    is_once : (n i : ℕ) (z : Bounds) (b : Written) → Says n b → form_at g n ≡ Some (Once i z) → (x : Written) × (b ≡ each_once z x) × (stands g rs i (many x) ≡ true)
    is_once n i z (word k) s f = cc
    is_once n i z empty s f = cc
    is_once n i z (both c d) s f = let p = s.2 in cc
    is_once n i z (either c d) s f = let p = s.2 in cc
    is_once n i z (many c) s f = let p = s.1 in cc
    is_once n i z (nearest v c) s f = let p = s.1 in cc
    is_once n i z (each_once u c) s f = let e = s.1 in let p : s.0 ≡ i = cc in let q : u ≡ z = cc in (c, ap (λ y. each_once y c) q, subst (λ m. stands g rs m (many c) ≡ true) p s.2)
    is_once n i z (rule r) s f = absurd s

    pub from_table : (d : Derivation) (n : ℕ) (e : Written) → stands g rs n e ≡ true → Derives g n d → IsOf rs e d
    from_table (leaf t) n e h o = let x = body_stands n e h in x.1 ∙ ap (λ b. Some b) (is_word n t.kind x.0 x.2 o)
    from_table nothing n e h o = let x = body_stands n e h in x.1 ∙ ap (λ b. Some b) (is_empty n x.0 x.2 o)
    from_table (pair c d) n e h o =
        let x = body_stands n e h in
        let y = is_both n o.0 o.1 x.0 x.2 o.2 in
        (y.0, y.1, x.1 ∙ ap (λ b. Some b) y.2, from_table c o.0 y.0 y.3 o.3, from_table d o.1 y.1 y.4 o.4, o.5)
    from_table (left c) n e h o =
        let x = body_stands n e h in
        let y = is_either n o.0 o.1 x.0 x.2 o.2 in
        (y.0, y.1, x.1 ∙ ap (λ b. Some b) y.2, from_table c o.0 y.0 y.3 o.3)
    from_table (right c) n e h o =
        let x = body_stands n e h in
        let y = is_either n o.0 o.1 x.0 x.2 o.2 in
        (y.0, y.1, x.1 ∙ ap (λ b. Some b) y.2, from_table c o.1 y.1 y.4 o.3)
    from_table done n e h o =
        let x = body_stands n e h in
        let y = is_many n o.0 x.0 x.2 o.1 in
        (y.0, x.1 ∙ ap (λ b. Some b) y.1)
    from_table (more c d) n e h o =
        let x = body_stands n e h in
        let y = is_many n o.0 x.0 x.2 o.1 in
        (y.0, x.1 ∙ ap (λ b. Some b) y.1, from_table c o.0 y.0 y.2 o.2, from_table d n e h o.3, o.4)
    from_table (present t c) n e h o =
        let x = body_stands n e h in
        let y = is_nearest n o.0 o.1 x.0 x.2 o.2 in
        (o.0, y.0, x.1 ∙ ap (λ b. Some b) y.1, o.3, from_table c o.1 y.0 y.2 o.4)
    from_table (absent k) n e h o =
        let x = body_stands n e h in
        let y = is_nearest n k o.0 x.0 x.2 o.1 in
        (y.0, x.1 ∙ ap (λ b. Some b) y.1)
    from_table (once c) n e h o =
        let x = body_stands n e h in
        let y = is_once n o.0 o.1 x.0 x.2 o.2 in
        (o.1, y.0, x.1 ∙ ap (λ b. Some b) y.1, from_table c o.0 (many y.0) y.2 o.3, o.4, o.5)
