-- Each form has a text, and each beginning of one goes on to a whole.
use Rattle.std.proofs.Common.{◌≡◌, ℕ, zero, suc, ◌<◌, Bool, true, false, List, [], ◌∷◌, ◌++◌, length, Some, None, Option, refl, sym, ap, ◌∙◌, subst, inl, inr, append_assoc, arith}
use Rattle.std.proofs.lemmas.List.{append-nil}
use Rattle.std.specs.List.{cons_option}
use Rattle.std.proofs.lemmas.Bool.{cases_Bool, ltb-true, and_parts}
use Rattle.std.specs.Prelude.{slice_get, ltb}
use Rattle.pe_grammar.specs.declared.form.Bounds.{Bounds}
use Rattle.pe_grammar.specs.Certain.{certain, certain_of, certain_in}
use Rattle.pe_grammar.specs.declared.terminal.Token.{Token}
use Rattle.pe_grammar.specs.declared.form.Entry.{Entry}
use Rattle.pe_grammar.specs.declared.form.Form.{Form}
use Rattle.pe_grammar.specs.declared.form.Form.TheVariants.{Terminal, Empty, Sequence, Choice, Repeat, Clause, Once}
use Rattle.pe_grammar.specs.Derivation.{Derivation, leaf, nothing, pair, left, right, done, more, present, absent, once, heads, IsFresh, HasEach, has, taken, text, front, IsNear, LeavesOut}
use Rattle.pe_grammar.specs.Grammar.{Derives, form_at, form_in}
use Rattle.pe_grammar.specs.Table.{IsDeterministic, IsSequence, nullable, opened, rank, height, height_in}
use Rattle.pe_grammar.proofs.Texts.{front_append, more_parts, none_inside, near_nil, zero_none, power_has, or_has, below_bound, below_or, Comes, comes_before, comes_last, cons_append, fresh_append, front_left, extended}
use Rattle.pe_grammar.proofs.Starts.{begins, left_out_opened}

module _ (g : List Entry) (ok : IsDeterministic g) where
  -- a form that may be empty has a derivation of the empty text
  pub empty_form : (n bound : ℕ) → rank g n < suc bound → nullable g n ≡ true → ((m : ℕ) → rank g m < bound → m < length g → nullable g m ≡ true → (d : Derivation) × Derives g m d × (text d ≡ [])) →
      (form : Form) → form_at g n ≡ Some form → (d : Derivation) × Derives g n d × (text d ≡ [])
  empty_form n bound h z given (Terminal k) f = absurd (ok.terminal_not_null n k f z)
  empty_form n bound h z given Empty f = (nothing, f, refl)
  empty_form n bound h z given (Sequence a b) f =
      let s = ok.sequence n a b f in
      let both = s.null_back z in
      let p = s.ranked in
      let q = s.ranked_after both.0 in
      let x = given a (omega arith) s.in_a both.0 in
      let y = given b (omega arith) s.in_b both.1 in
      (pair x.0 y.0, (a, b, f, x.1, y.1, near_nil x.0 (text y.0) y.2), ap (λ v. v ++ text y.0) x.2 ∙ y.2)
  empty_form n bound h z given (Choice a b) f =
      let s = ok.choice n a b f in
      let p = s.ranked_a in
      let q = s.ranked_b in
      elim (s.null_back z) [
        | inl v ↦ let x = given a (omega arith) s.in_a v in (left x.0, (a, b, f, x.1), x.2)
        | inr v ↦ let x = given b (omega arith) s.in_b v in (right x.0, (a, b, f, x.1), x.2)
      ]
  empty_form n bound h z given (Repeat a) f = (done, (a, f), refl)
  empty_form n bound h z given (Clause w a) f = (absent w, (a, f), refl)
  empty_form n bound h z given (Once r set) f =
      let s = ok.once_more n r set f in
      let x = s.repeats in
      (once done, (r, set, f, (x.0, x.1), tt, λ k e. absurd (zero_none set.needed k (s.null_back z) e)), refl)

  pub empty_entry : (n bound : ℕ) → rank g n < suc bound → n < length g → nullable g n ≡ true → ((m : ℕ) → rank g m < bound → m < length g → nullable g m ≡ true → (d : Derivation) × Derives g m d × (text d ≡ [])) →
      (o : Option Entry) → slice_get g n ≡ o → (d : Derivation) × Derives g n d × (text d ≡ [])
  empty_entry n bound h lt z given None e = absurd (none_inside g n lt e)
  empty_entry n bound h lt z given (Some entry) e = empty_form n bound h z given entry.form (ap form_in e)

  pub empty_below : (bound n : ℕ) → rank g n < bound → n < length g → nullable g n ≡ true → (d : Derivation) × Derives g n d × (text d ≡ [])
  empty_below zero n h lt z = absurd (omega arith)
  empty_below (suc bound) n h lt z = empty_entry n bound h lt z (λ m k l y. empty_below bound m k l y) (slice_get g n) refl

  pub empty_example : (n : ℕ) → n < length g → nullable g n ≡ true → (d : Derivation) × Derives g n d × (text d ≡ [])
  empty_example n lt z = empty_below (suc (rank g n)) n (omega arith) lt z

  -- a second part that the first may stand before
  pub second_example : (n a b : ℕ) (s : IsSequence g n a b) (d : Derivation) → Derives g a d → ((z : Derivation) × Derives g b z) → (z : Derivation) × Derives g b z × IsNear d (text z)
  second_example n a b s d h given = elim s.shut [
    | inl v ↦ let x = empty_example b s.in_b v in (x.0, x.1, near_nil d (text x.0) x.2)
    | inr v ↦ (given.0, given.1, λ k f o. v k (left_out_opened g ok d a h k o) (begins g ok given.0 b given.1 k f))
  ]

  -- lists of options that lack some
  pub extend : (r a : ℕ) → form_at g r ≡ Some (Repeat a) → (z : Derivation) → Derives g a z → (k : ℕ) → front (text z) ≡ Some k →
      (d : Derivation) → Derives g r d → (LeavesOut d k → ⊥) → Derives g r (extended d z) × (text (extended d z) ≡ text d ++ text z) × (heads (extended d z) ≡ heads d ++ k ∷ [])
  extend r a f z hz k fz done h shut = ((a, f, hz, (a, f), λ j fj o. cc), append-nil (text z), ap (λ o. cons_option o []) fz)
  extend r a f z hz k fz (more d e) h shut =
      let parts = more_parts g r a d e f h in
      let x = extend r a f z hz k fz e parts.1 (λ o. shut (inl o)) in
      let near : IsNear d (text (extended e z)) = λ j fj o. elim (front_append (text e) (text z) j (ap front (sym x.1) ∙ fj)) [
        | inl p ↦ parts.2 j p o
        | inr p ↦ let fk = p.1 in let q : j ≡ k = cc in shut (inr (p.0, subst (λ v. LeavesOut d v) q o))
      ] in (
        (a, f, parts.0, x.0, near),
        ap (λ v. text d ++ v) x.1 ∙ sym (append_assoc (text d) (text e) (text z)),
        ap (λ ks. cons_option (front (text d)) ks) x.2 ∙ cons_append (front (text d)) (heads e) (k ∷ []),
      )
  extend r a f z hz k fz (leaf t) h shut = cc
  extend r a f z hz k fz nothing h shut = cc
  extend r a f z hz k fz (pair d e) h shut = let p = h.2 in cc
  extend r a f z hz k fz (left d) h shut = let p = h.2 in cc
  extend r a f z hz k fz (right d) h shut = let p = h.2 in cc
  extend r a f z hz k fz (present t d) h shut = let p = h.2 in cc
  extend r a f z hz k fz (absent w) h shut = let p = h.1 in cc
  extend r a f z hz k fz (once d) h shut = let p = h.2 in cc

  -- d goes on to a list that has the needed ones below the bound
  abbrev pub Filled : ℕ → ℕ → ℕ → Derivation → ℕ → Type 0
  Filled r set needed d bound = (after : List Token) × (c : Derivation) × Derives g r c × IsFresh set [] (heads c) × (text c ≡ text d ++ after) × ((k : ℕ) → k < bound → has needed k ≡ true → Comes (heads c) k ≡ true)

  pub fill_one : (r a set needed : ℕ) → form_at g r ≡ Some (Repeat a) → ((k : ℕ) → has needed k ≡ true → (z : Derivation) × Derives g a z × (front (text z) ≡ Some k)) →
      ((k : ℕ) → opened g r k ≡ true → has needed k ≡ true → ⊥) → (d : Derivation) (bound : ℕ) → Filled r set needed d bound → Filled r set needed d (suc bound)
  fill_one r a set needed f start shut d bound x = elim (cases_Bool (has needed bound)) [
    | inr free ↦ (
      x.0,
      x.1,
      x.2,
      x.3,
      x.4,
      λ k l e. elim (below_or k bound l) [ inl p ↦ x.5 k p e | inr q ↦ let w : has needed k ≡ has needed bound = ap (has needed) q in cc ],
    )
    | inl holds ↦ elim (cases_Bool (Comes (heads x.1) bound)) [
      | inl there ↦ (
        x.0,
        x.1,
        x.2,
        x.3,
        x.4,
        λ k l e. elim (below_or k bound l) [ inl p ↦ x.5 k p e | inr q ↦ subst (λ v. Comes (heads x.1) v ≡ true) (sym q) there ],
      )
      | inr lacks ↦
          let z = start bound holds in
          let y = extend r a f z.0 z.1 bound z.2 x.1 x.2 (λ o. shut bound (left_out_opened g ok x.1 r x.2 bound o) holds) in
          let untaken : taken set (heads x.1) bound ≡ true → ⊥ = λ t. let u = (and_parts (has set bound) (Comes (heads x.1) bound) t).1 in cc in (
            x.0 ++ text z.0,
            extended x.1 z.0,
            y.0,
            subst (λ ks. IsFresh set [] ks) (sym y.2) (fresh_append set [] (heads x.1) bound x.3 untaken),
            y.1 ∙ ap (λ v. v ++ text z.0) x.4 ∙ append_assoc (text d) x.0 (text z.0),
            λ k l e. subst (λ ks. Comes ks k ≡ true) (sym y.2) (elim (below_or k bound l) [
              | inl p ↦ comes_before (heads x.1) (bound ∷ []) k (x.5 k p e)
              | inr q ↦ subst (λ v. Comes (heads x.1 ++ bound ∷ []) v ≡ true) (sym q) (comes_last (heads x.1) bound)
            ]),
          )
    ]
  ]

  pub fill : (r a set needed : ℕ) → form_at g r ≡ Some (Repeat a) → ((k : ℕ) → has needed k ≡ true → (z : Derivation) × Derives g a z × (front (text z) ≡ Some k)) →
      ((k : ℕ) → opened g r k ≡ true → has needed k ≡ true → ⊥) → (d : Derivation) → Derives g r d → IsFresh set [] (heads d) → (bound : ℕ) → Filled r set needed d bound
  fill r a set needed f start shut d h fresh zero = ([], d, h, fresh, sym (append-nil (text d)), λ k l e. absurd (omega arith))
  fill r a set needed f start shut d h fresh (suc bound) = fill_one r a set needed f start shut d bound (fill r a set needed f start shut d h fresh bound)

  pub certain_form : (limit : ℕ) (part : ℕ → ℕ) → ((m : ℕ) → height g m < limit → m < length g → (d : Derivation) × Derives g m d) →
      ((m k : ℕ) → has (part m) k ≡ true → (z : Derivation) × Derives g m z × (front (text z) ≡ Some k)) →
      (n k : ℕ) (low : Bool) → (low ≡ true → height g n < limit) → (form : Form) → form_at g n ≡ Some form → has (certain_of part low form) k ≡ true →
      (z : Derivation) × Derives g n z × (front (text z) ≡ Some k)
  certain_form limit part given again n k low under (Terminal j) f e = (leaf (record { kind = j; place = 0 }), f, ap (λ v. Some v) (power_has j k e))
  certain_form limit part given again n k low under Empty f e = absurd (zero_none 0 k refl e)
  certain_form limit part given again n k true under (Sequence a b) f e =
      let s = ok.sequence n a b f in
      let lower = under refl in
      let above = s.higher_after in
      let x = again a k e in
      let z = second_example n a b s x.0 x.1 (given b (omega arith) s.in_b) in
      (pair x.0 z.0, (a, b, f, x.1, z.1, z.2), front_left (text x.0) (text z.0) k x.2)
  certain_form limit part given again n k false under (Sequence a b) f e = absurd (zero_none 0 k refl e)
  certain_form limit part given again n k low under (Choice a b) f e = elim (or_has (part a) (part b) k e) [
    | inl p ↦ let x = again a k p in (left x.0, (a, b, f, x.1), x.2)
    | inr p ↦ let x = again b k p in (right x.0, (a, b, f, x.1), x.2)
  ]
  certain_form limit part given again n k low under (Repeat a) f e = absurd (zero_none 0 k refl e)
  certain_form limit part given again n k low under (Clause w a) f e = absurd (zero_none 0 k refl e)
  certain_form limit part given again n k low under (Once r set) f e = absurd (zero_none 0 k refl e)

  pub certain_entry : (limit : ℕ) (part : ℕ → ℕ) → ((m : ℕ) → height g m < limit → m < length g → (d : Derivation) × Derives g m d) →
      ((m k : ℕ) → has (part m) k ≡ true → (z : Derivation) × Derives g m z × (front (text z) ≡ Some k)) →
      (n k : ℕ) (o : Option Entry) → slice_get g n ≡ o → has (certain_in part limit o) k ≡ true → (z : Derivation) × Derives g n z × (front (text z) ≡ Some k)
  certain_entry limit part given again n k None q e = absurd (zero_none 0 k refl e)
  certain_entry limit part given again n k (Some entry) q e =
      certain_form limit part given again n k (ltb entry.height limit)
      (λ l. subst (λ v. v < limit) (sym (ap height_in q)) (ltb-true entry.height limit l)) entry.form (ap form_in q) e

  pub certain_derives : (steps limit : ℕ) → ((m : ℕ) → height g m < limit → m < length g → (d : Derivation) × Derives g m d) →
      (n k : ℕ) → has (certain steps g limit n) k ≡ true → (z : Derivation) × Derives g n z × (front (text z) ≡ Some k)
  certain_derives zero limit given n k e = absurd (zero_none 0 k refl e)
  certain_derives (suc steps) limit given n k e = certain_entry limit (λ m. certain steps g limit m) given (λ m j p. certain_derives steps limit given m j p) n k (slice_get g n) refl e

  pub filled : (n r : ℕ) (set : Bounds) → form_at g n ≡ Some (Once r set) → ((m : ℕ) → height g m < height g n → m < length g → (d : Derivation) × Derives g m d) →
      (d : Derivation) → Derives g r d → IsFresh set.once [] (heads d) →
      (after : List Token) × (c : Derivation) × Derives g r c × IsFresh set.once [] (heads c) × (text c ≡ text d ++ after) × HasEach set.needed (heads c)
  filled n r set f given d h fresh =
      let s = ok.once_more n r set f in
      let a = s.repeats in
      let x = fill r a.0 set.once set.needed a.1 (λ k e. certain_derives (rank g n) (height g n) given a.0 k (a.2 k e)) s.shut d h fresh 128 in
      (x.0, x.1, x.2, x.3, x.4, λ k e. x.5 k (below_bound set.needed k s.small e) e)

  -- each form has a text
  pub form_example : (n bound : ℕ) → height g n < suc bound → ((m : ℕ) → height g m < bound → m < length g → (d : Derivation) × Derives g m d) →
      (form : Form) → form_at g n ≡ Some form → (d : Derivation) × Derives g n d
  form_example n bound h given (Terminal k) f = (leaf (record { kind = k; place = 0 }), f)
  form_example n bound h given Empty f = (nothing, f)
  form_example n bound h given (Sequence a b) f =
      let s = ok.sequence n a b f in
      let p = s.higher in
      let q = s.higher_after in
      let x = given a (omega arith) s.in_a in
      let y = given b (omega arith) s.in_b in
      let z = second_example n a b s x.0 x.1 y in
      (pair x.0 z.0, (a, b, f, x.1, z.1, z.2))
  form_example n bound h given (Choice a b) f =
      let s = ok.choice n a b f in
      elim s.higher [
        | inl p ↦ let x = given a (omega arith) s.in_a in (left x.0, (a, b, f, x.1))
        | inr p ↦ let x = given b (omega arith) s.in_b in (right x.0, (a, b, f, x.1))
      ]
  form_example n bound h given (Repeat a) f = (done, (a, f))
  form_example n bound h given (Clause w a) f = (absent w, (a, f))
  form_example n bound h given (Once r set) f =
      let a = (ok.once_more n r set f).repeats in
      let x = filled n r set f (λ m l w. given m (omega arith) w) done (a.0, a.1) tt in
      (once x.1, (r, set, f, x.2, x.3, x.5))

  pub entry_example : (n bound : ℕ) → height g n < suc bound → n < length g → ((m : ℕ) → height g m < bound → m < length g → (d : Derivation) × Derives g m d) →
      (o : Option Entry) → slice_get g n ≡ o → (d : Derivation) × Derives g n d
  entry_example n bound h lt given None e = absurd (none_inside g n lt e)
  entry_example n bound h lt given (Some entry) e = form_example n bound h given entry.form (ap form_in e)

  pub example_below : (bound n : ℕ) → height g n < bound → n < length g → (d : Derivation) × Derives g n d
  example_below zero n h lt = absurd (omega arith)
  example_below (suc bound) n h lt = entry_example n bound h lt (λ m k l. example_below bound m k l) (slice_get g n) refl

  pub example : (n : ℕ) → n < length g → (d : Derivation) × Derives g n d
  example n lt = example_below (suc (height g n)) n (omega arith) lt

  pub completion : (n a b : ℕ) → form_at g n ≡ Some (Sequence a b) → (d : Derivation) → Derives g a d → (z : Derivation) × Derives g b z × IsNear d (text z)
  completion n a b f d h = let s = ok.sequence n a b f in second_example n a b s d h (example b s.in_b)
