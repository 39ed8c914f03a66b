-- A grammar that passes the test is deterministic.
use Rattle.std.proofs.Common.{◌≡◌, ℕ, zero, suc, ◌<◌, Bool, true, false, cond, not, ltb, List, [], ◌∷◌, length, Some, None, Option, refl, sym, ap, ◌∙◌, subst, inl, inr, ◌⊎◌, arith}
use Rattle.std.proofs.lemmas.Bool.{ltb-true, eqb-true, and_parts, not-true, eq-eqb}
use Rattle.std.specs.Prelude.{slice_get, bit_and, min, ◌^◌, eqb}
use Rattle.std.specs.List.{list_all}
use Rattle.std.specs.Int.{bit_at}
use Rattle.std.proofs.lemmas.Nat.Bits.{bit_at_and, bit_at-lt, bit_at-zero}
use Rattle.pe_grammar.specs.declared.form.Bounds.{Bounds}
use Rattle.pe_grammar.specs.declared.form.Entry.{Entry}
use Rattle.pe_grammar.specs.Certain.{certain}
use Rattle.pe_grammar.specs.declared.form.Form.{Form}
use Rattle.pe_grammar.specs.declared.form.Form.TheVariants.{Terminal, Empty, Sequence, Choice, Repeat, Clause, Once}
use Rattle.pe_grammar.specs.Grammar.{form_at, form_in}
use Rattle.pe_grammar.specs.Derivation.{has}
use Rattle.pe_grammar.specs.Table.{IsDeterministic, IsSequence, IsChoice, IsRepeat, IsClause, IsOnce, SequenceFacts, ChoiceFacts, nullable, starts, rank_in}
use Rattle.pe_grammar.specs.Test.{within, apart, where_true, all_true, sequence_tests, choice_tests, repeat_tests, clause_tests, once_tests, repeated_form, repeats, passes_two, passes_one, passes_form, passes_entry, passes}

within_means : (x y : ℕ) → within x y ≡ true → (k : ℕ) → has x k ≡ true → has y k ≡ true
within_means x y h k e =
    let p : bit_and x y ≡ x = eqb-true (bit_and x y) x h in
    let q : bit_at x k ≡ 1 = eqb-true (bit_at x k) 1 e in
    let r : bit_at x k ≡ min (bit_at x k) (bit_at y k) = ap (λ v. bit_at v k) (sym p) ∙ bit_at_and x y k in
    let b = bit_at-lt y k in
    eq-eqb (bit_at y k) 1 (one_of (bit_at x k) (bit_at y k) q r b)
  where
    one_of : (m n : ℕ) → m ≡ 1 → m ≡ min m n → n < 2 → n ≡ 1
    one_of m n q r b = omega arith

apart_means : (x y : ℕ) → apart x y ≡ true → (k : ℕ) → has x k ≡ true → has y k ≡ true → ⊥
apart_means x y h k e f =
    let p : bit_and x y ≡ 0 = eqb-true (bit_and x y) 0 h in
    let q : bit_at x k ≡ 1 = eqb-true (bit_at x k) 1 e in
    let s : bit_at y k ≡ 1 = eqb-true (bit_at y k) 1 f in
    let r : min (bit_at x k) (bit_at y k) ≡ 0 = sym (bit_at_and x y k) ∙ ap (λ v. bit_at v k) p ∙ bit_at-zero k in
    none_of (bit_at x k) (bit_at y k) q s r
  where
    none_of : (m n : ℕ) → m ≡ 1 → n ≡ 1 → min m n ≡ 0 → ⊥
    none_of m n q s r = absurd (omega arith)

where_means : (x y : Bool) → where_true x y ≡ true → x ≡ true → y ≡ true
where_means true y h e = h
where_means false y h e = cc

either_means : (x y : Bool) → cond x true y ≡ true → (x ≡ true) ⊎ (y ≡ true)
either_means true y h = inl refl
either_means false y h = inr h

abbrev Each : List Bool → Type 0
Each [] = Unit {0}
Each (b ∷ bs) = (b ≡ true) × (Each bs)

each : (bs : List Bool) → all_true bs ≡ true → Each bs
each [] h = tt
each (true ∷ bs) h = (refl, each bs h)
each (false ∷ bs) h = cc

element_passes : (p : Entry → Bool) (xs : List Entry) → list_all p xs ≡ true → (n : ℕ) (e : Entry) → slice_get xs n ≡ Some e → p e ≡ true
element_passes p [] h n e q = cc
element_passes p (x ∷ xs) h zero e q = let r : x ≡ e = cc in subst (λ v. p v ≡ true) r (and_parts (p x) (list_all p xs) h).0
element_passes p (x ∷ xs) h (suc n) e q = element_passes p xs (and_parts (p x) (list_all p xs) h).1 n e q

inside : (xs : List Entry) (n : ℕ) (e : Entry) → slice_get xs n ≡ Some e → n < length xs
inside [] n e q = cc
inside (x ∷ xs) zero e q = omega arith
inside (x ∷ xs) (suc n) e q = let h = inside xs n e q in omega arith

form_entry : (o : Option Entry) (f : Form) → form_in o ≡ Some f → (e : Entry) × (o ≡ Some e) × (e.form ≡ f)
form_entry None f h = cc
form_entry (Some e) f h = (e, refl, cc)

two_entries : (tests : Entry → Entry → List Bool) (o u : Option Entry) → passes_two tests o u ≡ true → (a : Entry) × (b : Entry) × (o ≡ Some a) × (u ≡ Some b) × (all_true (tests a b) ≡ true)
two_entries tests (Some a) (Some b) h = (a, b, refl, refl, h)
two_entries tests (Some a) None h = cc
two_entries tests None u h = cc

one_entry : (tests : Entry → List Bool) (o : Option Entry) → passes_one tests o ≡ true → (a : Entry) × (o ≡ Some a) × (all_true (tests a) ≡ true)
one_entry tests (Some a) h = (a, refl, h)
one_entry tests None h = cc

three_along : (P : Option Entry → Option Entry → Option Entry → Type 0) (o u v : Option Entry) (e p q : Entry) → o ≡ Some e → u ≡ Some p → v ≡ Some q → P (Some e) (Some p) (Some q) → P o u v
three_along P o u v e p q x y z h = subst (λ w. P w u v) (sym x) (subst (λ w. P (Some e) w v) (sym y) (subst (λ w. P (Some e) (Some p) w) (sym z) h))

sequence_facts : (g : List Entry) (a b : ℕ) (e p q : Entry) → a < length g → b < length g → Each (sequence_tests e p q) → SequenceFacts g a b (Some e) (Some p) (Some q)
sequence_facts g a b e p q in_a in_b t = record {
  in_a = in_a;
  in_b = in_b;
  null = λ u v. where_means q.nullable e.nullable (where_means p.nullable (where_true q.nullable e.nullable) t.0 u) v;
  null_back = λ u. (where_means e.nullable p.nullable t.1.0 u, where_means e.nullable q.nullable t.1.1.0 u);
  first = λ k h. within_means p.first e.first t.1.1.1.0 k h;
  first_after = λ u k h. within_means q.first e.first (where_means p.nullable (within q.first e.first) t.1.1.1.1.0 u) k h;
  on = λ k h. within_means q.goes_on e.goes_on t.1.1.1.1.1.0 k h;
  on_before = λ u k h. within_means p.goes_on e.goes_on (where_means q.nullable (within p.goes_on e.goes_on) t.1.1.1.1.1.1.0 u) k h;
  apart = λ k h z. apart_means p.goes_on q.first t.1.1.1.1.1.1.1.0 k h z;
  opened_b = λ k h. within_means q.opened e.opened t.1.1.1.1.1.1.1.1.0 k h;
  opened_a = λ u k h. within_means p.opened e.opened (where_means q.nullable (within p.opened e.opened) t.1.1.1.1.1.1.1.1.1.0 u) k h;
  shut = elim (either_means q.nullable (apart p.opened q.first) t.1.1.1.1.1.1.1.1.1.1.0) [ inl z ↦ inl z | inr z ↦ inr (λ k h o. apart_means p.opened q.first z k h o) ];
  ranked = ltb-true p.rank e.rank t.1.1.1.1.1.1.1.1.1.1.1.0;
  ranked_after = λ u. ltb-true q.rank e.rank (where_means p.nullable (ltb q.rank e.rank) t.1.1.1.1.1.1.1.1.1.1.1.1.0 u);
  higher = ltb-true p.height e.height t.1.1.1.1.1.1.1.1.1.1.1.1.1.0;
  higher_after = ltb-true q.height e.height t.1.1.1.1.1.1.1.1.1.1.1.1.1.1.0;
}

choice_facts : (g : List Entry) (a b : ℕ) (e p q : Entry) → a < length g → b < length g → Each (choice_tests e p q) → ChoiceFacts g a b (Some e) (Some p) (Some q)
choice_facts g a b e p q in_a in_b t = record {
  in_a = in_a;
  in_b = in_b;
  null_a = λ u. where_means p.nullable e.nullable t.0 u;
  null_b = λ u. where_means q.nullable e.nullable t.1.0 u;
  null_back = λ u. either_means p.nullable q.nullable (where_means e.nullable (cond p.nullable true q.nullable) t.1.1.0 u);
  first_a = λ k h. within_means p.first e.first t.1.1.1.0 k h;
  first_b = λ k h. within_means q.first e.first t.1.1.1.1.0 k h;
  on_a = λ k h. within_means p.goes_on e.goes_on t.1.1.1.1.1.0 k h;
  on_b = λ k h. within_means q.goes_on e.goes_on t.1.1.1.1.1.1.0 k h;
  on_not_a = λ u k h. within_means q.first e.goes_on (where_means p.nullable (within q.first e.goes_on) t.1.1.1.1.1.1.1.0 u) k h;
  on_not_b = λ u k h. within_means p.first e.goes_on (where_means q.nullable (within p.first e.goes_on) t.1.1.1.1.1.1.1.1.0 u) k h;
  apart = λ k h z. apart_means p.first q.first t.1.1.1.1.1.1.1.1.1.0 k h z;
  one_null = λ u v. let z : q.nullable ≡ false = not-true q.nullable (where_means p.nullable (not q.nullable) t.1.1.1.1.1.1.1.1.1.1.0 u) in cc;
  opened_a = λ k h. within_means p.opened e.opened t.1.1.1.1.1.1.1.1.1.1.1.0 k h;
  opened_b = λ k h. within_means q.opened e.opened t.1.1.1.1.1.1.1.1.1.1.1.1.0 k h;
  ranked_a = ltb-true p.rank e.rank t.1.1.1.1.1.1.1.1.1.1.1.1.1.0;
  ranked_b = ltb-true q.rank e.rank t.1.1.1.1.1.1.1.1.1.1.1.1.1.1.0;
  higher = elim (either_means (ltb p.height e.height) (ltb q.height e.height) t.1.1.1.1.1.1.1.1.1.1.1.1.1.1.1.0) [ inl z ↦ inl (ltb-true p.height e.height z) | inr z ↦ inr (ltb-true q.height e.height z) ];
}

repeats_form : (f : Form) → repeats f ≡ true → (a : ℕ) × (f ≡ Repeat a)
repeats_form (Repeat a) h = (a, refl)
repeats_form (Terminal k) h = cc
repeats_form Empty h = cc
repeats_form (Sequence a b) h = cc
repeats_form (Choice a b) h = cc
repeats_form (Clause w a) h = cc
repeats_form (Once r bounds) h = cc

module _ (g : List Entry) (ok : passes g ≡ true) where
  -- the entry of a form, and that it passes
  entry_of : (n : ℕ) (f : Form) → form_at g n ≡ Some f → (e : Entry) × (slice_get g n ≡ Some e) × (passes_form g e f ≡ true) × (e.rank < 65536)
  entry_of n f h =
      let x = form_entry (slice_get g n) f h in
      let p = and_parts (ltb x.0.rank 65536) (passes_form g x.0 x.0.form) (element_passes (λ e. passes_entry g e) g ok n x.0 x.1) in
      (x.0, x.1, subst (λ v. passes_form g x.0 v ≡ true) x.2 p.1, ltb-true x.0.rank 65536 p.0)

  sequence_passes : (n a b : ℕ) → form_at g n ≡ Some (Sequence a b) → IsSequence g n a b
  sequence_passes n a b f =
      let x = entry_of n (Sequence a b) f in
      let e = x.0 in
      let y = two_entries (sequence_tests e) (slice_get g a) (slice_get g b) x.2 in
      let p = y.0 in
      let q = y.1 in
      let t = each (sequence_tests e p q) y.4 in
      let in_a = inside g a p y.2 in
      let in_b = inside g b q y.3 in
      three_along (SequenceFacts g a b) (slice_get g n) (slice_get g a) (slice_get g b) e p q x.1 y.2 y.3 (sequence_facts g a b e p q in_a in_b t)

  choice_passes : (n a b : ℕ) → form_at g n ≡ Some (Choice a b) → IsChoice g n a b
  choice_passes n a b f =
      let x = entry_of n (Choice a b) f in
      let e = x.0 in
      let y = two_entries (choice_tests e) (slice_get g a) (slice_get g b) x.2 in
      let p = y.0 in
      let q = y.1 in
      let t = each (choice_tests e p q) y.4 in
      let in_a = inside g a p y.2 in
      let in_b = inside g b q y.3 in
      three_along (ChoiceFacts g a b) (slice_get g n) (slice_get g a) (slice_get g b) e p q x.1 y.2 y.3 (choice_facts g a b e p q in_a in_b t)

  repeat_passes : (n a : ℕ) → form_at g n ≡ Some (Repeat a) → IsRepeat g n a
  repeat_passes n a f =
      let x = entry_of n (Repeat a) f in
      let e = x.0 in
      let y = one_entry (repeat_tests e) (slice_get g a) x.2 in
      let p = y.0 in
      let t = each (repeat_tests e p) y.2 in
      let in_a = inside g a p y.1 in
      rw (x.1, y.1) record {
        in_a = in_a;
        null = t.0;
        not_null = λ u. let z : p.nullable ≡ false = not-true p.nullable t.1.0 in cc;
        first = λ k h. within_means p.first e.first t.1.1.0 k h;
        on = λ k h. within_means p.goes_on e.goes_on t.1.1.1.0 k h;
        on_again = λ k h. within_means p.first e.goes_on t.1.1.1.1.0 k h;
        apart = λ k h z. apart_means p.goes_on e.first t.1.1.1.1.1.0 k h z;
        left_out = λ k h. within_means p.opened e.opened t.1.1.1.1.1.1.0 k h;
        ranked = ltb-true p.rank e.rank t.1.1.1.1.1.1.1.0;
      }

  clause_passes : (n w a : ℕ) → form_at g n ≡ Some (Clause w a) → IsClause g n w a
  clause_passes n w a f =
      let x = entry_of n (Clause w a) f in
      let e = x.0 in
      let y = one_entry (clause_tests e w) (slice_get g a) x.2 in
      let p = y.0 in
      let t = each (clause_tests e w p) y.2 in
      let in_a = inside g a p y.1 in
      rw (x.1, y.1) record {
        in_a = in_a;
        null = t.0;
        first = λ k h. within_means w e.first t.1.0 k h;
        on = λ k h. within_means p.goes_on e.goes_on t.1.1.0 k h;
        word = λ k h. within_means w e.opened t.1.1.1.0 k h;
        left_out = λ k h. within_means p.opened e.opened t.1.1.1.1.0 k h;
      }

  once_passes : (n r : ℕ) (bounds : Bounds) → form_at g n ≡ Some (Once r bounds) → IsOnce g n r bounds.needed
  once_passes n r bounds f =
      let x = entry_of n (Once r bounds) f in
      let e = x.0 in
      let needed = bounds.needed in
      let y = one_entry (once_tests g e needed) (slice_get g r) x.2 in
      let p = y.0 in
      let t = each (once_tests g e needed p) y.2 in
      let in_a = inside g r p y.1 in
      let form = repeats_form p.form t.0 in
      let start : within needed (certain e.rank g e.height form.0) ≡ true = subst (λ v. within needed (certain e.rank g e.height (repeated_form v)) ≡ true) form.1 t.1.0 in
      rw (x.1, y.1) record {
        in_a = in_a;
        repeats = (form.0, ap (λ v. Some v) form.1, λ k h. within_means needed (certain e.rank g e.height form.0) start k h);
        small = ltb-true needed (2 ^ 128) t.1.1.0;
        null = λ z. where_means (eqb needed 0) e.nullable t.1.1.1.0 (eq-eqb needed 0 z);
        null_back = λ u. eqb-true needed 0 (where_means e.nullable (eqb needed 0) t.1.1.1.1.0 u);
        shut = λ k h z. apart_means p.opened needed t.1.1.1.1.1.0 k h z;
        first = λ k h. within_means p.first e.first t.1.1.1.1.1.1.0 k h;
        on = λ k h. within_means p.goes_on e.goes_on t.1.1.1.1.1.1.1.0 k h;
        left_out = λ k h. within_means p.opened e.opened t.1.1.1.1.1.1.1.1.0 k h;
        ranked = ltb-true p.rank e.rank t.1.1.1.1.1.1.1.1.1.0;
      }

  terminal_passes : (n k : ℕ) → form_at g n ≡ Some (Terminal k) → (starts g n k ≡ true) × (nullable g n ≡ true → ⊥)
  terminal_passes n k f =
      let x = entry_of n (Terminal k) f in
      let e = x.0 in
      let t = each (has e.first k ∷ not e.nullable ∷ []) x.2 in
      rw x.1 (t.0, λ u. let z : e.nullable ≡ false = not-true e.nullable t.1.0 in cc)

  rank_below : (n : ℕ) (o : Option Entry) → slice_get g n ≡ o → rank_in o < 65536
  rank_below n None h = omega arith
  rank_below n (Some e) h = let x = entry_of n e.form (ap form_in h) in let q : x.0 ≡ e = cc in subst (λ v. v.rank < 65536) q x.3

  pub deterministic : IsDeterministic g
  deterministic = record {
    ranked = λ n. rank_below n (slice_get g n) refl;
    terminal = λ n k f. (terminal_passes n k f).0;
    terminal_not_null = λ n k f. (terminal_passes n k f).1;
    empty = λ n f. let x = entry_of n Empty f in rw x.1 x.2;
    sequence = sequence_passes;
    choice = choice_passes;
    «repeat» = repeat_passes;
    clause = clause_passes;
    once_more = once_passes;
  }
