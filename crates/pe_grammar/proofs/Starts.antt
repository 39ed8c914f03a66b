-- Which tokens begin a text, go on one, or are left out at its end.
use Rattle.std.proofs.Common.{◌≡◌, ℕ, true, false, List, [], ◌∷◌, ◌++◌, Some, refl, ◌∙◌, subst, inl, inr, ◌⊎◌}
use Rattle.pe_grammar.specs.declared.terminal.Token.{Token}
use Rattle.pe_grammar.specs.declared.form.Entry.{Entry}
use Rattle.pe_grammar.specs.declared.form.Form.TheVariants.{Terminal}
use Rattle.pe_grammar.specs.Derivation.{Derivation, leaf, nothing, pair, left, right, done, more, present, absent, once, HasEach, text, front, LeavesOut}
use Rattle.pe_grammar.specs.Grammar.{Derives, form_at}
use Rattle.pe_grammar.specs.Table.{IsDeterministic, IsSequence, IsChoice, IsRepeat, nullable, starts, opened}
use Rattle.pe_grammar.specs.Reading.{Stops, starts_at, goes_left}
use Rattle.pe_grammar.proofs.Texts.{left_nil, right_nil, front_append, left_means, right_means, begun, none_zero, no_heads}

module _ (g : List Entry) (ok : IsDeterministic g) where
  pub empty_null : (d : Derivation) (n : ℕ) → Derives g n d → text d ≡ [] → nullable g n ≡ true
  empty_null (leaf t) n h e = cc
  empty_null nothing n h e = ok.empty n h
  empty_null (pair d c) n h e =
      (ok.sequence n h.0 h.1 h.2).null
      (empty_null d h.0 h.3 (left_nil (text d) (text c) e))
      (empty_null c h.1 h.4 (right_nil (text d) (text c) e))
  empty_null (left d) n h e = (ok.choice n h.0 h.1 h.2).null_a (empty_null d h.0 h.3 e)
  empty_null (right d) n h e = (ok.choice n h.0 h.1 h.2).null_b (empty_null d h.1 h.3 e)
  empty_null done n h e = (ok.«repeat» n h.0 h.1).null
  empty_null (more d c) n h e = (ok.«repeat» n h.0 h.1).null
  empty_null (present t d) n h e = cc
  empty_null (once d) n h e =
      let needs : HasEach h.1.needed [] = subst (λ ks. HasEach h.1.needed ks) (no_heads d e) h.5 in
      (ok.once_more n h.0 h.1 h.2).null (none_zero h.1.needed (λ k f. let q = needs k f in cc))
  empty_null (absent k) n h e = (ok.clause n k h.0 h.1).null

  pub begins : (d : Derivation) (n : ℕ) → Derives g n d → (k : ℕ) → front (text d) ≡ Some k → starts g n k ≡ true
  begins (leaf t) n h k e =
      let q : form_at g n ≡ Some (Terminal k) = cc in ok.terminal n k q
  begins nothing n h k e = cc
  begins (pair d c) n h k e =
      elim (front_append (text d) (text c) k e) [
        | inl p ↦ (ok.sequence n h.0 h.1 h.2).first k (begins d h.0 h.3 k p)
        | inr q ↦ (ok.sequence n h.0 h.1 h.2).first_after (empty_null d h.0 h.3 q.0) k (begins c h.1 h.4 k q.1)
      ]
  begins (left d) n h k e = (ok.choice n h.0 h.1 h.2).first_a k (begins d h.0 h.3 k e)
  begins (right d) n h k e = (ok.choice n h.0 h.1 h.2).first_b k (begins d h.1 h.3 k e)
  begins done n h k e = cc
  begins (more d c) n h k e =
      elim (front_append (text d) (text c) k e) [
        | inl p ↦ (ok.«repeat» n h.0 h.1).first k (begins d h.0 h.2 k p)
        | inr q ↦ absurd ((ok.«repeat» n h.0 h.1).not_null (empty_null d h.0 h.2 q.0))
      ]
  begins (present t d) n h k e = let q : t.kind ≡ k = cc in subst (λ v. starts g n v ≡ true) q ((ok.clause n h.0 h.1 h.2).first t.kind h.3)
  begins (absent w) n h k e = cc
  begins (once d) n h k e = (ok.once_more n h.0 h.1 h.2).first k (begins d h.0 h.3 k e)

  -- what is left out at the end is among what the table says
  pub left_out_opened : (d : Derivation) (n : ℕ) → Derives g n d → (k : ℕ) → LeavesOut d k → opened g n k ≡ true
  left_out_opened (leaf t) n h k o = absurd o
  left_out_opened nothing n h k o = absurd o
  left_out_opened (pair d e) n h k o = elim o [
    | inl p ↦ (ok.sequence n h.0 h.1 h.2).opened_b k (left_out_opened e h.1 h.4 k p)
    | inr p ↦ (ok.sequence n h.0 h.1 h.2).opened_a (empty_null e h.1 h.4 p.0) k (left_out_opened d h.0 h.3 k p.1)
  ]
  left_out_opened (left d) n h k o = (ok.choice n h.0 h.1 h.2).opened_a k (left_out_opened d h.0 h.3 k o)
  left_out_opened (right d) n h k o = (ok.choice n h.0 h.1 h.2).opened_b k (left_out_opened d h.1 h.3 k o)
  left_out_opened done n h k o = absurd o
  left_out_opened (more d e) n h k o = elim o [
    | inl p ↦ left_out_opened e n h.3 k p
    | inr p ↦ (ok.«repeat» n h.0 h.1).left_out k (left_out_opened d h.0 h.2 k p.1)
  ]
  left_out_opened (present t d) n h k o = (ok.clause n h.0 h.1 h.2).left_out k (left_out_opened d h.1 h.4 k o)
  left_out_opened (once d) n h k o = (ok.once_more n h.0 h.1 h.2).left_out k (left_out_opened d h.0 h.3 k o)
  left_out_opened (absent w) n h k o = (ok.clause n w h.0 h.1).word k o

  pub stops_before : (n a b : ℕ) (s : IsSequence g n a b) (e : Derivation) (rest : List Token) → Derives g b e → Stops g n rest → Stops g a (text e ++ rest)
  stops_before n a b s e rest h st =
      λ k f o. elim (front_append (text e) rest k f) [
        | inl p ↦ s.apart k o (begins e b h k p)
        | inr q ↦ st k q.1 (s.on_before (empty_null e b h q.0) k o)
      ]

  pub stops_again : (n a : ℕ) (s : IsRepeat g n a) (e : Derivation) (rest : List Token) → Derives g n e → Stops g n rest → Stops g a (text e ++ rest)
  stops_again n a s e rest h st =
      λ k f o. elim (front_append (text e) rest k f) [
        | inl p ↦ s.apart k o (begins e n h k p)
        | inr q ↦ st k q.1 (s.on k o)
      ]

  -- a derivation at the front of tokens that agree begins as its form may, or is empty
  pub begins_or_empty : (d : Derivation) (n : ℕ) → Derives g n d → (after tokens : List Token) → front (text d ++ after) ≡ front tokens →
      (starts_at g n tokens ≡ true) ⊎ ((nullable g n ≡ true) × (front after ≡ front tokens))
  begins_or_empty d n h after tokens e = begins_or_empty_at (text d) tokens e
      (λ z. empty_null d n h z) (λ k f. begins d n h k f)
    where
      begins_or_empty_at : (xs ts : List Token) → front (xs ++ after) ≡ front ts → (xs ≡ [] → nullable g n ≡ true) → ((k : ℕ) → front xs ≡ Some k → starts g n k ≡ true) →
          (starts_at g n ts ≡ true) ⊎ ((nullable g n ≡ true) × (front after ≡ front ts))
      begins_or_empty_at [] ts e z b = inr (z refl, e)
      begins_or_empty_at (x ∷ xs) [] e z b = cc
      begins_or_empty_at (x ∷ xs) (t ∷ ts) e z b = inl (b t.kind e)

  -- of the two sides of a choice, the other has no text that agrees
  pub not_right : (n a b : ℕ) (s : IsChoice g n a b) (tokens after : List Token) (d : Derivation) → goes_left g a b tokens ≡ true →
      Derives g b d → Stops g n after → front (text d ++ after) ≡ front tokens → ⊥
  not_right n a b s tokens after d l h st f =
      elim (left_means (starts_at g a tokens) (nullable g a) (starts_at g b tokens) l) [
        | inl p ↦
            let u = begun g a tokens p in
            elim (begins_or_empty d b h after tokens f) [
              | inl q ↦ let v = begun g b tokens q in let w : v.0 ≡ u.0 = cc in s.apart u.0 u.2 (subst (λ k. starts g b k ≡ true) w v.2)
              | inr q ↦ st u.0 (q.1 ∙ u.1) (s.on_not_b q.0 u.0 u.2)
            ]
        | inr p ↦
            elim (begins_or_empty d b h after tokens f) [
              | inl q ↦ cc
              | inr q ↦ s.one_null p.0 q.0
            ]
      ]

  pub not_left : (n a b : ℕ) (s : IsChoice g n a b) (tokens after : List Token) (d : Derivation) → goes_left g a b tokens ≡ false →
      Derives g a d → Stops g n after → front (text d ++ after) ≡ front tokens → ⊥
  not_left n a b s tokens after d l h st f =
      let r = right_means (starts_at g a tokens) (nullable g a) (starts_at g b tokens) l in
      elim (begins_or_empty d a h after tokens f) [
        | inl q ↦ cc
        | inr q ↦ elim r.1 [
          | inl p ↦ cc
          | inr p ↦ let u = begun g b tokens p in st u.0 (q.1 ∙ u.1) (s.on_not_a q.0 u.0 u.2)
        ]
      ]
