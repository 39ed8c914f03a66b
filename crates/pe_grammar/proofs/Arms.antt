-- What each form of a derivation reads and refuses, from what its parts do.
use Rattle.std.proofs.Common.{◌≡◌, ℕ, true, false, List, [], ◌∷◌, ◌++◌, Some, refl, sym, ap, ◌∙◌, subst, inl, inr, append_assoc}
use Rattle.std.proofs.lemmas.List.{append_cancel_left, append-nil}
use Rattle.pe_grammar.specs.declared.terminal.Token.{Token}
use Rattle.pe_grammar.specs.declared.form.Entry.{Entry}
use Rattle.pe_grammar.specs.declared.form.Form.TheVariants.{Terminal, Empty, Sequence, Choice, Repeat, Clause}
use Rattle.pe_grammar.specs.Derivation.{Derivation, leaf, nothing, pair, left, right, done, more, present, absent, once, has, text, front, IsNear}
use Rattle.pe_grammar.specs.Grammar.{Derives, IsViable, form_at}
use Rattle.pe_grammar.specs.Table.{IsDeterministic}
use Rattle.pe_grammar.specs.Reading.{Stops, Reads, Refuses, starts_at, goes_left}
use Rattle.pe_grammar.proofs.Texts.{agrees, pair_parts, left_part, right_part, more_parts, begun, near_before, near_pair, near_within, clause_part}
use Rattle.pe_grammar.proofs.Starts.{stops_before, stops_again, begins_or_empty, not_right, not_left}
use Rattle.pe_grammar.proofs.Examples.{completion}

module _ (g : List Entry) (ok : IsDeterministic g) where
  -- leaves
  pub leaf_only : (n : ℕ) (t : Token) (d : Derivation) (after y : List Token) → form_at g n ≡ Some (Terminal t.kind) → Derives g n d → text d ++ after ≡ t ∷ y → d ≡ leaf t
  leaf_only n t (leaf u) after y f h e = cc
  leaf_only n t nothing after y f h e = cc
  leaf_only n t (pair d c) after y f h e = let p = h.2 in cc
  leaf_only n t (left d) after y f h e = let p = h.2 in cc
  leaf_only n t (right d) after y f h e = let p = h.2 in cc
  leaf_only n t done after y f h e = let p = h.1 in cc
  leaf_only n t (more d c) after y f h e = let p = h.1 in cc
  leaf_only n t (present u c) after y f h e = let p = h.2 in cc
  leaf_only n t (absent k) after y f h e = let p = h.1 in cc
  leaf_only n t (once c) after y f h e = let p = h.2 in cc

  pub reads_leaf : (n : ℕ) (t : Token) (rest : List Token) → form_at g n ≡ Some (Terminal t.kind) → Reads g n (t ∷ rest) (leaf t) rest
  reads_leaf n t rest f = record {
    derives = f;
    split = refl;
    near = λ k fk o. o;
    only = λ other after y h st nr e w. leaf_only n t other after y f h e;
  }

  pub leaf_none : (n k : ℕ) (d : Derivation) (after tokens : List Token) → form_at g n ≡ Some (Terminal k) → Derives g n d → front (text d ++ after) ≡ front tokens → front tokens ≡ Some k
  leaf_none n k (leaf u) after tokens f h e = cc
  leaf_none n k nothing after tokens f h e = cc
  leaf_none n k (pair d c) after tokens f h e = let p = h.2 in cc
  leaf_none n k (left d) after tokens f h e = let p = h.2 in cc
  leaf_none n k (right d) after tokens f h e = let p = h.2 in cc
  leaf_none n k done after tokens f h e = let p = h.1 in cc
  leaf_none n k (more d c) after tokens f h e = let p = h.1 in cc
  leaf_none n k (present u c) after tokens f h e = let p = h.2 in cc
  leaf_none n k (absent w) after tokens f h e = let p = h.1 in cc
  leaf_none n k (once c) after tokens f h e = let p = h.2 in cc

  pub refuses_leaf : (n k place : ℕ) (tokens : List Token) → form_at g n ≡ Some (Terminal k) → (front tokens ≡ Some k → ⊥) → Refuses g n tokens [] tokens
  refuses_leaf n k place tokens f other_next = record {
    split = refl;
    viable = (record { kind = k; place = place } ∷ [], leaf (record { kind = k; place = place }), record { derives = f; spelled = refl });
    none = λ other after y h st nr e w. other_next (leaf_none n k other after tokens f h (ap front e ∙ w));
  }

  -- nothing
  pub nothing_only : (n : ℕ) (d : Derivation) → form_at g n ≡ Some Empty → Derives g n d → d ≡ nothing
  nothing_only n (leaf u) f h = cc
  nothing_only n nothing f h = refl
  nothing_only n (pair d c) f h = let p = h.2 in cc
  nothing_only n (left d) f h = let p = h.2 in cc
  nothing_only n (right d) f h = let p = h.2 in cc
  nothing_only n done f h = let p = h.1 in cc
  nothing_only n (more d c) f h = let p = h.1 in cc
  nothing_only n (present u c) f h = let p = h.2 in cc
  nothing_only n (absent w) f h = let p = h.1 in cc
  nothing_only n (once c) f h = let p = h.2 in cc

  pub reads_nothing : (n : ℕ) (tokens : List Token) → form_at g n ≡ Some Empty → Reads g n tokens nothing tokens
  reads_nothing n tokens f = record {
    derives = f;
    split = refl;
    near = λ k fk o. o;
    only = λ other after y h st nr e w. nothing_only n other f h;
  }

  -- sequences
  pub pair_only : (n a b : ℕ) (tokens m rest : List Token) (d e : Derivation) → form_at g n ≡ Some (Sequence a b) → Reads g a tokens d m → Reads g b m e rest →
      (other : Derivation) (after y : List Token) → Derives g n other → Stops g n after → IsNear other after → text other ++ after ≡ (text d ++ text e) ++ y → front y ≡ front rest → other ≡ pair d e
  pair_only n a b tokens m rest d e f x z (pair d' e') after y h st nr u w =
      let s = ok.sequence n a b f in
      let parts = pair_parts g n a b d' e' f h in
      let u' : text d' ++ (text e' ++ after) ≡ text d ++ (text e ++ y) = sym (append_assoc (text d') (text e') after) ∙ u ∙ append_assoc (text d) (text e) y in
      let p : d' ≡ d = x.only d' (text e' ++ after) (text e ++ y) parts.0 (stops_before g ok n a b s e' after parts.1 st) (near_before d' e' after parts.2 nr) u'
      (agrees (text e ++ y) (text e) y rest m refl w z.split) in
      let v : text d ++ (text e' ++ after) ≡ text d ++ (text e ++ y) = ap (λ c. text c ++ (text e' ++ after)) (sym p) ∙ u' in
      let q : e' ≡ e = z.only e' after y parts.1 (λ k fk o. st k fk (s.on k o)) (λ k fk o. nr k fk (inl o)) (append_cancel_left (text d) (text e' ++ after) (text e ++ y) v) w in
      cc
  pair_only n a b tokens m rest d e f x z (leaf t) after y h st nr u w = cc
  pair_only n a b tokens m rest d e f x z (present t c) after y h st nr u w = let p = h.2 in cc
  pair_only n a b tokens m rest d e f x z (absent k) after y h st nr u w = let p = h.1 in cc
  pair_only n a b tokens m rest d e f x z (once c) after y h st nr u w = let p = h.2 in cc
  pair_only n a b tokens m rest d e f x z nothing after y h st nr u w = cc
  pair_only n a b tokens m rest d e f x z (left c) after y h st nr u w = let p = h.2 in cc
  pair_only n a b tokens m rest d e f x z (right c) after y h st nr u w = let p = h.2 in cc
  pair_only n a b tokens m rest d e f x z done after y h st nr u w = let p = h.1 in cc
  pair_only n a b tokens m rest d e f x z (more c c') after y h st nr u w = let p = h.1 in cc

  pub reads_pair : (n a b : ℕ) (tokens m rest : List Token) (d e : Derivation) → form_at g n ≡ Some (Sequence a b) → Reads g a tokens d m → Reads g b m e rest → Reads g n tokens (pair d e) rest
  reads_pair n a b tokens m rest d e f x z = record {
    derives = (a, b, f, x.derives, z.derives, near_within d (text e) rest m x.near z.split);
    near = near_pair d e m rest x.near z.split z.near;
    split = x.split ∙ ap (λ v. text d ++ v) z.split ∙ sym (append_assoc (text d) (text e) rest);
    only = pair_only n a b tokens m rest d e f x z;
  }

  -- a refusal by the first part
  pub refuses_first : (n a b : ℕ) (tokens before rest : List Token) → form_at g n ≡ Some (Sequence a b) → Refuses g a tokens before rest → Refuses g n tokens before rest
  refuses_first n a b tokens before rest f x = record {
    split = x.split;
    viable = first_viable x.viable;
    none = first_none;
  }
    where
      first_viable : IsViable g a before → IsViable g n before
      first_viable v =
          let sp = v.2 in
          let z = completion g ok n a b f v.1 sp.derives in (
            v.0 ++ text z.0,
            pair v.1 z.0,
            record {
              derives = (a, b, f, sp.derives, z.1, z.2);
              spelled = ap (λ c. c ++ text z.0) sp.spelled ∙ append_assoc before v.0 (text z.0);
            },
          )

      first_none : (other : Derivation) (after y : List Token) → Derives g n other → Stops g n after → IsNear other after → text other ++ after ≡ before ++ y → front y ≡ front rest → ⊥
      first_none (pair d e) after y h st nr u w =
          let parts = pair_parts g n a b d e f h in
          x.none d (text e ++ after) y parts.0 (stops_before g ok n a b (ok.sequence n a b f) e after parts.1 st) (near_before d e after parts.2 nr) (sym (append_assoc (text d) (text e) after) ∙ u) w
      first_none (leaf t) after y h st nr u w = cc
      first_none (present t c) after y h st nr u w = let p = h.2 in cc
      first_none (absent k) after y h st nr u w = let p = h.1 in cc
      first_none (once c) after y h st nr u w = let p = h.2 in cc
      first_none nothing after y h st nr u w = cc
      first_none (left c) after y h st nr u w = let p = h.2 in cc
      first_none (right c) after y h st nr u w = let p = h.2 in cc
      first_none done after y h st nr u w = let p = h.1 in cc
      first_none (more c c') after y h st nr u w = let p = h.1 in cc

  -- a refusal by the second part
  pub refuses_second : (n a b : ℕ) (tokens m before rest : List Token) (d : Derivation) → form_at g n ≡ Some (Sequence a b) → Reads g a tokens d m → Refuses g b m before rest → Refuses g n tokens (text d ++ before) rest
  refuses_second n a b tokens m before rest d f x z = record {
    split = x.split ∙ ap (λ v. text d ++ v) z.split ∙ sym (append_assoc (text d) before rest);
    viable = second_at before z.viable z.split;
    none = second_none;
  }
    where
      second_at : (xs : List Token) → IsViable g b xs → m ≡ xs ++ rest → IsViable g n (text d ++ xs)
      second_at [] v q =
          let c = completion g ok n a b f d x.derives in
          (text c.0, pair d c.0, record { derives = (a, b, f, x.derives, c.1, c.2); spelled = sym (append_assoc (text d) [] (text c.0)) })
      second_at (t ∷ xs) v q =
          let sp = v.2 in
          let e = v.1 in
          let nr : IsNear d (text e) = λ k fk o. x.near k (ap front q ∙ ap front (sym sp.spelled) ∙ fk) o in (
            v.0,
            pair d e,
            record {
              derives = (a, b, f, x.derives, sp.derives, nr);
              spelled = ap (λ c. text d ++ c) sp.spelled ∙ sym (append_assoc (text d) (t ∷ xs) v.0);
            },
          )

      second_none : (other : Derivation) (after y : List Token) → Derives g n other → Stops g n after → IsNear other after → text other ++ after ≡ (text d ++ before) ++ y → front y ≡ front rest → ⊥
      second_none (pair d' e') after y h st nr u w =
          let s = ok.sequence n a b f in
          let parts = pair_parts g n a b d' e' f h in
          let u' : text d' ++ (text e' ++ after) ≡ text d ++ (before ++ y) = sym (append_assoc (text d') (text e') after) ∙ u ∙ append_assoc (text d) before y in
          let p : d' ≡ d = x.only d' (text e' ++ after) (before ++ y) parts.0 (stops_before g ok n a b s e' after parts.1 st) (near_before d' e' after parts.2 nr) u'
          (agrees (before ++ y) before y rest m refl w z.split) in
          let v : text d ++ (text e' ++ after) ≡ text d ++ (before ++ y) = ap (λ c. text c ++ (text e' ++ after)) (sym p) ∙ u' in
          z.none e' after y parts.1 (λ k fk o. st k fk (s.on k o)) (λ k fk o. nr k fk (inl o)) (append_cancel_left (text d) (text e' ++ after) (before ++ y) v) w
      second_none (leaf t) after y h st nr u w = cc
      second_none (present t c) after y h st nr u w = let p = h.2 in cc
      second_none (absent k) after y h st nr u w = let p = h.1 in cc
      second_none (once c) after y h st nr u w = let p = h.2 in cc
      second_none nothing after y h st nr u w = cc
      second_none (left c) after y h st nr u w = let p = h.2 in cc
      second_none (right c) after y h st nr u w = let p = h.2 in cc
      second_none done after y h st nr u w = let p = h.1 in cc
      second_none (more c c') after y h st nr u w = let p = h.1 in cc

  -- choices
  pub reads_left : (n a b : ℕ) (tokens rest : List Token) (d : Derivation) → form_at g n ≡ Some (Choice a b) → goes_left g a b tokens ≡ true → Reads g a tokens d rest → Reads g n tokens (left d) rest
  reads_left n a b tokens rest d f l x = record {
    derives = (a, b, f, x.derives);
    split = x.split;
    near = x.near;
    only = left_only;
  }
    where
      left_only : (other : Derivation) (after y : List Token) → Derives g n other → Stops g n after → IsNear other after → text other ++ after ≡ text d ++ y → front y ≡ front rest → other ≡ left d
      left_only (left c) after y h st nr u w =
          let q : c ≡ d = x.only c after y (left_part g n a b c f h) (λ k fk o. st k fk ((ok.choice n a b f).on_a k o)) nr u w in cc
      left_only (right c) after y h st nr u w =
          absurd (not_right g ok n a b (ok.choice n a b f) tokens after c l (right_part g n a b c f h) st (agrees (text c ++ after) (text d) y rest tokens u w x.split))
      left_only (leaf t) after y h st nr u w = cc
      left_only (present t c) after y h st nr u w = let p = h.2 in cc
      left_only (absent k) after y h st nr u w = let p = h.1 in cc
      left_only (once c) after y h st nr u w = let p = h.2 in cc
      left_only nothing after y h st nr u w = cc
      left_only (pair c c') after y h st nr u w = let p = h.2 in cc
      left_only done after y h st nr u w = let p = h.1 in cc
      left_only (more c c') after y h st nr u w = let p = h.1 in cc

  pub reads_right : (n a b : ℕ) (tokens rest : List Token) (d : Derivation) → form_at g n ≡ Some (Choice a b) → goes_left g a b tokens ≡ false → Reads g b tokens d rest → Reads g n tokens (right d) rest
  reads_right n a b tokens rest d f l x = record {
    derives = (a, b, f, x.derives);
    split = x.split;
    near = x.near;
    only = right_only;
  }
    where
      right_only : (other : Derivation) (after y : List Token) → Derives g n other → Stops g n after → IsNear other after → text other ++ after ≡ text d ++ y → front y ≡ front rest → other ≡ right d
      right_only (right c) after y h st nr u w =
          let q : c ≡ d = x.only c after y (right_part g n a b c f h) (λ k fk o. st k fk ((ok.choice n a b f).on_b k o)) nr u w in cc
      right_only (left c) after y h st nr u w =
          absurd (not_left g ok n a b (ok.choice n a b f) tokens after c l (left_part g n a b c f h) st (agrees (text c ++ after) (text d) y rest tokens u w x.split))
      right_only (leaf t) after y h st nr u w = cc
      right_only (present t c) after y h st nr u w = let p = h.2 in cc
      right_only (absent k) after y h st nr u w = let p = h.1 in cc
      right_only (once c) after y h st nr u w = let p = h.2 in cc
      right_only nothing after y h st nr u w = cc
      right_only (pair c c') after y h st nr u w = let p = h.2 in cc
      right_only done after y h st nr u w = let p = h.1 in cc
      right_only (more c c') after y h st nr u w = let p = h.1 in cc

  pub refuses_left : (n a b : ℕ) (tokens before rest : List Token) → form_at g n ≡ Some (Choice a b) → goes_left g a b tokens ≡ true → Refuses g a tokens before rest → Refuses g n tokens before rest
  refuses_left n a b tokens before rest f l x = record {
    split = x.split;
    viable = (let v = x.viable in let sp = v.2 in (v.0, left v.1, record { derives = (a, b, f, sp.derives); spelled = sp.spelled }));
    none = left_none;
  }
    where
      left_none : (other : Derivation) (after y : List Token) → Derives g n other → Stops g n after → IsNear other after → text other ++ after ≡ before ++ y → front y ≡ front rest → ⊥
      left_none (left c) after y h st nr u w =
          x.none c after y (left_part g n a b c f h) (λ k fk o. st k fk ((ok.choice n a b f).on_a k o)) nr u w
      left_none (right c) after y h st nr u w =
          not_right g ok n a b (ok.choice n a b f) tokens after c l (right_part g n a b c f h) st (agrees (text c ++ after) before y rest tokens u w x.split)
      left_none (leaf t) after y h st nr u w = cc
      left_none (present t c) after y h st nr u w = let p = h.2 in cc
      left_none (absent k) after y h st nr u w = let p = h.1 in cc
      left_none (once c) after y h st nr u w = let p = h.2 in cc
      left_none nothing after y h st nr u w = cc
      left_none (pair c c') after y h st nr u w = let p = h.2 in cc
      left_none done after y h st nr u w = let p = h.1 in cc
      left_none (more c c') after y h st nr u w = let p = h.1 in cc

  pub refuses_right : (n a b : ℕ) (tokens before rest : List Token) → form_at g n ≡ Some (Choice a b) → goes_left g a b tokens ≡ false → Refuses g b tokens before rest → Refuses g n tokens before rest
  refuses_right n a b tokens before rest f l x = record {
    split = x.split;
    viable = (let v = x.viable in let sp = v.2 in (v.0, right v.1, record { derives = (a, b, f, sp.derives); spelled = sp.spelled }));
    none = right_none;
  }
    where
      right_none : (other : Derivation) (after y : List Token) → Derives g n other → Stops g n after → IsNear other after → text other ++ after ≡ before ++ y → front y ≡ front rest → ⊥
      right_none (right c) after y h st nr u w =
          x.none c after y (right_part g n a b c f h) (λ k fk o. st k fk ((ok.choice n a b f).on_b k o)) nr u w
      right_none (left c) after y h st nr u w =
          not_left g ok n a b (ok.choice n a b f) tokens after c l (left_part g n a b c f h) st (agrees (text c ++ after) before y rest tokens u w x.split)
      right_none (leaf t) after y h st nr u w = cc
      right_none (present t c) after y h st nr u w = let p = h.2 in cc
      right_none (absent k) after y h st nr u w = let p = h.1 in cc
      right_none (once c) after y h st nr u w = let p = h.2 in cc
      right_none nothing after y h st nr u w = cc
      right_none (pair c c') after y h st nr u w = let p = h.2 in cc
      right_none done after y h st nr u w = let p = h.1 in cc
      right_none (more c c') after y h st nr u w = let p = h.1 in cc

  -- repeats
  pub reads_done : (n a : ℕ) (tokens : List Token) → form_at g n ≡ Some (Repeat a) → starts_at g a tokens ≡ false → Reads g n tokens done tokens
  reads_done n a tokens f l = record {
    derives = (a, f);
    split = refl;
    near = λ k fk o. o;
    only = done_only;
  }
    where
      done_only : (other : Derivation) (after y : List Token) → Derives g n other → Stops g n after → IsNear other after → text other ++ after ≡ y → front y ≡ front tokens → other ≡ done
      done_only done after y h st nr u w = refl
      done_only (more c c') after y h st nr u w =
          let parts = more_parts g n a c c' f h in
          elim (begins_or_empty g ok c a parts.0 (text c' ++ after) tokens (ap front (sym (append_assoc (text c) (text c') after)) ∙ ap front u ∙ w)) [
            | inl p ↦ cc
            | inr p ↦ absurd ((ok.«repeat» n a f).not_null p.0)
          ]
      done_only (leaf t) after y h st nr u w = cc
      done_only (present t c) after y h st nr u w = let p = h.2 in cc
      done_only (absent k) after y h st nr u w = let p = h.1 in cc
      done_only (once c) after y h st nr u w = let p = h.2 in cc
      done_only nothing after y h st nr u w = cc
      done_only (pair c c') after y h st nr u w = let p = h.2 in cc
      done_only (left c) after y h st nr u w = let p = h.2 in cc
      done_only (right c) after y h st nr u w = let p = h.2 in cc

  pub not_done : (n a : ℕ) (tokens after : List Token) → form_at g n ≡ Some (Repeat a) → starts_at g a tokens ≡ true → Stops g n after → front after ≡ front tokens → ⊥
  not_done n a tokens after f l st e = let u = begun g a tokens l in st u.0 (e ∙ u.1) ((ok.«repeat» n a f).on_again u.0 u.2)

  pub reads_more : (n a : ℕ) (tokens m rest : List Token) (d e : Derivation) → form_at g n ≡ Some (Repeat a) → starts_at g a tokens ≡ true → Reads g a tokens d m → Reads g n m e rest → Reads g n tokens (more d e) rest
  reads_more n a tokens m rest d e f l x z = record {
    derives = (a, f, x.derives, z.derives, near_within d (text e) rest m x.near z.split);
    near = near_pair d e m rest x.near z.split z.near;
    split = split;
    only = more_only;
  }
    where
      split : tokens ≡ (text d ++ text e) ++ rest
      split = x.split ∙ ap (λ v. text d ++ v) z.split ∙ sym (append_assoc (text d) (text e) rest)

      more_only : (other : Derivation) (after y : List Token) → Derives g n other → Stops g n after → IsNear other after → text other ++ after ≡ (text d ++ text e) ++ y → front y ≡ front rest → other ≡ more d e
      more_only (more d' e') after y h st nr u w =
          let s = ok.«repeat» n a f in
          let parts = more_parts g n a d' e' f h in
          let u' : text d' ++ (text e' ++ after) ≡ text d ++ (text e ++ y) = sym (append_assoc (text d') (text e') after) ∙ u ∙ append_assoc (text d) (text e) y in
          let p : d' ≡ d = x.only d' (text e' ++ after) (text e ++ y) parts.0 (stops_again g ok n a s e' after parts.1 st) (near_before d' e' after parts.2 nr) u'
          (agrees (text e ++ y) (text e) y rest m refl w z.split) in
          let v : text d ++ (text e' ++ after) ≡ text d ++ (text e ++ y) = ap (λ c. text c ++ (text e' ++ after)) (sym p) ∙ u' in
          let q : e' ≡ e = z.only e' after y parts.1 st (λ k fk o. nr k fk (inl o)) (append_cancel_left (text d) (text e' ++ after) (text e ++ y) v) w in
          cc
      more_only done after y h st nr u w = absurd (not_done n a tokens after f l st (agrees after (text d ++ text e) y rest tokens u w split))
      more_only (leaf t) after y h st nr u w = cc
      more_only (present t c) after y h st nr u w = let p = h.2 in cc
      more_only (absent k) after y h st nr u w = let p = h.1 in cc
      more_only (once c) after y h st nr u w = let p = h.2 in cc
      more_only nothing after y h st nr u w = cc
      more_only (pair c c') after y h st nr u w = let p = h.2 in cc
      more_only (left c) after y h st nr u w = let p = h.2 in cc
      more_only (right c) after y h st nr u w = let p = h.2 in cc

  pub refuses_one : (n a : ℕ) (tokens before rest : List Token) → form_at g n ≡ Some (Repeat a) → starts_at g a tokens ≡ true → Refuses g a tokens before rest → Refuses g n tokens before rest
  refuses_one n a tokens before rest f l x = record {
    split = x.split;
    viable = (let v = x.viable in let sp = v.2 in (v.0, more v.1 done, record { derives = (a, f, sp.derives, (a, f), λ k fk o. cc); spelled = append-nil (text v.1) ∙ sp.spelled }));
    none = one_none;
  }
    where
      one_none : (other : Derivation) (after y : List Token) → Derives g n other → Stops g n after → IsNear other after → text other ++ after ≡ before ++ y → front y ≡ front rest → ⊥
      one_none (more d e) after y h st nr u w =
          let parts = more_parts g n a d e f h in
          x.none d (text e ++ after) y parts.0 (stops_again g ok n a (ok.«repeat» n a f) e after parts.1 st) (near_before d e after parts.2 nr) (sym (append_assoc (text d) (text e) after) ∙ u) w
      one_none done after y h st nr u w = not_done n a tokens after f l st (agrees after before y rest tokens u w x.split)
      one_none (leaf t) after y h st nr u w = cc
      one_none (present t c) after y h st nr u w = let p = h.2 in cc
      one_none (absent k) after y h st nr u w = let p = h.1 in cc
      one_none (once c) after y h st nr u w = let p = h.2 in cc
      one_none nothing after y h st nr u w = cc
      one_none (pair c c') after y h st nr u w = let p = h.2 in cc
      one_none (left c) after y h st nr u w = let p = h.2 in cc
      one_none (right c) after y h st nr u w = let p = h.2 in cc

  pub refuses_again : (n a : ℕ) (tokens m before rest : List Token) (d : Derivation) → form_at g n ≡ Some (Repeat a) → starts_at g a tokens ≡ true → Reads g a tokens d m → Refuses g n m before rest → Refuses g n tokens (text d ++ before) rest
  refuses_again n a tokens m before rest d f l x z = record {
    split = split;
    viable = again_at before z.viable z.split;
    none = again_none;
  }
    where
      split : tokens ≡ (text d ++ before) ++ rest
      split = x.split ∙ ap (λ v. text d ++ v) z.split ∙ sym (append_assoc (text d) before rest)

      again_at : (xs : List Token) → IsViable g n xs → m ≡ xs ++ rest → IsViable g n (text d ++ xs)
      again_at [] v q = ([], more d done, record { derives = (a, f, x.derives, (a, f), λ k fk o. cc); spelled = sym (append-nil (text d ++ [])) })
      again_at (t ∷ xs) v q =
          let sp = v.2 in
          let e = v.1 in
          let nr : IsNear d (text e) = λ k fk o. x.near k (ap front q ∙ ap front (sym sp.spelled) ∙ fk) o in (
            v.0,
            more d e,
            record {
              derives = (a, f, x.derives, sp.derives, nr);
              spelled = ap (λ c. text d ++ c) sp.spelled ∙ sym (append_assoc (text d) (t ∷ xs) v.0);
            },
          )

      again_none : (other : Derivation) (after y : List Token) → Derives g n other → Stops g n after → IsNear other after → text other ++ after ≡ (text d ++ before) ++ y → front y ≡ front rest → ⊥
      again_none (more d' e') after y h st nr u w =
          let parts = more_parts g n a d' e' f h in
          let u' : text d' ++ (text e' ++ after) ≡ text d ++ (before ++ y) = sym (append_assoc (text d') (text e') after) ∙ u ∙ append_assoc (text d) before y in
          let p : d' ≡ d = x.only d' (text e' ++ after) (before ++ y) parts.0 (stops_again g ok n a (ok.«repeat» n a f) e' after parts.1 st) (near_before d' e' after parts.2 nr) u'
          (agrees (before ++ y) before y rest m refl w z.split) in
          let v : text d ++ (text e' ++ after) ≡ text d ++ (before ++ y) = ap (λ c. text c ++ (text e' ++ after)) (sym p) ∙ u' in
          z.none e' after y parts.1 st (λ k fk o. nr k fk (inl o)) (append_cancel_left (text d) (text e' ++ after) (before ++ y) v) w
      again_none done after y h st nr u w = not_done n a tokens after f l st (agrees after (text d ++ before) y rest tokens u w split)
      again_none (leaf t) after y h st nr u w = cc
      again_none (present t c) after y h st nr u w = let p = h.2 in cc
      again_none (absent k) after y h st nr u w = let p = h.1 in cc
      again_none (once c) after y h st nr u w = let p = h.2 in cc
      again_none nothing after y h st nr u w = cc
      again_none (pair c c') after y h st nr u w = let p = h.2 in cc
      again_none (left c) after y h st nr u w = let p = h.2 in cc
      again_none (right c) after y h st nr u w = let p = h.2 in cc

  -- clauses
  pub reads_present : (n w a : ℕ) (t : Token) (m rest : List Token) (d : Derivation) → form_at g n ≡ Some (Clause w a) → has w t.kind ≡ true → Reads g a m d rest → Reads g n (t ∷ m) (present t d) rest
  reads_present n w a t m rest d f e x = record {
    derives = (w, a, f, e, x.derives);
    split = ap (λ v. t ∷ v) x.split;
    near = x.near;
    only = present_only;
  }
    where
      present_only : (other : Derivation) (after y : List Token) → Derives g n other → Stops g n after → IsNear other after → text other ++ after ≡ t ∷ (text d ++ y) → front y ≡ front rest → other ≡ present t d
      present_only (present u c) after y h st nr r v =
          let same : u ≡ t = cc in
          let tail : text c ++ after ≡ text d ++ y = cc in
          let q : c ≡ d = x.only c after y (clause_part g n w a u c f h) (λ k fk o. st k fk ((ok.clause n w a f).on k o)) nr tail v in
          cc
      present_only (absent k) after y h st nr r v =
          let p = h.1 in
          let q : k ≡ w = cc in
          absurd (nr t.kind (ap front r) (subst (λ z. has z t.kind ≡ true) (sym q) e))
      present_only (once c) after y h st nr r v = let p = h.2 in cc
      present_only (leaf u) after y h st nr r v = cc
      present_only nothing after y h st nr r v = cc
      present_only (pair c c') after y h st nr r v = let p = h.2 in cc
      present_only (left c) after y h st nr r v = let p = h.2 in cc
      present_only (right c) after y h st nr r v = let p = h.2 in cc
      present_only done after y h st nr r v = let p = h.1 in cc
      present_only (more c c') after y h st nr r v = let p = h.1 in cc

  pub refuses_present : (n w a : ℕ) (t : Token) (m before rest : List Token) → form_at g n ≡ Some (Clause w a) → has w t.kind ≡ true → Refuses g a m before rest → Refuses g n (t ∷ m) (t ∷ before) rest
  refuses_present n w a t m before rest f e x = record {
    split = ap (λ v. t ∷ v) x.split;
    viable = (let v = x.viable in let sp = v.2 in (v.0, present t v.1, record { derives = (w, a, f, e, sp.derives); spelled = ap (λ z. t ∷ z) sp.spelled }));
    none = present_none;
  }
    where
      present_none : (other : Derivation) (after y : List Token) → Derives g n other → Stops g n after → IsNear other after → text other ++ after ≡ t ∷ (before ++ y) → front y ≡ front rest → ⊥
      present_none (present u c) after y h st nr r v =
          let tail : text c ++ after ≡ before ++ y = cc in
          x.none c after y (clause_part g n w a u c f h) (λ k fk o. st k fk ((ok.clause n w a f).on k o)) nr tail v
      present_none (absent k) after y h st nr r v =
          let p = h.1 in
          let q : k ≡ w = cc in
          nr t.kind (ap front r) (subst (λ z. has z t.kind ≡ true) (sym q) e)
      present_none (once c) after y h st nr r v = let p = h.2 in cc
      present_none (leaf u) after y h st nr r v = cc
      present_none nothing after y h st nr r v = cc
      present_none (pair c c') after y h st nr r v = let p = h.2 in cc
      present_none (left c) after y h st nr r v = let p = h.2 in cc
      present_none (right c) after y h st nr r v = let p = h.2 in cc
      present_none done after y h st nr r v = let p = h.1 in cc
      present_none (more c c') after y h st nr r v = let p = h.1 in cc

  pub reads_absent : (n w a : ℕ) (tokens : List Token) → form_at g n ≡ Some (Clause w a) → ((k : ℕ) → front tokens ≡ Some k → has w k ≡ true → ⊥) → Reads g n tokens (absent w) tokens
  reads_absent n w a tokens f other_next = record {
    derives = (a, f);
    split = refl;
    near = other_next;
    only = absent_only;
  }
    where
      absent_only : (other : Derivation) (after y : List Token) → Derives g n other → Stops g n after → IsNear other after → text other ++ after ≡ y → front y ≡ front tokens → other ≡ absent w
      absent_only (absent k) after y h st nr r v = let p = h.1 in cc
      absent_only (present u c) after y h st nr r v =
          let p = h.2 in
          let q : h.0 ≡ w = cc in
          absurd (other_next u.kind (sym v ∙ ap front (sym r)) (subst (λ z. has z u.kind ≡ true) q h.3))
      absent_only (once c) after y h st nr r v = let p = h.2 in cc
      absent_only (leaf u) after y h st nr r v = cc
      absent_only nothing after y h st nr r v = cc
      absent_only (pair c c') after y h st nr r v = let p = h.2 in cc
      absent_only (left c) after y h st nr r v = let p = h.2 in cc
      absent_only (right c) after y h st nr r v = let p = h.2 in cc
      absent_only done after y h st nr r v = let p = h.1 in cc
      absent_only (more c c') after y h st nr r v = let p = h.1 in cc
