-- One token of look-ahead decides, in a grammar that passes the test.
use Rattle.std.proofs.Common.{◌≡◌, ℕ, suc, ◌+◌, ◌<◌, ◌≤◌, true, false, List, [], ◌∷◌, ◌++◌, length, Some, None, refl, sym, ap, ◌∙◌, subst, inl, inr, ◌⊎◌, append_assoc, arith, take, ◌-◌}
use Rattle.std.proofs.lemmas.List.{append-nil, length-append}
use Rattle.std.proofs.lemmas.Bool.{cases_Bool}
use Rattle.pe_grammar.specs.declared.terminal.Token.{Token}
use Rattle.pe_grammar.specs.declared.form.Entry.{Entry}
use Rattle.pe_grammar.specs.declared.form.Form.TheVariants.{Terminal, Sequence, Choice, Repeat, Clause}
use Rattle.pe_grammar.specs.Derivation.{Derivation, leaf, nothing, pair, left, right, done, more, present, absent, once, has, text, front, IsNear}
use Rattle.pe_grammar.specs.Grammar.{Derives, Spells, IsViable, form_at, IsFault}
use Rattle.pe_grammar.specs.Table.{IsDeterministic, IsChoice, nullable, starts}
use Rattle.pe_grammar.specs.Reading.{Stops, Reads, Refuses, IsRefused, IsStop, starts_at, goes_left}
use Rattle.pe_grammar.specs.declared.failure.Stop.{Stop}
use Rattle.pe_grammar.specs.declared.failure.Stop.TheVariants.{Memory, Left}
use Rattle.pe_grammar.proofs.Texts.{take_front, take_next, nil_of, left_by, right_by, begun, near_before}
use Rattle.pe_grammar.proofs.Starts.{empty_null, stops_before, stops_again, begins_or_empty}
use Rattle.pe_grammar.proofs.Arms.{reads_leaf, refuses_leaf, reads_nothing, reads_pair, refuses_first, refuses_second, reads_left, reads_right, refuses_left, refuses_right, reads_done, not_done, reads_more, refuses_one, refuses_again, reads_present, refuses_present, reads_absent}
use Rattle.pe_grammar.proofs.OptionLists.{reads_once}

module _ (g : List Entry) (ok : IsDeterministic g) where
  -- what is derived is read, where the rest cannot go on
  pub is_left : (n a b : ℕ) (s : IsChoice g n a b) (d : Derivation) (rest : List Token) → Derives g a d → Stops g n rest → goes_left g a b (text d ++ rest) ≡ true
  is_left n a b s d rest h st =
      left_by (starts_at g a (text d ++ rest)) (nullable g a) (starts_at g b (text d ++ rest))
      (elim (begins_or_empty g ok d a h rest (text d ++ rest) refl) [
        | inl p ↦ inl p
        | inr p ↦ inr (
          p.0,
          elim (cases_Bool (starts_at g b (text d ++ rest))) [
            | inl q ↦ let u = begun g b (text d ++ rest) q in absurd (st u.0 (p.1 ∙ u.1) (s.on_not_a p.0 u.0 u.2))
            | inr q ↦ q
          ],
        )
      ])

  pub is_right : (n a b : ℕ) (s : IsChoice g n a b) (d : Derivation) (rest : List Token) → Derives g b d → Stops g n rest → goes_left g a b (text d ++ rest) ≡ false
  is_right n a b s d rest h st =
      let t = text d ++ rest in
      let r : (starts_at g b t ≡ true) ⊎ ((nullable g b ≡ true) × (front rest ≡ front t)) = begins_or_empty g ok d b h rest t refl in
      right_by (starts_at g a t) (nullable g a) (starts_at g b t)
      (elim (cases_Bool (starts_at g a t)) [
        | inl q ↦
            let u = begun g a t q in
            elim r [
              | inl p ↦ let v = begun g b t p in let w : v.0 ≡ u.0 = cc in absurd (s.apart u.0 u.2 (subst (λ k. starts g b k ≡ true) w v.2))
              | inr p ↦ absurd (st u.0 (p.1 ∙ u.1) (s.on_not_b p.0 u.0 u.2))
            ]
        | inr q ↦ q
      ])
      (elim r [
        | inl p ↦ inr p
        | inr p ↦ elim (cases_Bool (nullable g a)) [
          | inl q ↦ absurd (s.one_null q p.0)
          | inr q ↦ inl q
        ]
      ])

  pub complete : (d : Derivation) (n : ℕ) → Derives g n d → (rest : List Token) → Stops g n rest → IsNear d rest → Reads g n (text d ++ rest) d rest
  complete (leaf t) n h rest st nr = reads_leaf g ok n t rest h
  complete nothing n h rest st nr = reads_nothing g ok n rest h
  complete (pair d e) n h rest st nr =
      let s = ok.sequence n h.0 h.1 h.2 in
      subst (λ v. Reads g n v (pair d e) rest) (sym (append_assoc (text d) (text e) rest))
      (reads_pair g ok n h.0 h.1 (text d ++ (text e ++ rest)) (text e ++ rest) rest d e h.2
      (complete d h.0 h.3 (text e ++ rest) (stops_before g ok n h.0 h.1 s e rest h.4 st) (near_before d e rest h.5 nr))
      (complete e h.1 h.4 rest (λ k f o. st k f (s.on k o)) (λ k f o. nr k f (inl o))))
  complete (left d) n h rest st nr =
      let s = ok.choice n h.0 h.1 h.2 in
      reads_left g ok n h.0 h.1 (text d ++ rest) rest d h.2 (is_left n h.0 h.1 s d rest h.3 st) (complete d h.0 h.3 rest (λ k f o. st k f (s.on_a k o)) nr)
  complete (right d) n h rest st nr =
      let s = ok.choice n h.0 h.1 h.2 in
      reads_right g ok n h.0 h.1 (text d ++ rest) rest d h.2 (is_right n h.0 h.1 s d rest h.3 st) (complete d h.1 h.3 rest (λ k f o. st k f (s.on_b k o)) nr)
  complete done n h rest st nr =
      reads_done g ok n h.0 rest h.1
      (elim (cases_Bool (starts_at g h.0 rest)) [
        | inl q ↦ absurd (not_done g ok n h.0 rest rest h.1 q st refl)
        | inr q ↦ q
      ])
  complete (more d e) n h rest st nr =
      let s = ok.«repeat» n h.0 h.1 in
      let t = text d ++ (text e ++ rest) in
      subst (λ v. Reads g n v (more d e) rest) (sym (append_assoc (text d) (text e) rest))
      (reads_more g ok n h.0 t (text e ++ rest) rest d e h.1
      (elim (begins_or_empty g ok d h.0 h.2 (text e ++ rest) t refl) [
        | inl p ↦ p
        | inr p ↦ absurd (s.not_null p.0)
      ])
      (complete d h.0 h.2 (text e ++ rest) (stops_again g ok n h.0 s e rest h.3 st) (near_before d e rest h.4 nr))
      (complete e n h.3 rest st (λ k f o. nr k f (inl o))))
  complete (present t d) n h rest st nr =
      reads_present g ok n h.0 h.1 t (text d ++ rest) rest d h.2 h.3 (complete d h.1 h.4 rest (λ k f o. st k f ((ok.clause n h.0 h.1 h.2).on k o)) nr)
  complete (absent w) n h rest st nr = reads_absent g ok n w h.0 rest h.1 nr
  complete (once d) n h rest st nr =
      let x = complete d h.0 h.3 rest (λ k f o. st k f ((ok.once_more n h.0 h.1 h.2).on k o)) nr in
      reads_once g ok n h.0 h.1 (text d ++ rest) rest d h.2 record {
        derives = x.derives;
        fresh = h.4;
        split = x.split;
        near = x.near;
        only = λ other after y i fr sa na u w. x.only other after y i sa na u w;
      } h.5

  pub unique : (n : ℕ) (tokens : List Token) (d e : Derivation) → Spells g n tokens d → Spells g n tokens e → d ≡ e
  unique n tokens d e p q =
      let ended : Stops g n [] = λ k f o. cc in
      let r = complete e n q.derives [] ended (λ k f o. cc) in
      r.only d [] [] p.derives ended (λ k f o. cc) (ap (λ v. v ++ []) (p.spelled ∙ sym q.spelled)) refl

  -- what is read leaves less, or as much and is empty
  pub shorter : (n : ℕ) (tokens rest : List Token) (d : Derivation) → Reads g n tokens d rest → (length rest < length tokens) ⊎ ((rest ≡ tokens) × (nullable g n ≡ true))
  shorter n tokens rest d x = shorter_at (text d) tokens (λ e. empty_null g ok d n x.derives e) x.split
    where
      shorter_at : (xs ts : List Token) → (xs ≡ [] → nullable g n ≡ true) → ts ≡ xs ++ rest → (length rest < length ts) ⊎ ((rest ≡ ts) × (nullable g n ≡ true))
      shorter_at [] ts z e = inr (sym e, z refl)
      shorter_at (t ∷ xs) ts z e = inl (let q : length ts ≡ suc (length (xs ++ rest)) = ap length e in omega (arith, q, length-append xs rest))

  -- the same, of what an Err says
  pub stop_first : (n a b : ℕ) (tokens : List Token) → form_at g n ≡ Some (Sequence a b) → (e : Stop) → IsStop g a tokens e → IsStop g n tokens e
  stop_first n a b tokens f Memory h = tt
  stop_first n a b tokens f (Left k) h = (h.0, h.1, h.2, refuses_first g ok n a b tokens h.0 h.1 f h.3)

  pub stop_second : (n a b : ℕ) (tokens m : List Token) (d : Derivation) → form_at g n ≡ Some (Sequence a b) → Reads g a tokens d m → (e : Stop) → IsStop g b m e → IsStop g n tokens e
  stop_second n a b tokens m d f x Memory h = tt
  stop_second n a b tokens m d f x (Left k) h = (text d ++ h.0, h.1, h.2, refuses_second g ok n a b tokens m h.0 h.1 d f x h.3)

  pub stop_left : (n a b : ℕ) (tokens : List Token) → form_at g n ≡ Some (Choice a b) → goes_left g a b tokens ≡ true → (e : Stop) → IsStop g a tokens e → IsStop g n tokens e
  stop_left n a b tokens f l Memory h = tt
  stop_left n a b tokens f l (Left k) h = (h.0, h.1, h.2, refuses_left g ok n a b tokens h.0 h.1 f l h.3)

  pub stop_right : (n a b : ℕ) (tokens : List Token) → form_at g n ≡ Some (Choice a b) → goes_left g a b tokens ≡ false → (e : Stop) → IsStop g b tokens e → IsStop g n tokens e
  stop_right n a b tokens f l Memory h = tt
  stop_right n a b tokens f l (Left k) h = (h.0, h.1, h.2, refuses_right g ok n a b tokens h.0 h.1 f l h.3)

  pub refused_one : (n a : ℕ) (tokens : List Token) (k : ℕ) → form_at g n ≡ Some (Repeat a) → starts_at g a tokens ≡ true → IsRefused g a tokens k → IsRefused g n tokens k
  refused_one n a tokens k f l h = (h.0, h.1, h.2, refuses_one g ok n a tokens h.0 h.1 f l h.3)

  pub refused_again : (n a : ℕ) (tokens m : List Token) (d : Derivation) (k : ℕ) → form_at g n ≡ Some (Repeat a) → starts_at g a tokens ≡ true → Reads g a tokens d m → IsRefused g n m k → IsRefused g n tokens k
  refused_again n a tokens m d k f l x h = (text d ++ h.0, h.1, h.2, refuses_again g ok n a tokens m h.0 h.1 d f l x h.3)

  pub ended : (n : ℕ) → Stops g n []
  ended n = λ k f o. cc

  -- from the last token that some text agrees with, where a fault stands
  pub fault_at : (n : ℕ) (tokens before rest : List Token) → tokens ≡ before ++ rest → IsViable g n before →
      ((e : Derivation) (y : List Token) → Derives g n e → text e ≡ before ++ y → front y ≡ front rest → ⊥) → IsFault g n tokens (length tokens - length rest)
  fault_at n tokens before rest split v none =
      let counted : length tokens ≡ length before + length rest = ap length split ∙ length-append before rest in
      let at : length tokens - length rest ≡ length before = omega arith in
      record {
        within = omega arith;
        viable = subst (λ w. IsViable g n w) (sym (ap (λ k. take k tokens) at ∙ ap (λ ts. take (length before) ts) split ∙ take_front before rest)) v;
        not_further = λ lt f. further rest split none (subst (λ k. k < length tokens) at lt) (subst (λ k. IsViable g n (take (k + 1) tokens)) at f);
        no_text = λ e sp. none e rest sp.derives (sp.spelled ∙ split) refl;
      }
    where
      further : (rest : List Token) → tokens ≡ before ++ rest → ((e : Derivation) (y : List Token) → Derives g n e → text e ≡ before ++ y → front y ≡ front rest → ⊥) →
          length before < length tokens → IsViable g n (take (length before + 1) tokens) → ⊥
      further [] split none lt f = absurd (let q : length tokens ≡ length before = ap length (split ∙ append-nil before) in omega arith)
      further (t ∷ rest) split none lt f =
          let sp = f.2 in
          let q : take (length before + 1) tokens ≡ before ++ (t ∷ []) = ap (λ ts. take (length before + 1) ts) split ∙ take_next before t rest in
          none f.1 (t ∷ f.0) sp.derives (sp.spelled ∙ ap (λ w. w ++ f.0) q ∙ append_assoc before (t ∷ []) f.0) refl

  -- what is read, and more tokens
  pub longer_fault : (n : ℕ) (tokens rest : List Token) (d : Derivation) → Reads g n tokens d rest → 1 ≤ length rest → IsFault g n tokens (length tokens - length rest)
  longer_fault n tokens rest d x l =
      fault_at n tokens (text d) rest x.split ([], d, record { derives = x.derives; spelled = sym (append-nil (text d)) })
      (λ e y h s f. longer_none e y rest s f l (x.only e [] y h (ended n) (λ k fk o. cc) (append-nil (text e) ∙ s) f))
    where
      longer_none : (e : Derivation) (y rest : List Token) → text e ≡ text d ++ y → front y ≡ front rest → 1 ≤ length rest → e ≡ d → ⊥
      longer_none e y [] s f l q = absurd (omega arith)
      longer_none e y (t ∷ rest) s f l q =
          let r : y ≡ [] = nil_of (text d) y (ap text (sym q) ∙ s) in
          let z : None ≡ Some t.kind = ap front (sym r) ∙ f in
          cc

  pub refused_fault : (n : ℕ) (tokens : List Token) (remaining : ℕ) → IsRefused g n tokens remaining → IsFault g n tokens (length tokens - remaining)
  refused_fault n tokens remaining h =
      let x = h.3 in
      subst (λ k. IsFault g n tokens (length tokens - k)) h.2
      (fault_at n tokens h.0 h.1 x.split x.viable (λ e y d s f. x.none e [] y d (ended n) (λ k fk o. cc) (append-nil (text e) ∙ s) f))

  pub terminal_reads : (n k : ℕ) (tokens rest : List Token) (d : Derivation) → form_at g n ≡ Some (Terminal k) → ((t : Token) × (t.kind ≡ k) × (d ≡ leaf t) × (tokens ≡ t ∷ rest)) → Reads g n tokens d rest
  terminal_reads n k tokens rest d f h =
      let q : form_at g n ≡ Some (Terminal h.0.kind) = f ∙ ap (λ v. Some (Terminal v)) (sym h.1) in
      subst (λ ts. Reads g n ts d rest) (sym h.3) (subst (λ e. Reads g n (h.0 ∷ rest) e rest) (sym h.2) (reads_leaf g ok n h.0 rest q))

  pub terminal_stops : (n k : ℕ) (tokens : List Token) (e : Stop) → form_at g n ≡ Some (Terminal k) → ((e ≡ Left (length tokens)) × (front tokens ≡ Some k → ⊥)) → IsStop g n tokens e
  terminal_stops n k tokens e f h = subst (λ v. IsStop g n tokens v) (sym h.0) ([], tokens, refl, refuses_leaf g ok n k 0 tokens f h.1)

  pub stop_present : (n w a : ℕ) (t : Token) (tokens m : List Token) → form_at g n ≡ Some (Clause w a) → has w t.kind ≡ true → tokens ≡ t ∷ m → (e : Stop) → IsStop g a m e → IsStop g n tokens e
  stop_present n w a t tokens m f q r Memory h = tt
  stop_present n w a t tokens m f q r (Left k) h = (t ∷ h.0, h.1, h.2, subst (λ ts. Refuses g n ts (t ∷ h.0) h.1) (sym r) (refuses_present g ok n w a t m h.0 h.1 f q h.3))
