-- What lists of options read and refuse.
use Rattle.std.proofs.Common.{◌≡◌, ℕ, true, false, List, [], ◌∷◌, ◌++◌, length, Some, refl, sym, ap, ◌∙◌, subst, inl, append_assoc}
use Rattle.std.proofs.lemmas.List.{append_cancel_left, append-nil}
use Rattle.std.specs.List.{cons_option}
use Rattle.pe_grammar.specs.declared.form.Bounds.{Bounds}
use Rattle.pe_grammar.specs.declared.terminal.Token.{Token}
use Rattle.pe_grammar.specs.declared.form.Entry.{Entry}
use Rattle.pe_grammar.specs.declared.form.Form.TheVariants.{Repeat, Once}
use Rattle.pe_grammar.specs.Derivation.{Derivation, leaf, nothing, pair, left, right, done, more, present, absent, once, heads, IsFresh, HasEach, taken, text, front, IsNear}
use Rattle.pe_grammar.specs.Grammar.{Derives, IsViable, form_at}
use Rattle.pe_grammar.specs.Table.{IsDeterministic, nullable}
use Rattle.pe_grammar.specs.Reading.{Stops, Reads, Refuses, IsStop, ReadsOnce, RefusesOnce, IsStopOnce, starts_at}
use Rattle.pe_grammar.specs.declared.failure.Stop.{Stop}
use Rattle.pe_grammar.specs.declared.failure.Stop.TheVariants.{Memory, Left}
use Rattle.pe_grammar.proofs.Texts.{agrees, more_parts, near_before, near_pair, near_within}
use Rattle.pe_grammar.proofs.Starts.{empty_null, stops_again}
use Rattle.pe_grammar.proofs.Examples.{filled, example}
use Rattle.pe_grammar.proofs.Arms.{reads_done, not_done, refuses_one}

module _ (g : List Entry) (ok : IsDeterministic g) where
  -- repeats in which no head of a set comes twice
  pub head_of : (d : Derivation) (a : ℕ) (tokens mid : List Token) (k : ℕ) → (nullable g a ≡ true → ⊥) → Derives g a d → tokens ≡ text d ++ mid → front tokens ≡ Some k → front (text d) ≡ Some k
  head_of d a tokens mid k z h split f = head_at (text d) (λ e. z (empty_null g ok d a h e)) (ap front (sym split) ∙ f)
    where
      head_at : (xs : List Token) → (xs ≡ [] → ⊥) → front (xs ++ mid) ≡ Some k → front xs ≡ Some k
      head_at [] z e = absurd (z refl)
      head_at (x ∷ xs) z e = e

  pub heads_more : (d e : Derivation) (k : ℕ) → front (text d) ≡ Some k → heads (more d e) ≡ k ∷ heads e
  heads_more d e k f = ap (λ o. cons_option o (heads e)) f

  pub fresh_more : (set : ℕ) (used : List ℕ) (d e : Derivation) (k : ℕ) → front (text d) ≡ Some k → (taken set used k ≡ true → ⊥) → IsFresh set (used ++ k ∷ []) (heads e) → IsFresh set used (heads (more d e))
  fresh_more set used d e k f z h = subst (λ ks. IsFresh set used ks) (sym (heads_more d e k f)) (z, h)

  pub fresh_parts : (set : ℕ) (used : List ℕ) (d e : Derivation) (k : ℕ) → front (text d) ≡ Some k → IsFresh set used (heads (more d e)) → (taken set used k ≡ true → ⊥) × IsFresh set (used ++ k ∷ []) (heads e)
  fresh_parts set used d e k f h = let r : IsFresh set used (k ∷ heads e) = subst (λ ks. IsFresh set used ks) (heads_more d e k f) h in (r.0, r.1)

  pub head_is : (n a : ℕ) (d : Derivation) (tokens mid : List Token) (k : ℕ) → form_at g n ≡ Some (Repeat a) → Reads g a tokens d mid → front tokens ≡ Some k → front (text d) ≡ Some k
  head_is n a d tokens mid k f x t = head_of d a tokens mid k (ok.«repeat» n a f).not_null x.derives x.split t

  pub once_done : (n a set : ℕ) (used : List ℕ) (tokens : List Token) → form_at g n ≡ Some (Repeat a) → starts_at g a tokens ≡ false → ReadsOnce g n set used tokens done tokens
  once_done n a set used tokens f l =
      let x = reads_done g ok n a tokens f l in
      record { derives = x.derives; fresh = tt; split = x.split; near = x.near; only = λ other after y h fr st nr u w. x.only other after y h st nr u w }

  pub once_more : (n a set : ℕ) (used : List ℕ) (k : ℕ) (tokens m rest : List Token) (d e : Derivation) → form_at g n ≡ Some (Repeat a) → front tokens ≡ Some k → starts_at g a tokens ≡ true → (taken set used k ≡ true → ⊥) →
      Reads g a tokens d m → ReadsOnce g n set (used ++ k ∷ []) m e rest → ReadsOnce g n set used tokens (more d e) rest
  once_more n a set used k tokens m rest d e f t l z x y = record {
    derives = (a, f, x.derives, y.derives, near_within d (text e) rest m x.near y.split);
    fresh = fresh_more set used d e k (head_of d a tokens m k (ok.«repeat» n a f).not_null x.derives x.split t) z y.fresh;
    split = split;
    near = near_pair d e m rest x.near y.split y.near;
    only = more_only;
  }
    where
      split : tokens ≡ (text d ++ text e) ++ rest
      split = x.split ∙ ap (λ v. text d ++ v) y.split ∙ sym (append_assoc (text d) (text e) rest)

      more_only : (other : Derivation) (after v : List Token) → Derives g n other → IsFresh set used (heads other) → Stops g n after → IsNear other after → text other ++ after ≡ (text d ++ text e) ++ v → front v ≡ front rest → other ≡ more d e
      more_only (more d' e') after v h fr st nr u w =
          let s = ok.«repeat» n a f in
          let parts = more_parts g n a d' e' f h in
          let u' : text d' ++ (text e' ++ after) ≡ text d ++ (text e ++ v) = sym (append_assoc (text d') (text e') after) ∙ u ∙ append_assoc (text d) (text e) v in
          let p : d' ≡ d = x.only d' (text e' ++ after) (text e ++ v) parts.0 (stops_again g ok n a s e' after parts.1 st) (near_before d' e' after parts.2 nr) u'
          (agrees (text e ++ v) (text e) v rest m refl w y.split) in
          let hd : front (text d') ≡ Some k = ap (λ c. front (text c)) p ∙ head_of d a tokens m k s.not_null x.derives x.split t in
          let r : text d ++ (text e' ++ after) ≡ text d ++ (text e ++ v) = ap (λ c. text c ++ (text e' ++ after)) (sym p) ∙ u' in
          let q : e' ≡ e = y.only e' after v parts.1 (fresh_parts set used d' e' k hd fr).1 st (λ i fi o. nr i fi (inl o)) (append_cancel_left (text d) (text e' ++ after) (text e ++ v) r) w in
          cc
      more_only done after v h fr st nr u w = absurd (not_done g ok n a tokens after f l st (agrees after (text d ++ text e) v rest tokens u w split))
      more_only (leaf i) after v h fr st nr u w = cc
      more_only nothing after v h fr st nr u w = cc
      more_only (present i c) after v h fr st nr u w = let p = h.2 in cc
      more_only (absent i) after v h fr st nr u w = let p = h.1 in cc
      more_only (once c) after v h fr st nr u w = let p = h.2 in cc
      more_only (pair c c') after v h fr st nr u w = let p = h.2 in cc
      more_only (left c) after v h fr st nr u w = let p = h.2 in cc
      more_only (right c) after v h fr st nr u w = let p = h.2 in cc

  -- a part that comes again is refused at its first token
  pub once_taken : (n a set : ℕ) (used : List ℕ) (k : ℕ) (tokens : List Token) → form_at g n ≡ Some (Repeat a) → front tokens ≡ Some k → starts_at g a tokens ≡ true → taken set used k ≡ true → RefusesOnce g n set used tokens [] tokens
  once_taken n a set used k tokens f t l z = record {
    split = refl;
    viable = ([], done, (a, f), tt, refl);
    none = taken_none;
  }
    where
      taken_none : (other : Derivation) (after v : List Token) → Derives g n other → IsFresh set used (heads other) → Stops g n after → IsNear other after → text other ++ after ≡ v → front v ≡ front tokens → ⊥
      taken_none (more d e) after v h fr st nr u w =
          let s = ok.«repeat» n a f in
          let parts = more_parts g n a d e f h in
          let hd = head_of d a ((text d ++ text e) ++ after) (text e ++ after) k s.not_null parts.0 (append_assoc (text d) (text e) after) (ap front u ∙ w ∙ t) in
          (fresh_parts set used d e k hd fr).0 z
      taken_none done after v h fr st nr u w = not_done g ok n a tokens after f l st (ap front u ∙ w)
      taken_none (leaf i) after v h fr st nr u w = cc
      taken_none nothing after v h fr st nr u w = cc
      taken_none (present i c) after v h fr st nr u w = let p = h.2 in cc
      taken_none (absent i) after v h fr st nr u w = let p = h.1 in cc
      taken_none (once c) after v h fr st nr u w = let p = h.2 in cc
      taken_none (pair c c') after v h fr st nr u w = let p = h.2 in cc
      taken_none (left c) after v h fr st nr u w = let p = h.2 in cc
      taken_none (right c) after v h fr st nr u w = let p = h.2 in cc

  pub once_one : (n a set : ℕ) (used : List ℕ) (k : ℕ) (tokens before rest : List Token) → form_at g n ≡ Some (Repeat a) → front tokens ≡ Some k → starts_at g a tokens ≡ true → (taken set used k ≡ true → ⊥) →
      Refuses g a tokens before rest → RefusesOnce g n set used tokens before rest
  once_one n a set used k tokens before rest f t l z x =
      let y = refuses_one g ok n a tokens before rest f l x in
      record {
        split = x.split;
        viable = one_viable before x.viable x.split;
        none = λ other after v h fr st nr u w. y.none other after v h st nr u w;
      }
    where
      one_viable : (xs : List Token) → IsViable g a xs → tokens ≡ xs ++ rest → (more : List Token) × (d : Derivation) × Derives g n d × IsFresh set used (heads d) × (text d ≡ xs ++ more)
      one_viable [] v q = ([], done, (a, f), tt, refl)
      one_viable (i ∷ xs) v q =
          let sp = v.2 in
          let d = v.1 in
          let hd : front (text d) ≡ Some k = ap front sp.spelled ∙ ap front (sym q) ∙ t in
          (v.0, more d done, (a, f, sp.derives, (a, f), λ j fj o. cc), fresh_more set used d done k hd z tt, append-nil (text d) ∙ sp.spelled)

  pub once_again : (n a set : ℕ) (used : List ℕ) (k : ℕ) (tokens m before rest : List Token) (d : Derivation) → form_at g n ≡ Some (Repeat a) → front tokens ≡ Some k → starts_at g a tokens ≡ true → (taken set used k ≡ true → ⊥) →
      Reads g a tokens d m → RefusesOnce g n set (used ++ k ∷ []) m before rest → RefusesOnce g n set used tokens (text d ++ before) rest
  once_again n a set used k tokens m before rest d f t l z x y = record {
    split = split;
    viable = again_viable before y.viable y.split;
    none = again_none;
  }
    where
      split : tokens ≡ (text d ++ before) ++ rest
      split = x.split ∙ ap (λ v. text d ++ v) y.split ∙ sym (append_assoc (text d) before rest)

      hd : front (text d) ≡ Some k
      hd = head_of d a tokens m k (ok.«repeat» n a f).not_null x.derives x.split t

      again_viable : (xs : List Token) → ((more : List Token) × (e : Derivation) × Derives g n e × IsFresh set (used ++ k ∷ []) (heads e) × (text e ≡ xs ++ more)) → m ≡ xs ++ rest →
          (more : List Token) × (e : Derivation) × Derives g n e × IsFresh set used (heads e) × (text e ≡ (text d ++ xs) ++ more)
      again_viable [] v q = ([], more d done, (a, f, x.derives, (a, f), λ j fj o. cc), fresh_more set used d done k hd z tt, sym (append-nil (text d ++ [])))
      again_viable (i ∷ xs) v q =
          let e = v.1 in
          let nr : IsNear d (text e) = λ j fj o. x.near j (ap front q ∙ ap front (sym v.4) ∙ fj) o in
          (v.0, more d e, (a, f, x.derives, v.2, nr), fresh_more set used d e k hd z v.3, ap (λ c. text d ++ c) v.4 ∙ sym (append_assoc (text d) (i ∷ xs) v.0))

      again_none : (other : Derivation) (after v : List Token) → Derives g n other → IsFresh set used (heads other) → Stops g n after → IsNear other after → text other ++ after ≡ (text d ++ before) ++ v → front v ≡ front rest → ⊥
      again_none (more d' e') after v h fr st nr u w =
          let s = ok.«repeat» n a f in
          let parts = more_parts g n a d' e' f h in
          let u' : text d' ++ (text e' ++ after) ≡ text d ++ (before ++ v) = sym (append_assoc (text d') (text e') after) ∙ u ∙ append_assoc (text d) before v in
          let p : d' ≡ d = x.only d' (text e' ++ after) (before ++ v) parts.0 (stops_again g ok n a s e' after parts.1 st) (near_before d' e' after parts.2 nr) u'
          (agrees (before ++ v) before v rest m refl w y.split) in
          let hd' : front (text d') ≡ Some k = ap (λ c. front (text c)) p ∙ hd in
          let r : text d ++ (text e' ++ after) ≡ text d ++ (before ++ v) = ap (λ c. text c ++ (text e' ++ after)) (sym p) ∙ u' in
          y.none e' after v parts.1 (fresh_parts set used d' e' k hd' fr).1 st (λ j fj o. nr j fj (inl o)) (append_cancel_left (text d) (text e' ++ after) (before ++ v) r) w
      again_none done after v h fr st nr u w = not_done g ok n a tokens after f l st (agrees after (text d ++ before) v rest tokens u w split)
      again_none (leaf i) after v h fr st nr u w = cc
      again_none nothing after v h fr st nr u w = cc
      again_none (present i c) after v h fr st nr u w = let p = h.2 in cc
      again_none (absent i) after v h fr st nr u w = let p = h.1 in cc
      again_none (once c) after v h fr st nr u w = let p = h.2 in cc
      again_none (pair c c') after v h fr st nr u w = let p = h.2 in cc
      again_none (left c) after v h fr st nr u w = let p = h.2 in cc
      again_none (right c) after v h fr st nr u w = let p = h.2 in cc

  pub once_part : (n r : ℕ) (set : Bounds) (d : Derivation) → form_at g n ≡ Some (Once r set) → Derives g n (once d) → Derives g r d × IsFresh set.once [] (heads d) × HasEach set.needed (heads d)
  once_part n r set d f h =
      let p : h.0 ≡ r = cc in
      let q : h.1 ≡ set = cc in
      (subst (λ v. Derives g v d) p h.3, subst (λ v. IsFresh v.once [] (heads d)) q h.4, subst (λ v. HasEach v.needed (heads d)) q h.5)

  pub reads_once : (n r : ℕ) (set : Bounds) (tokens rest : List Token) (d : Derivation) → form_at g n ≡ Some (Once r set) → ReadsOnce g r set.once [] tokens d rest → HasEach set.needed (heads d) → Reads g n tokens (once d) rest
  reads_once n r set tokens rest d f x needs = record {
    derives = (r, set, f, x.derives, x.fresh, needs);
    split = x.split;
    near = x.near;
    only = once_only;
  }
    where
      once_only : (other : Derivation) (after y : List Token) → Derives g n other → Stops g n after → IsNear other after → text other ++ after ≡ text d ++ y → front y ≡ front rest → other ≡ once d
      once_only (once c) after y h st nr u w =
          let parts = once_part n r set c f h in
          let q : c ≡ d = x.only c after y parts.0 parts.1 (λ k fk o. st k fk ((ok.once_more n r set f).on k o)) nr u w in
          cc
      once_only (leaf t) after y h st nr u w = cc
      once_only nothing after y h st nr u w = cc
      once_only (present t c) after y h st nr u w = let p = h.2 in cc
      once_only (absent k) after y h st nr u w = let p = h.1 in cc
      once_only (pair c c') after y h st nr u w = let p = h.2 in cc
      once_only (left c) after y h st nr u w = let p = h.2 in cc
      once_only (right c) after y h st nr u w = let p = h.2 in cc
      once_only done after y h st nr u w = let p = h.1 in cc
      once_only (more c c') after y h st nr u w = let p = h.1 in cc

  pub refuses_once : (n r : ℕ) (set : Bounds) (tokens before rest : List Token) → form_at g n ≡ Some (Once r set) → RefusesOnce g r set.once [] tokens before rest → Refuses g n tokens before rest
  refuses_once n r set tokens before rest f x = record {
    split = x.split;
    viable = (
        let v = x.viable in
        let y = filled g ok n r set f (λ m l w. example g ok m w) v.1 v.2 v.3 in (
          v.0 ++ y.0,
          once y.1,
          record { derives = (r, set, f, y.2, y.3, y.5); spelled = y.4 ∙ ap (λ u. u ++ y.0) v.4 ∙ append_assoc before v.0 y.0 },
        )
        );
    none = once_none;
  }
    where
      once_none : (other : Derivation) (after y : List Token) → Derives g n other → Stops g n after → IsNear other after → text other ++ after ≡ before ++ y → front y ≡ front rest → ⊥
      once_none (once c) after y h st nr u w =
          let parts = once_part n r set c f h in
          x.none c after y parts.0 parts.1 (λ k fk o. st k fk ((ok.once_more n r set f).on k o)) nr u w
      once_none (leaf t) after y h st nr u w = cc
      once_none nothing after y h st nr u w = cc
      once_none (present t c) after y h st nr u w = let p = h.2 in cc
      once_none (absent k) after y h st nr u w = let p = h.1 in cc
      once_none (pair c c') after y h st nr u w = let p = h.2 in cc
      once_none (left c) after y h st nr u w = let p = h.2 in cc
      once_none (right c) after y h st nr u w = let p = h.2 in cc
      once_none done after y h st nr u w = let p = h.1 in cc
      once_none (more c c') after y h st nr u w = let p = h.1 in cc

  -- a list that lacks a needed option is refused at the token after it
  pub refuses_lacking : (n r : ℕ) (set : Bounds) (tokens rest : List Token) (d : Derivation) → form_at g n ≡ Some (Once r set) → ReadsOnce g r set.once [] tokens d rest → (HasEach set.needed (heads d) → ⊥) → Refuses g n tokens (text d) rest
  refuses_lacking n r set tokens rest d f x lacks = record {
    split = x.split;
    viable = (let y = filled g ok n r set f (λ m l w. example g ok m w) d x.derives x.fresh in (y.0, once y.1, record { derives = (r, set, f, y.2, y.3, y.5); spelled = y.4 }));
    none = lacking_none;
  }
    where
      lacking_none : (other : Derivation) (after y : List Token) → Derives g n other → Stops g n after → IsNear other after → text other ++ after ≡ text d ++ y → front y ≡ front rest → ⊥
      lacking_none (once c) after y h st nr u w =
          let parts = once_part n r set c f h in
          let q : c ≡ d = x.only c after y parts.0 parts.1 (λ k fk o. st k fk ((ok.once_more n r set f).on k o)) nr u w in
          lacks (subst (λ v. HasEach set.needed (heads v)) q parts.2)
      lacking_none (leaf t) after y h st nr u w = cc
      lacking_none nothing after y h st nr u w = cc
      lacking_none (present t c) after y h st nr u w = let p = h.2 in cc
      lacking_none (absent k) after y h st nr u w = let p = h.1 in cc
      lacking_none (pair c c') after y h st nr u w = let p = h.2 in cc
      lacking_none (left c) after y h st nr u w = let p = h.2 in cc
      lacking_none (right c) after y h st nr u w = let p = h.2 in cc
      lacking_none done after y h st nr u w = let p = h.1 in cc
      lacking_none (more c c') after y h st nr u w = let p = h.1 in cc

  pub lacking_stops : (n r : ℕ) (set : Bounds) (tokens rest : List Token) (d : Derivation) → form_at g n ≡ Some (Once r set) → ReadsOnce g r set.once [] tokens d rest → (HasEach set.needed (heads d) → ⊥) → IsStop g n tokens (Left (length rest))
  lacking_stops n r set tokens rest d f x lacks = (text d, rest, refl, refuses_lacking n r set tokens rest d f x lacks)

  pub stop_once : (n r : ℕ) (set : Bounds) (tokens : List Token) → form_at g n ≡ Some (Once r set) → (e : Stop) → IsStopOnce g r set.once [] tokens e → IsStop g n tokens e
  stop_once n r set tokens f Memory h = tt
  stop_once n r set tokens f (Left k) h = (h.0, h.1, h.2, refuses_once n r set tokens h.0 h.1 f h.3)
