-- Chains of ties, and labels that follow them.
use Rattle.std.proofs.Common.{◌≡◌, inl, inr, ℕ, zero, suc, ◌<◌, ◌≤◌, Bool, true, false, cond, List, [], ◌∷◌, ◌++◌, length, map, slice_index, slice_index_or, refl, ap, sym, ◌∙◌, subst, arith, zero-add}
use Rattle.std.specs.Prelude.{◌==◌, max, min, Contains}
use Rattle.std.specs.List.{range_with_len}
use Rattle.std.proofs.lemmas.Bool.{cases_lt, eqb-true, eq-eqb}
use Rattle.std.proofs.lemmas.List.{length-map}
use Rattle.std.proofs.lemmas.List.Elements.{Contains-append_left, Contains-push, Contains-push_cases}
use Rattle.std.proofs.lemmas.List.FromFn.{length-range_with_len, get_or-range_with_len}
use Rattle.pe_base.specs.Names.{place_of}
use Rattle.pe_supply.specs.Labels.{relabel, with_joined, AreFirst, AreLabelled}
use Rattle.pe_supply.specs.Numbers.{AreTied, IsChain, AreOne}
use Rattle.pe_supply.proofs.Naming.{place_at}

abbrev pub Ties : Type 0
Ties = List (List ℕ × List ℕ)

-- a name is one with itself
pub one_itself : (ties : Ties) (a b : List ℕ) → a ≡ b → AreOne ties a b
one_itself ties a b e = record { chain = []; leads = e }

chain_on : (ties : Ties) (a b c : List ℕ) (ms bs : List (List ℕ)) → IsChain ties a ms b → IsChain ties b bs c → IsChain ties a (ms ++ bs) c
chain_on ties a b c [] bs h k = let P : List ℕ → Type 0 = λ x. IsChain ties x bs c in subst P (sym h) k
chain_on ties a b c (d ∷ ds) bs h k = (h.0, chain_on ties d b c ds bs h.1 k)

pub one_on : (ties : Ties) (a b c : List ℕ) → AreOne ties a b → AreOne ties b c → AreOne ties a c
one_on ties a b c h k = record { chain = h.chain ++ k.chain; leads = chain_on ties a b c h.chain k.chain h.leads k.leads }

tied_back : (ties : Ties) (a b : List ℕ) → AreTied ties a b → AreTied ties b a
tied_back ties a b h = elim h [ inl x ↦ inr x | inr x ↦ inl x ]

pub one_tied : (ties : Ties) (a b : List ℕ) → AreTied ties a b → AreOne ties a b
one_tied ties a b h = record { chain = b ∷ []; leads = (h, refl) }

chain_back : (ties : Ties) (a b : List ℕ) (ms : List (List ℕ)) → IsChain ties a ms b → AreOne ties b a
chain_back ties a b [] h = one_itself ties b a (sym h)
chain_back ties a b (c ∷ cs) h = one_on ties b c a (chain_back ties c b cs h.1) (one_tied ties c a (tied_back ties a c h.0))

pub one_back : (ties : Ties) (a b : List ℕ) → AreOne ties a b → AreOne ties b a
one_back ties a b h = chain_back ties a b h.chain h.leads

tied_more : (ties more : Ties) (a b : List ℕ) → AreTied ties a b → AreTied (ties ++ more) a b
tied_more ties more a b h = elim h [ inl x ↦ inl (Contains-append_left ties more (a, b) x) | inr x ↦ inr (Contains-append_left ties more (b, a) x) ]

chain_more : (ties more : Ties) (a b : List ℕ) (ms : List (List ℕ)) → IsChain ties a ms b → IsChain (ties ++ more) a ms b
chain_more ties more a b [] h = h
chain_more ties more a b (c ∷ cs) h = (tied_more ties more a c h.0, chain_more ties more c b cs h.1)

pub one_more : (ties more : Ties) (a b : List ℕ) → AreOne ties a b → AreOne (ties ++ more) a b
one_more ties more a b h = record { chain = h.chain; leads = chain_more ties more a b h.chain h.leads }

-- what is the same along each tie is the same along a chain
pub along : (ties : Ties) (f : List ℕ → ℕ) → ((a b : List ℕ) → Contains ties (a, b) → f a ≡ f b) → (a b : List ℕ) (ms : List (List ℕ)) → IsChain ties a ms b → f a ≡ f b
along ties f h a b [] e = ap f e
along ties f h a b (c ∷ cs) e =
    let step : f a ≡ f c = elim e.0 [ inl x ↦ h a c x | inr x ↦ sym (h c a x) ] in
    step ∙ along ties f h c b cs e.1

-- a label past the end is 0
pub at_map : (f : ℕ → ℕ) → f 0 ≡ 0 → (xs : List ℕ) (k : ℕ) → slice_index (map f xs) k ≡ f (slice_index xs k)
at_map f z [] k = sym z
at_map f z (x ∷ xs) zero = refl
at_map f z (x ∷ xs) (suc k) = at_map f z xs k

relabel_by : (b : Bool) (from to label : ℕ) → (label == from) ≡ b → to ≤ from → cond b to label ≤ label
relabel_by true from to label e l = let same : label ≡ from = eqb-true label from e in omega arith
relabel_by false from to label e l = omega arith

relabel_le : (from to label : ℕ) → to ≤ from → relabel from to label ≤ label
relabel_le from to label l = relabel_by (label == from) from to label refl l

pub relabel_zero : (from to : ℕ) → to ≤ from → relabel from to 0 ≡ 0
relabel_zero from to l = let z : relabel from to 0 ≤ 0 = relabel_le from to 0 l in omega arith

pub relabel_from : (from to label : ℕ) → label ≡ from → relabel from to label ≡ to
relabel_from from to label e = let t : (label == from) ≡ true = eq-eqb label from e in rw t refl

pub relabel_other : (from to label : ℕ) → (label == from) ≡ false → relabel from to label ≡ label
relabel_other from to label e = rw e refl

relabel_to_by : (b : Bool) (from to : ℕ) → (to == from) ≡ b → cond b to to ≡ to
relabel_to_by true from to e = refl
relabel_to_by false from to e = refl

pub relabel_to : (from to : ℕ) → relabel from to to ≡ to
relabel_to from to = relabel_to_by (to == from) from to refl

-- the places with these labels are given one
first_joined : (labels : List ℕ) (from to : ℕ) → to ≤ from → slice_index labels to ≡ to → AreFirst labels → AreFirst (map (relabel from to) labels)
first_joined labels from to l own h = record { before = before; own = own_each }
  where
    at : (k : ℕ) → slice_index (map (relabel from to) labels) k ≡ relabel from to (slice_index labels k)
    at k = at_map (relabel from to) (relabel_zero from to l) labels k

    before : (k : ℕ) → k < length (map (relabel from to) labels) → slice_index (map (relabel from to) labels) k ≤ k
    before k inside =
        let within : k < length labels = omega (arith, length-map labels (relabel from to)) in
        omega (arith, at k, relabel_le from to (slice_index labels k) l, h.before k within)

    own_by : (b : Bool) (k : ℕ) → (slice_index labels k == from) ≡ b → k < length labels
        → relabel from to (slice_index labels (relabel from to (slice_index labels k))) ≡ relabel from to (slice_index labels k)
    own_by true k e within =
        let is : relabel from to (slice_index labels k) ≡ to = relabel_from from to (slice_index labels k) (eqb-true (slice_index labels k) from e) in
        ap (λ x. relabel from to (slice_index labels x)) is ∙ ap (relabel from to) own ∙ relabel_to from to ∙ sym is
    own_by false k e within =
        let is : relabel from to (slice_index labels k) ≡ slice_index labels k = relabel_other from to (slice_index labels k) e in
        ap (λ x. relabel from to (slice_index labels x)) is ∙ ap (relabel from to) (h.own k within)

    own_each : (k : ℕ) → k < length (map (relabel from to) labels) → slice_index (map (relabel from to) labels) (slice_index (map (relabel from to) labels) k) ≡ slice_index (map (relabel from to) labels) k
    own_each k inside =
        let within : k < length labels = omega (arith, length-map labels (relabel from to)) in
        at (slice_index (map (relabel from to) labels) k) ∙ ap (λ x. relabel from to (slice_index labels x)) (at k) ∙ own_by (slice_index labels k == from) k refl within ∙ sym (at k)

-- one tie more
module _ (names : List (List ℕ)) (ties : Ties) (labels : List ℕ) (p q : List ℕ) where
  abbrev x : ℕ
  x = slice_index labels (place_of names p)

  abbrev y : ℕ
  y = slice_index labels (place_of names q)

  -- names with the labels of the two tied ones
  meet : AreLabelled names ties labels → place_of names p < length names → place_of names q < length names
      → (j k : ℕ) → j < length names → k < length names → slice_index labels j ≡ slice_index labels (place_of names p) → slice_index labels k ≡ slice_index labels (place_of names q) → AreOne (ties ++ (p, q) ∷ []) (slice_index_or names j []) (slice_index_or names k [])
  meet h pin qin j k jin kin ej ek =
      let left : AreOne ties (slice_index_or names j []) p = subst (λ n. AreOne ties (slice_index_or names j []) n) (place_at names p pin) (h.one j (place_of names p) jin pin ej) in
      let right : AreOne ties q (slice_index_or names k []) = subst (λ n. AreOne ties n (slice_index_or names k [])) (place_at names q qin) (h.one (place_of names q) k qin kin (sym ek)) in
      let middle : AreOne (ties ++ (p, q) ∷ []) p q = one_tied (ties ++ (p, q) ∷ []) p q (inl (Contains-push ties (p, q))) in
      one_on (ties ++ (p, q) ∷ []) (slice_index_or names j []) p (slice_index_or names k []) (one_more ties ((p, q) ∷ []) (slice_index_or names j []) p left)
      (one_on (ties ++ (p, q) ∷ []) p q (slice_index_or names k []) middle (one_more ties ((p, q) ∷ []) q (slice_index_or names k []) right))

  -- one has the greater label, the other the smaller
  meet_either : AreLabelled names ties labels → place_of names p < length names → place_of names q < length names
      → (j k : ℕ) → j < length names → k < length names → slice_index labels j ≡ max x y → slice_index labels k ≡ min x y → AreOne (ties ++ (p, q) ∷ []) (slice_index_or names j []) (slice_index_or names k [])
  meet_either h pin qin j k jin kin ej ek = elim (cases_lt x y) [
    | inl l ↦
        let ej' : slice_index labels j ≡ y = omega arith in
        let ek' : slice_index labels k ≡ x = omega arith in
        one_back (ties ++ (p, q) ∷ []) (slice_index_or names k []) (slice_index_or names j []) (meet h pin qin k j kin jin ek' ej')
    | inr l ↦
        let ej' : slice_index labels j ≡ x = omega arith in
        let ek' : slice_index labels k ≡ y = omega arith in
        meet h pin qin j k jin kin ej' ek'
  ]

  one_by : AreLabelled names ties labels → place_of names p < length names → place_of names q < length names
      → (a b : Bool) (j k : ℕ) → j < length names → k < length names → (slice_index labels j == max x y) ≡ a → (slice_index labels k == max x y) ≡ b
      → cond a (min x y) (slice_index labels j) ≡ cond b (min x y) (slice_index labels k) → AreOne (ties ++ (p, q) ∷ []) (slice_index_or names j []) (slice_index_or names k [])
  one_by h pin qin true true j k jin kin ea eb e =
      let same : slice_index labels j ≡ slice_index labels k = eqb-true (slice_index labels j) (max x y) ea ∙ sym (eqb-true (slice_index labels k) (max x y) eb) in
      one_more ties ((p, q) ∷ []) (slice_index_or names j []) (slice_index_or names k []) (h.one j k jin kin same)
  one_by h pin qin false false j k jin kin ea eb e = one_more ties ((p, q) ∷ []) (slice_index_or names j []) (slice_index_or names k []) (h.one j k jin kin e)
  one_by h pin qin true false j k jin kin ea eb e = meet_either h pin qin j k jin kin (eqb-true (slice_index labels j) (max x y) ea) (sym e)
  one_by h pin qin false true j k jin kin ea eb e =
      one_back (ties ++ (p, q) ∷ []) (slice_index_or names k []) (slice_index_or names j []) (meet_either h pin qin k j kin jin (eqb-true (slice_index labels k) (max x y) eb) e)

  below : min x y ≤ max x y
  below = omega arith

  at : (k : ℕ) → slice_index (with_joined labels x y) k ≡ relabel (max x y) (min x y) (slice_index labels k)
  at k = at_map (relabel (max x y) (min x y)) (relabel_zero (max x y) (min x y) below) labels k

  least : (v : ℕ) → v ≡ min x y → relabel (max x y) (min x y) v ≡ min x y
  least v e = ap (relabel (max x y) (min x y)) e ∙ relabel_to (max x y) (min x y)

  -- both ends of the tie have the smaller label
  ends : relabel (max x y) (min x y) x ≡ relabel (max x y) (min x y) y
  ends = elim (cases_lt x y) [
    | inl l ↦
        let ex : x ≡ min x y = omega arith in
        let ey : y ≡ max x y = omega arith in
        least x ex ∙ sym (relabel_from (max x y) (min x y) y ey)
    | inr l ↦
        let ey : y ≡ min x y = omega arith in
        let ex : x ≡ max x y = omega arith in
        relabel_from (max x y) (min x y) x ex ∙ sym (least y ey)
  ]

  least_own : slice_index labels x ≡ x → slice_index labels y ≡ y → slice_index labels (min x y) ≡ min x y
  least_own ox oy = elim (cases_lt x y) [
    | inl l ↦ let e : min x y ≡ x = omega arith in ap (slice_index labels) e ∙ ox ∙ sym e
    | inr l ↦ let e : min x y ≡ y = omega arith in ap (slice_index labels) e ∙ oy ∙ sym e
  ]

  tied_new : AreLabelled names ties labels → (a b : List ℕ) → Contains (ties ++ (p, q) ∷ []) (a, b) → slice_index (with_joined labels x y) (place_of names a) ≡ slice_index (with_joined labels x y) (place_of names b)
  tied_new h a b c = at (place_of names a) ∙ elim (Contains-push_cases ties (p, q) (a, b) c) [
    | inl old ↦ ap (relabel (max x y) (min x y)) (h.tied a b old)
    | inr new ↦
        let left : p ≡ a = ap (λ t. t.0) new in
        let right : q ≡ b = ap (λ t. t.1) new in
        ap (λ n. relabel (max x y) (min x y) (slice_index labels (place_of names n))) (sym left) ∙ ends ∙ ap (λ n. relabel (max x y) (min x y) (slice_index labels (place_of names n))) right
  ] ∙ sym (at (place_of names b))

  pub labelled_tie : AreLabelled names ties labels → place_of names p < length names → place_of names q < length names → AreLabelled names (ties ++ (p, q) ∷ []) (with_joined labels x y)
  labelled_tie h pin qin =
      let pin' : place_of names p < length labels = omega (arith, h.size) in
      let qin' : place_of names q < length labels = omega (arith, h.size) in
      record {
        size = length-map labels (relabel (max x y) (min x y)) ∙ h.size;
        first = first_joined labels (max x y) (min x y) below (least_own (h.first.own (place_of names p) pin') (h.first.own (place_of names q) qin')) h.first;
        tied = tied_new h;
        one = λ j k jin kin e. one_by h pin qin (slice_index labels j == max x y) (slice_index labels k == max x y) j k jin kin refl refl (sym (at j) ∙ e ∙ at k);
      }

-- at first each name has its own label
pub labelled_none : (names : List (List ℕ)) → AreLabelled names [] (range_with_len 0 (length names))
labelled_none names = record {
  size = length-range_with_len 0 (length names);
  first = record { before = λ k l. let e = place k l in omega arith; own = λ k l. ap (slice_index (range_with_len 0 (length names))) (place k l) };
  tied = λ a b c. absurd (omega (arith, c.1));
  one = λ j k jin kin e.
      let same : j ≡ k = sym (get_or-range_with_len 0 (length names) j 0 jin ∙ zero-add j) ∙ e ∙ get_or-range_with_len 0 (length names) k 0 kin ∙ zero-add k in
      one_itself [] (slice_index_or names j []) (slice_index_or names k []) (ap (λ i. slice_index_or names i []) same);
}
  where
    place : (k : ℕ) → k < length (range_with_len 0 (length names)) → slice_index (range_with_len 0 (length names)) k ≡ k
    place k l = let inside : k < length names = omega (arith, length-range_with_len 0 (length names)) in get_or-range_with_len 0 (length names) k 0 inside ∙ zero-add k
