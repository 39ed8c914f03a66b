-- Of which parts a derivation is.
use Rattle.std.proofs.Common.{◌≡◌, ℕ, List, Some, refl, subst, inl, inr}
use Rattle.std.specs.Prelude.{◌⊎◌}
use Rattle.pe_grammar.specs.declared.terminal.Token.{Token as Terminal}
use Rattle.pe_grammar.specs.Derivation.{Derivation, leaf, nothing, pair, left, right, done, more, present, absent, once}
use Rattle.pe_grammar.specs.Written.{Written, word, empty, both, either, body, IsOf}

pub record Pair (rs : List Written) (a b : Written) (d : Derivation) : Type 0 where
  pub one : Derivation
  pub two : Derivation
  pub is : d ≡ pair one two
  pub of_one : IsOf rs a one
  pub of_two : IsOf rs b two

pub record Side (rs : List Written) (a : Written) (make : Derivation → Derivation) (d : Derivation) : Type 0 where
  pub side : Derivation
  pub is : d ≡ make side
  pub of_side : IsOf rs a side

moved : (rs : List Written) (a b : Written) (d : Derivation) → a ≡ b → IsOf rs a d → IsOf rs b d
moved rs a b d p h = subst (λ e. IsOf rs e d) p h

pub in_pair : (rs : List Written) (e a b : Written) (d : Derivation) → body rs e ≡ Some (both a b) → IsOf rs e d → Pair rs a b d
in_pair rs e a b (pair c d) q h =
    let h2 = h.2 in
    let p : h.0 ≡ a = cc in
    let r : h.1 ≡ b = cc in
    record { one = c; two = d; is = refl; of_one = moved rs _ _ c p h.3; of_two = moved rs _ _ d r h.4 }
in_pair rs e a b (leaf t) q h = cc
in_pair rs e a b nothing q h = cc
in_pair rs e a b (left c) q h = let p = h.2 in cc
in_pair rs e a b (right c) q h = let p = h.2 in cc
in_pair rs e a b done q h = let p = h.1 in cc
in_pair rs e a b (more c d) q h = let p = h.1 in cc
in_pair rs e a b (present t c) q h = let p = h.2 in cc
in_pair rs e a b (absent k) q h = let p = h.1 in cc
in_pair rs e a b (once c) q h = let p = h.2 in cc

pub in_side : (rs : List Written) (e a b : Written) (d : Derivation) → body rs e ≡ Some (either a b) → IsOf rs e d → Side rs a left d ⊎ Side rs b right d
in_side rs e a b (left c) q h = let h2 = h.2 in let p : h.0 ≡ a = cc in inl (record { side = c; is = refl; of_side = moved rs _ _ c p h.3 })
in_side rs e a b (right c) q h = let h2 = h.2 in let p : h.1 ≡ b = cc in inr (record { side = c; is = refl; of_side = moved rs _ _ c p h.3 })
in_side rs e a b (leaf t) q h = cc
in_side rs e a b nothing q h = cc
in_side rs e a b (pair c d) q h = let p = h.2 in cc
in_side rs e a b done q h = let p = h.1 in cc
in_side rs e a b (more c d) q h = let p = h.1 in cc
in_side rs e a b (present t c) q h = let p = h.2 in cc
in_side rs e a b (absent k) q h = let p = h.1 in cc
in_side rs e a b (once c) q h = let p = h.2 in cc

pub in_leaf : (rs : List Written) (e : Written) (k : ℕ) (d : Derivation) → body rs e ≡ Some (word k) → IsOf rs e d → (t : Terminal) × (d ≡ leaf t) × (t.kind ≡ k)
in_leaf rs e k (leaf t) q h = (t, refl, cc)
in_leaf rs e k nothing q h = cc
in_leaf rs e k (pair c d) q h = let p = h.2 in cc
in_leaf rs e k (left c) q h = let p = h.2 in cc
in_leaf rs e k (right c) q h = let p = h.2 in cc
in_leaf rs e k done q h = let p = h.1 in cc
in_leaf rs e k (more c d) q h = let p = h.1 in cc
in_leaf rs e k (present t c) q h = let p = h.2 in cc
in_leaf rs e k (absent j) q h = let p = h.1 in cc
in_leaf rs e k (once c) q h = let p = h.2 in cc

pub in_nothing : (rs : List Written) (e : Written) (d : Derivation) → body rs e ≡ Some empty → IsOf rs e d → d ≡ nothing
in_nothing rs e nothing q h = refl
in_nothing rs e (leaf t) q h = cc
in_nothing rs e (pair c d) q h = let p = h.2 in cc
in_nothing rs e (left c) q h = let p = h.2 in cc
in_nothing rs e (right c) q h = let p = h.2 in cc
in_nothing rs e done q h = let p = h.1 in cc
in_nothing rs e (more c d) q h = let p = h.1 in cc
in_nothing rs e (present t c) q h = let p = h.2 in cc
in_nothing rs e (absent j) q h = let p = h.1 in cc
in_nothing rs e (once c) q h = let p = h.2 in cc
