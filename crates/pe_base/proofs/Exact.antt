-- The merge over the replacements is known exactly where every replacement gives that.
use Rattle.std.proofs.Common.{◌≡◌, ◌↔◌, Bool, true, false, List, [], ◌∷◌, refl, ap, inl, inr}
use Rattle.pe_base.specs.declared.value.Val.{Val}
use Rattle.pe_base.specs.declared.value.Val.TheVariants.{Zero, One, Corrupt}
use Rattle.pe_base.specs.Values.{known_of, merge_of, pick_of, merge_over, IsReplacement, exact_extension}

pub known_same : (a b : Bool) → known_of a ≡ known_of b → a ≡ b
known_same true true e = refl
known_same true false e = cc
known_same false true e = cc
known_same false false e = refl

pub merged_left : (x y : Val) (b : Bool) → merge_of x y ≡ known_of b → x ≡ known_of b
merged_left Zero Zero b e = e
merged_left Zero One true e = cc
merged_left Zero One false e = cc
merged_left Zero Corrupt true e = cc
merged_left Zero Corrupt false e = cc
merged_left One One b e = e
merged_left One Zero true e = cc
merged_left One Zero false e = cc
merged_left One Corrupt true e = cc
merged_left One Corrupt false e = cc
merged_left Corrupt y b e = e

pub merged_right : (x y : Val) (b : Bool) → merge_of x y ≡ known_of b → y ≡ known_of b
merged_right Zero Zero b e = e
merged_right Zero One true e = cc
merged_right Zero One false e = cc
merged_right Zero Corrupt b e = e
merged_right One One b e = e
merged_right One Zero true e = cc
merged_right One Zero false e = cc
merged_right One Corrupt b e = e
merged_right Corrupt y true e = cc
merged_right Corrupt y false e = cc

pub merged_both : (x y : Val) (b : Bool) → x ≡ known_of b → y ≡ known_of b → merge_of x y ≡ known_of b
merged_both x y true p q = rw (p, q) refl
merged_both x y false p q = rw (p, q) refl

pub known_gives : (g : List Bool → Val) (vs : List Val) (b : Bool) → merge_over vs g ≡ known_of b → (r : List Bool) → IsReplacement vs r → g r ≡ known_of b
known_gives g [] b e [] h = e
known_gives g [] b e (c ∷ r) h = absurd h
known_gives g (Zero ∷ vs) b e [] h = absurd h
known_gives g (Zero ∷ vs) b e (false ∷ r) h = known_gives (λ r. g (false ∷ r)) vs b e r h.1
known_gives g (Zero ∷ vs) b e (true ∷ r) h = absurd (elim h.0 [ inl p ↦ cc | inr p ↦ cc ])
known_gives g (One ∷ vs) b e [] h = absurd h
known_gives g (One ∷ vs) b e (true ∷ r) h = known_gives (λ r. g (true ∷ r)) vs b e r h.1
known_gives g (One ∷ vs) b e (false ∷ r) h = absurd (elim h.0 [ inl p ↦ cc | inr p ↦ cc ])
known_gives g (Corrupt ∷ vs) b e [] h = absurd h
known_gives g (Corrupt ∷ vs) b e (false ∷ r) h = known_gives (λ r. g (false ∷ r)) vs b (merged_left _ _ b e) r h.1
known_gives g (Corrupt ∷ vs) b e (true ∷ r) h = known_gives (λ r. g (true ∷ r)) vs b (merged_right (merge_over vs (λ r. g (false ∷ r))) _ b e) r h.1

pub given_known : (g : List Bool → Val) (vs : List Val) (b : Bool) → ((r : List Bool) → IsReplacement vs r → g r ≡ known_of b) → merge_over vs g ≡ known_of b
given_known g [] b h = h [] tt
given_known g (Zero ∷ vs) b h = given_known (λ r. g (false ∷ r)) vs b (λ r k. h (false ∷ r) (inr refl, k))
given_known g (One ∷ vs) b h = given_known (λ r. g (true ∷ r)) vs b (λ r k. h (true ∷ r) (inr refl, k))
given_known g (Corrupt ∷ vs) b h =
    merged_both _ _ b
    (given_known (λ r. g (false ∷ r)) vs b (λ r k. h (false ∷ r) (inl refl, k)))
    (given_known (λ r. g (true ∷ r)) vs b (λ r k. h (true ∷ r) (inl refl, k)))

pub merge_over_law : (g : List Bool → Val) (vs : List Val) (b : Bool) → (merge_over vs g ≡ known_of b) ↔ ((r : List Bool) → IsReplacement vs r → g r ≡ known_of b)
merge_over_law g vs b = (known_gives g vs b, given_known g vs b)

pub exact_extension_law : (f : List Bool → Bool) (vs : List Val) (b : Bool) → (exact_extension f vs ≡ known_of b) ↔ ((r : List Bool) → IsReplacement vs r → f r ≡ b)
exact_extension_law f vs b = (
  λ e r h. known_same (f r) b (known_gives (λ r. known_of (f r)) vs b e r h),
  λ h. given_known (λ r. known_of (f r)) vs b (λ r k. ap known_of (h r k)),
)

-- a choice between equals
pub pick_same : (c x : Val) → pick_of c x x ≡ x
pick_same Zero x = refl
pick_same One x = refl
pick_same Corrupt Zero = refl
pick_same Corrupt One = refl
pick_same Corrupt Corrupt = refl
