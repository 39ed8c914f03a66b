-- The exact extension, pin by pin.
use Rattle.std.proofs.Common.{◌≡◌, ◌≢◌, ℕ, ◌+◌, ◌<◌, eqb, Bool, true, false, ◌||◌, List, [], ◌∷◌, ◌++◌, length, drop, get_or, suc, refl, sym, ap, ◌∙◌, append_assoc, append-nil, take, ◌≤◌, arith, zero}
use Rattle.std.specs.Prelude.{All, slice_index_or}
use Rattle.std.proofs.lemmas.List.{length-map, length_push, drop_more, get_or-map, take-append-drop, take_all, take_at, drop_all, length-take}
use Rattle.std.proofs.lemmas.List.Folds.{list_any-append}
use Rattle.std.proofs.lemmas.Bool.{false≢true}
use Rattle.pe_base.specs.declared.value.Val.{Val}
use Rattle.pe_base.specs.declared.value.Val.TheVariants.{Zero, One, Corrupt}
use Rattle.pe_base.specs.Values.{known_of, merge_of, pick_of, merge_over, exact_extension}
use Rattle.pe_base.proofs.Exact.{pick_same}
use Rattle.pe_bool_expr.specs.declared.expr.Expr.{Expr}
use Rattle.pe_bool_expr.specs.Functions.{formula, holds, pins_of, is_among}
use Rattle.pe_bool_expr.proofs.Choosing.{same_value}
use Rattle.pe_graph.specs.declared.graph.Node.{Node}
use Rattle.pe_graph.proofs.Growth.{grows_on, grows_not}
use Rattle.pe_rail_ops.specs.declared.bit.Rail.{Rail}
use Rattle.pe_rail_ops.specs.Rails.{rail_in, rails_in, IsRail, GivesRail}
use Rattle.pe_rail_ops.specs.Extension.{with_fixed}
use Rattle.pe_rail_ops.proofs.Rails.{rail_same, rails_same, gives_as}
use Rattle.pe_rail_ops.proofs.Loops.{rail_at}

pub among_either : (xs ys : List ℕ) (i : ℕ) → is_among (xs ++ ys) i ≡ (is_among xs i || is_among ys i)
among_either xs ys i = list_any-append (λ x. eqb x i) xs ys

-- merges of merges, in either order
merge_exchange : (a b c d : Val) → merge_of (merge_of a b) (merge_of c d) ≡ merge_of (merge_of a c) (merge_of b d)
merge_exchange Zero Zero Zero Zero = refl
merge_exchange Zero Zero Zero One = refl
merge_exchange Zero Zero Zero Corrupt = refl
merge_exchange Zero Zero One Zero = refl
merge_exchange Zero Zero One One = refl
merge_exchange Zero Zero One Corrupt = refl
merge_exchange Zero Zero Corrupt Zero = refl
merge_exchange Zero Zero Corrupt One = refl
merge_exchange Zero Zero Corrupt Corrupt = refl
merge_exchange Zero One Zero Zero = refl
merge_exchange Zero One Zero One = refl
merge_exchange Zero One Zero Corrupt = refl
merge_exchange Zero One One d = refl
merge_exchange Zero One Corrupt d = refl
merge_exchange Zero Corrupt Zero Zero = refl
merge_exchange Zero Corrupt Zero One = refl
merge_exchange Zero Corrupt Zero Corrupt = refl
merge_exchange Zero Corrupt One d = refl
merge_exchange Zero Corrupt Corrupt d = refl
merge_exchange One Zero Zero d = refl
merge_exchange One Zero One Zero = refl
merge_exchange One Zero One One = refl
merge_exchange One Zero One Corrupt = refl
merge_exchange One Zero Corrupt d = refl
merge_exchange One One Zero Zero = refl
merge_exchange One One Zero One = refl
merge_exchange One One Zero Corrupt = refl
merge_exchange One One One Zero = refl
merge_exchange One One One One = refl
merge_exchange One One One Corrupt = refl
merge_exchange One One Corrupt Zero = refl
merge_exchange One One Corrupt One = refl
merge_exchange One One Corrupt Corrupt = refl
merge_exchange One Corrupt Zero d = refl
merge_exchange One Corrupt One Zero = refl
merge_exchange One Corrupt One One = refl
merge_exchange One Corrupt One Corrupt = refl
merge_exchange One Corrupt Corrupt d = refl
merge_exchange Corrupt b c d = refl

pick_exchange : (u v a b c d : Val) → pick_of u (pick_of v a b) (pick_of v c d) ≡ pick_of v (pick_of u a c) (pick_of u b d)
pick_exchange Zero v a b c d = refl
pick_exchange One v a b c d = refl
pick_exchange Corrupt Zero a b c d = refl
pick_exchange Corrupt One a b c d = refl
pick_exchange Corrupt Corrupt a b c d = merge_exchange a b c d

pick_two : (u a b c d : Val) → a ≡ c → b ≡ d → pick_of u a b ≡ pick_of u c d
pick_two u a b c d p q = ap (λ x. pick_of u x b) p ∙ ap (pick_of u c) q

merge_same : (vs : List Val) (g h : List Bool → Val) → ((r : List Bool) → g r ≡ h r) → merge_over vs g ≡ merge_over vs h
merge_same [] g h e = e []
merge_same (v ∷ vs) g h e =
    pick_two v _ _ _ _
    (merge_same vs (λ r. g (false ∷ r)) (λ r. h (false ∷ r)) (λ r. e (false ∷ r)))
    (merge_same vs (λ r. g (true ∷ r)) (λ r. h (true ∷ r)) (λ r. e (true ∷ r)))

-- a value among others picks between the merges where it is 0 and where it is 1
merge_split : (fixed vs : List Val) (v : Val) (g : List Bool → Val) → merge_over (fixed ++ v ∷ vs) g ≡ pick_of v (merge_over (fixed ++ Zero ∷ vs) g) (merge_over (fixed ++ One ∷ vs) g)
merge_split [] vs v g = refl
merge_split (u ∷ us) vs v g =
    pick_two u _ _ _ _ (merge_split us vs v (λ r. g (false ∷ r))) (merge_split us vs v (λ r. g (true ∷ r)))
    ∙ pick_exchange u v
    (merge_over (us ++ Zero ∷ vs) (λ r. g (false ∷ r))) (merge_over (us ++ One ∷ vs) (λ r. g (false ∷ r)))
    (merge_over (us ++ Zero ∷ vs) (λ r. g (true ∷ r))) (merge_over (us ++ One ∷ vs) (λ r. g (true ∷ r)))

-- a value at a place that does not matter
merge_blind : (fixed vs : List Val) (v : Val) (g : List Bool → Val) → ((front back : List Bool) → length front ≡ length fixed → g (front ++ false ∷ back) ≡ g (front ++ true ∷ back)) → merge_over (fixed ++ v ∷ vs) g ≡ merge_over (fixed ++ Zero ∷ vs) g
merge_blind [] vs v g h =
    ap (pick_of v (merge_over vs (λ r. g (false ∷ r)))) (sym (merge_same vs (λ r. g (false ∷ r)) (λ r. g (true ∷ r)) (λ r. h [] r refl)))
    ∙ pick_same v (merge_over vs (λ r. g (false ∷ r)))
merge_blind (u ∷ us) vs v g h =
    pick_two u _ _ _ _
    (merge_blind us vs v (λ r. g (false ∷ r)) (λ front back e. h (false ∷ front) back (ap suc e)))
    (merge_blind us vs v (λ r. g (true ∷ r)) (λ front back e. h (true ∷ front) back (ap suc e)))

-- bits that differ at one place alone
flip_at : (front back : List Bool) (k i : ℕ) → k ≡ length front → i ≢ k → slice_index_or (front ++ false ∷ back) i false ≡ slice_index_or (front ++ true ∷ back) i false
flip_at [] back k zero e n = absurd (n (sym e))
flip_at [] back k (suc i) e n = refl
flip_at (b ∷ front) back k zero e n = refl
flip_at (b ∷ front) back k (suc i) e n = flip_at front back (length front) i refl (λ p. n (ap suc p ∙ sym e))

-- a function does not see a pin that it does not name
unseen : (e : Expr) (front back : List Bool) (k : ℕ) → k ≡ length front → is_among (pins_of e) k ≡ false → holds e (front ++ false ∷ back) ≡ holds e (front ++ true ∷ back)
unseen e front back k at none =
    same_value (formula e) _ _ (λ i h. flip_at front back k i at (λ p. false≢true (sym none ∙ ap (is_among (pins_of e)) (sym p) ∙ h)))

-- one more value is fixed
fixed_more : (fixed vs : List Val) (v : Val) → with_fixed (fixed ++ v ∷ []) vs ≡ fixed ++ v ∷ drop (length fixed + 1) vs
fixed_more fixed vs v =
    ap (λ n. (fixed ++ v ∷ []) ++ drop n vs) (length_push fixed v) ∙ append_assoc fixed (v ∷ []) (drop (length fixed + 1) vs)

next_free : (fixed vs : List Val) → length fixed < length vs → with_fixed fixed vs ≡ fixed ++ get_or vs (length fixed) Corrupt ∷ drop (length fixed + 1) vs
next_free fixed vs h = ap (λ xs. fixed ++ xs) (drop_more vs (length fixed) Corrupt h)

pub exact_split : (f : List Bool → Bool) (fixed vs : List Val) → length fixed < length vs → exact_extension f (with_fixed fixed vs) ≡ pick_of (get_or vs (length fixed) Corrupt) (exact_extension f (with_fixed (fixed ++ Zero ∷ []) vs)) (exact_extension f (with_fixed (fixed ++ One ∷ []) vs))
exact_split f fixed vs h =
    ap (exact_extension f) (next_free fixed vs h)
    ∙ merge_split fixed (drop (length fixed + 1) vs) (get_or vs (length fixed) Corrupt) (λ r. known_of (f r))
    ∙ pick_two (get_or vs (length fixed) Corrupt) _ _ _ _
    (ap (exact_extension f) (sym (fixed_more fixed vs Zero)))
    (ap (exact_extension f) (sym (fixed_more fixed vs One)))

pub exact_blind : (e : Expr) (fixed more vs : List Val) → more ≡ fixed ++ Zero ∷ [] → length fixed < length vs → is_among (pins_of e) (length fixed) ≡ false → exact_extension (holds e) (with_fixed more vs) ≡ exact_extension (holds e) (with_fixed fixed vs)
exact_blind e fixed more vs is h none =
    ap (exact_extension (holds e)) (ap (λ xs. with_fixed xs vs) is ∙ fixed_more fixed vs Zero)
    ∙ sym (merge_blind fixed (drop (length fixed + 1) vs) (get_or vs (length fixed) Corrupt) (λ r. known_of (holds e r)) (λ front back n. ap known_of (unseen e front back (length fixed) (sym n) none)))
    ∙ ap (exact_extension (holds e)) (sym (next_free fixed vs h))

pub exact_step : (g0 g1 g2 g3 : List Node) (pins : List Rail) (fixed : List Val) (f : List Bool → Bool) (k : ℕ) (x y r pin : Rail) → k ≡ length fixed → k < length pins → pin ≡ get_or pins k pin → All (IsRail g0) pins → GivesRail g0 g1 (λ v. exact_extension f (with_fixed (fixed ++ Zero ∷ []) (rails_in v g0 pins))) x → GivesRail g1 g2 (λ v. exact_extension f (with_fixed (fixed ++ One ∷ []) (rails_in v g1 pins))) y → GivesRail g2 g3 (λ v. pick_of (rail_in v g2 pin) (rail_in v g2 x) (rail_in v g2 y)) r → GivesRail g0 g3 (λ v. exact_extension f (with_fixed fixed (rails_in v g0 pins))) r
exact_step g0 g1 g2 g3 pins fixed f k x y r pin at h is ho p q s =
    let g02 = grows_on g0 g1 g2 p.grows q.grows in
    record {
      grows = grows_on g0 g2 g3 g02 s.grows;
      is_rail = s.is_rail;
      value = λ v.
          let vs = rails_in v g0 pins in
          let lt : length fixed < length vs = omega (arith, length-map pins (rail_in v g0)) in
          let control : rail_in v g2 pin ≡ get_or vs (length fixed) Corrupt =
          rail_same g0 g2 pin g02 (rail_at g0 pins k pin ho h is) v ∙ ap (rail_in v g0) is ∙ sym (get_or-map (rail_in v g0) pins k pin Corrupt h) ∙ ap (λ n. get_or vs n Corrupt) at in
          let first = rail_same g1 g2 x q.grows p.is_rail v ∙ p.value v in
          let second = q.value v ∙ ap (λ xs. exact_extension f (with_fixed (fixed ++ One ∷ []) xs)) (rails_same g0 g1 pins p.grows ho v) in
          s.value v
          ∙ ap (λ c. pick_of c (rail_in v g2 x) (rail_in v g2 y)) control
          ∙ pick_two (get_or vs (length fixed) Corrupt) _ _ _ _ first second
          ∙ sym (exact_split f fixed vs lt);
    }

-- a front of a list is one of what the list is a front of
pub front_more : (old fixed more : List Val) → take (length old) fixed ≡ old → take (length old) (fixed ++ more) ≡ old
front_more old fixed more h =
    let n = length old in
    let split : fixed ≡ old ++ drop n fixed = sym (take-append-drop n fixed) ∙ ap (λ xs. xs ++ drop n fixed) h in
    ap (λ xs. take n (xs ++ more)) split ∙ ap (take n) (append_assoc old (drop n fixed) more) ∙ take_at old (drop n fixed ++ more) n refl

pub front_on : (old fixed new : List Val) → take (length old) fixed ≡ old → take (length fixed) new ≡ fixed → take (length old) new ≡ old
front_on old fixed new h k =
    let n = length fixed in
    let split : new ≡ fixed ++ drop n new = sym (take-append-drop n new) ∙ ap (λ xs. xs ++ drop n new) k in
    ap (take (length old)) split ∙ front_more old fixed (drop n new) h

pub front_of_push : (fixed pushed : List Val) (x : Val) → pushed ≡ fixed ++ x ∷ [] → take (length fixed) pushed ≡ fixed
front_of_push fixed pushed x is = ap (take (length fixed)) is ∙ take_at fixed (x ∷ []) (length fixed) refl

pub front_short : (old fixed : List Val) → take (length old) fixed ≡ old → length old ≤ length fixed
front_short old fixed h = let n = sym (ap length h) ∙ length-take (length old) fixed in omega arith

-- a value is pushed and what is put behind it is cut off with it
pub cut_back : (fixed pushed more cut : List Val) (x : Val) (n : ℕ) → n ≡ length fixed → pushed ≡ fixed ++ x ∷ [] → take (length pushed) more ≡ pushed → cut ≡ take n more → cut ≡ fixed
cut_back fixed pushed more cut x n at is front c =
    c ∙ ap (λ k. take k more) at
    ∙ front_on fixed pushed more (front_of_push fixed pushed x is) front

-- what holds after a pass over pins that the function does not name
pub record IsPassed (e : Expr) (count : ℕ) (old new : List Val) : Type 0 where
  pub fits : length new ≤ count
  pub front : take (length old) new ≡ old
  pub same : (values : List Val) → length values ≡ count → exact_extension (holds e) (with_fixed new values) ≡ exact_extension (holds e) (with_fixed old values)

pub passed_none : (e : Expr) (count : ℕ) (fixed : List Val) → length fixed ≤ count → IsPassed e count fixed fixed
passed_none e count fixed h = record { fits = h; front = take_all (length fixed) fixed (omega arith); same = λ values n. refl }

pub passed_more : (e : Expr) (count : ℕ) (old fixed new : List Val) → IsPassed e count old fixed → new ≡ fixed ++ Zero ∷ [] → length fixed < count → is_among (pins_of e) (length fixed) ≡ false → IsPassed e count old new
passed_more e count old fixed new p is lt none = record {
  fits = let n = ap length is ∙ length_push fixed Zero in omega arith;
  front = ap (take (length old)) is ∙ front_more old fixed (Zero ∷ []) p.front;
  same = λ values n. exact_blind e fixed new values is (omega arith) none ∙ p.same values n;
}

-- all pins are fixed
pub exact_leaf : (e : Expr) (nodes : List Node) (pins : List Rail) (old fixed : List Val) (r : Rail) → ((values : List Val) → length values ≡ length pins → exact_extension (holds e) (with_fixed fixed values) ≡ exact_extension (holds e) (with_fixed old values)) → length fixed ≡ length pins → IsRail nodes r → ((v : ℕ → Bool) → rail_in v nodes r ≡ exact_extension (holds e) fixed) → GivesRail nodes nodes (λ v. exact_extension (holds e) (with_fixed old (rails_in v nodes pins))) r
exact_leaf e nodes pins old fixed r same all is_rail value = record {
  grows = grows_not nodes;
  is_rail = is_rail;
  value = λ v.
      let n = length-map pins (rail_in v nodes) in
      let none : drop (length fixed) (rails_in v nodes pins) ≡ [] = drop_all (length fixed) (rails_in v nodes pins) (omega arith) in
      let filled : with_fixed fixed (rails_in v nodes pins) ≡ fixed = ap (λ xs. fixed ++ xs) none ∙ append-nil fixed in
      value v ∙ ap (exact_extension (holds e)) (sym filled) ∙ same (rails_in v nodes pins) n;
}

-- what is passed before a pick does not count
pub exact_passed : (e : Expr) (g0 g1 : List Node) (pins : List Rail) (old fixed : List Val) (r : Rail) → ((values : List Val) → length values ≡ length pins → exact_extension (holds e) (with_fixed fixed values) ≡ exact_extension (holds e) (with_fixed old values)) → GivesRail g0 g1 (λ v. exact_extension (holds e) (with_fixed fixed (rails_in v g0 pins))) r → GivesRail g0 g1 (λ v. exact_extension (holds e) (with_fixed old (rails_in v g0 pins))) r
exact_passed e g0 g1 pins old fixed r same = gives_as g0 g1 _ _ r (λ v. same (rails_in v g0 pins) (length-map pins (rail_in v g0)))
