-- Tables: what the two sides of a rail come to.
use Rattle.std.proofs.Common.{◌≡◌, Bool, true, false, cond, not, ◌&&◌, ◌||◌, refl, ap, ◌∙◌}
use Rattle.pe_base.specs.declared.value.Val.{Val}
use Rattle.pe_base.specs.declared.value.Val.TheVariants.{Zero, One, Corrupt}
use Rattle.pe_base.specs.Values.{known_of, merge_of, pick_of}
use Rattle.pe_base.specs.Operators.{not_of, and_of, or_of, xor_of}
use Rattle.pe_base.specs.Words.{is_one}
use Rattle.pe_rail_ops.specs.Rails.{rail_of, side_of}

pub not_rail : (a c : Bool) → (a && c) ≡ false → rail_of c a ≡ not_of (rail_of a c)
not_rail true true h = cc
not_rail true false h = refl
not_rail false true h = refl
not_rail false false h = refl

pub swap_apart : (a c : Bool) → (a && c) ≡ false → (c && a) ≡ false
swap_apart true true h = h
swap_apart true false h = refl
swap_apart false true h = refl
swap_apart false false h = refl

pub and_rail : (a c b d : Bool) → (a && c) ≡ false → (b && d) ≡ false → rail_of (a && b) (c || d) ≡ and_of (rail_of a c) (rail_of b d)
and_rail true true b d h k = cc
and_rail a c true true h k = cc
and_rail true false true false h k = refl
and_rail true false false true h k = refl
and_rail true false false false h k = refl
and_rail false true true false h k = refl
and_rail false true false true h k = refl
and_rail false true false false h k = refl
and_rail false false true false h k = refl
and_rail false false false true h k = refl
and_rail false false false false h k = refl

pub and_apart : (a c b d : Bool) → (a && c) ≡ false → (b && d) ≡ false → ((a && b) && (c || d)) ≡ false
and_apart true true b d h k = cc
and_apart true false true true h k = cc
and_apart true false true false h k = refl
and_apart true false false d h k = refl
and_apart false c b d h k = refl

pub or_rail : (a c b d : Bool) → (a && c) ≡ false → (b && d) ≡ false → rail_of (a || b) (c && d) ≡ or_of (rail_of a c) (rail_of b d)
or_rail true true b d h k = cc
or_rail a c true true h k = cc
or_rail true false true false h k = refl
or_rail true false false true h k = refl
or_rail true false false false h k = refl
or_rail false true true false h k = refl
or_rail false true false true h k = refl
or_rail false true false false h k = refl
or_rail false false true false h k = refl
or_rail false false false true h k = refl
or_rail false false false false h k = refl

pub or_apart : (a c b d : Bool) → (a && c) ≡ false → (b && d) ≡ false → ((a || b) && (c && d)) ≡ false
or_apart true true b d h k = cc
or_apart true false b d h k = refl
or_apart false c true true h k = cc
or_apart false true true false h k = refl
or_apart false false true false h k = refl
or_apart false c false d h k = refl

pub kept_rail : (on a c : Bool) → rail_of (on && a) (on && c) ≡ cond on (rail_of a c) Corrupt
kept_rail true a c = refl
kept_rail false a c = refl

pub kept_apart : (on a c : Bool) → (a && c) ≡ false → ((on && a) && (on && c)) ≡ false
kept_apart true a c h = h
kept_apart false a c h = refl

pub known_rail : (a : Bool) → rail_of a (not a) ≡ known_of a
known_rail true = refl
known_rail false = refl

pub known_apart : (a : Bool) → (a && not a) ≡ false
known_apart true = refl
known_apart false = refl

-- what a control picks
at_one : (x y : Bool) → side_of true false x y ≡ y
at_one true true = refl
at_one true false = refl
at_one false true = refl
at_one false false = refl

at_zero : (x y : Bool) → side_of false true x y ≡ x
at_zero true true = refl
at_zero true false = refl
at_zero false true = refl
at_zero false false = refl

at_none : (x y : Bool) → side_of false false x y ≡ (x && y)
at_none true true = refl
at_none true false = refl
at_none false true = refl
at_none false false = refl

merged : (a c b d : Bool) → (a && c) ≡ false → (b && d) ≡ false → rail_of (a && b) (c && d) ≡ merge_of (rail_of a c) (rail_of b d)
merged true true b d h k = cc
merged a c true true h k = cc
merged true false true false h k = refl
merged true false false true h k = refl
merged true false false false h k = refl
merged false true true false h k = refl
merged false true false true h k = refl
merged false true false false h k = refl
merged false false true false h k = refl
merged false false false true h k = refl
merged false false false false h k = refl

merged_apart : (a c b d : Bool) → (a && c) ≡ false → ((a && b) && (c && d)) ≡ false
merged_apart true true b d h = cc
merged_apart true false true d h = refl
merged_apart true false false d h = refl
merged_apart false c b d h = refl

pub picked : (p q a c b d : Bool) → (p && q) ≡ false → (a && c) ≡ false → (b && d) ≡ false → rail_of (side_of p q a b) (side_of p q c d) ≡ pick_of (rail_of p q) (rail_of a c) (rail_of b d)
picked true true a c b d g h k = cc
picked true false a c b d g h k = ap (λ x. rail_of x (side_of true false c d)) (at_one a b) ∙ ap (rail_of b) (at_one c d)
picked false true a c b d g h k = ap (λ x. rail_of x (side_of false true c d)) (at_zero a b) ∙ ap (rail_of a) (at_zero c d)
picked false false a c b d g h k = ap (λ x. rail_of x (side_of false false c d)) (at_none a b) ∙ ap (rail_of (a && b)) (at_none c d) ∙ merged a c b d h k

pub picked_apart : (p q a c b d : Bool) → (p && q) ≡ false → (a && c) ≡ false → (b && d) ≡ false → (side_of p q a b && side_of p q c d) ≡ false
picked_apart true true a c b d g h k = cc
picked_apart true false a c b d g h k = ap (λ x. x && side_of true false c d) (at_one a b) ∙ ap (λ y. b && y) (at_one c d) ∙ k
picked_apart false true a c b d g h k = ap (λ x. x && side_of false true c d) (at_zero a b) ∙ ap (λ y. a && y) (at_zero c d) ∙ h
picked_apart false false a c b d g h k = ap (λ x. x && side_of false false c d) (at_none a b) ∙ ap (λ y. (a && b) && y) (at_none c d) ∙ merged_apart a c b d h

pub pick-xor : (a b : Val) → pick_of a b (not_of b) ≡ xor_of a b
pick-xor Zero b = refl
pick-xor One b = refl
pick-xor Corrupt Zero = refl
pick-xor Corrupt One = refl
pick-xor Corrupt Corrupt = refl

-- a constant's sides
sides_rail : (x : Val) → rail_of (is_one x) (is_one (not_of x)) ≡ x
sides_rail Zero = refl
sides_rail One = refl
sides_rail Corrupt = refl

pub constant_rail : (x : Val) (one zero : Bool) → one ≡ is_one x → zero ≡ is_one (not_of x) → rail_of one zero ≡ x
constant_rail x one zero p q = ap (λ o. rail_of o zero) p ∙ ap (rail_of (is_one x)) q ∙ sides_rail x

pub constant_apart : (x : Val) → (is_one x && is_one (not_of x)) ≡ false
constant_apart Zero = refl
constant_apart One = refl
constant_apart Corrupt = refl
