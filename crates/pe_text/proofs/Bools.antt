-- Tests joined by and, or and not.
use Rattle.std.proofs.Common.{◌≡◌, ◌⊎◌, Bool, true, false, not, ◌&&◌, ◌||◌, refl, sym, ◌∙◌, inl, inr}

pub both : (a b : Bool) → (a && b) ≡ true → (a ≡ true) × (b ≡ true)
both true b e = (refl, e)
both false b e = absurd (let x : false ≡ true = e in cc)

pub and_true : (a b : Bool) → a ≡ true → b ≡ true → (a && b) ≡ true
and_true true b e f = f
and_true false b e f = absurd (let x : false ≡ true = e in cc)

pub or_left : (a b : Bool) → a ≡ true → (a || b) ≡ true
or_left true b e = refl
or_left false b e = absurd (let x : false ≡ true = e in cc)

pub or_right : (a b : Bool) → b ≡ true → (a || b) ≡ true
or_right true b e = refl
or_right false b e = e

-- the one or the other
pub or_cases : (a b : Bool) → (a || b) ≡ true → (a ≡ true) ⊎ (b ≡ true)
or_cases true b e = inl refl
or_cases false b e = inr e

pub clash : {A : Type 0} (b : Bool) → b ≡ true → b ≡ false → A
clash b e f = absurd (let x : true ≡ false = sym e ∙ f in cc)

pub negated : (v : Bool) → not v ≡ true → v ≡ false
negated true e = absurd (let x : false ≡ true = e in cc)
negated false e = refl
