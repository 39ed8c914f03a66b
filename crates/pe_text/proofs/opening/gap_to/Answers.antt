use Rattle.std.proofs.Common.{◌≡◌, ◌<◌, ℕ, List, [], ◌∷◌, length, refl, sym, ◌∙◌, arith}
use Rattle.pe_text.specs.Start.{bad, gap_to}
use Rattle.pe_text.proofs.opening.gap_to.Goals as goal

-- in fewer than two bytes the two do not stand
short : (x y : ℕ) (text : List ℕ) → length text < 2 → gap_to x y text ≡ bad
short x y [] h = refl
short x y (a ∷ []) h = refl
short x y (a ∷ b ∷ bs) h = absurd (omega (arith, h))

pub returns : goal.returns
returns c = sym (short c.args.x c.args.y c.loop-rest.rest.now c.in_default.len_below) ∙ c.loop-rest.invariant
