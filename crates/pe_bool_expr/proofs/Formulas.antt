-- What formula a tree is, by its variant.
use Rattle.std.proofs.Common.{◌≡◌, ◌⊎◌, ℕ, Bool, ◌++◌, inl, inr, sym, ap, ◌∙◌}
use Rattle.pe_bool_expr.specs.declared.expr.Expr.{Expr, fold-Expr, fold-roll-Expr}
use Rattle.pe_bool_expr.specs.declared.expr.Expr.TheVariants.{Const, Pin, Not, And, Or, Xor, rolls-Const, rolls-Pin, rolls-Not, rolls-And, rolls-Or, rolls-Xor}
use Rattle.pe_bool_expr.specs.declared.expr.Expr.TheOpen as layer
use Rattle.pe_bool_expr.specs.Functions.{Formula, formula, pins, layer_of, constant, pin, complement, both, either, differ}

pub formula-Const : (b : Bool) → formula (Const b) ≡ constant b
unfolding formula
formula-Const b = ap (fold-Expr Formula layer_of) (sym (rolls-Const b)) ∙ fold-roll-Expr Formula layer_of (layer.Const b)

pub formula-Pin : (i : ℕ) → formula (Pin i) ≡ pin i
unfolding formula
formula-Pin i = ap (fold-Expr Formula layer_of) (sym (rolls-Pin i)) ∙ fold-roll-Expr Formula layer_of (layer.Pin i)

pub formula-Not : (e : Expr) → formula (Not e) ≡ complement (formula e)
unfolding formula
formula-Not e = ap (fold-Expr Formula layer_of) (sym (rolls-Not e)) ∙ fold-roll-Expr Formula layer_of (layer.Not e)

pub formula-And : (e f : Expr) → formula (And e f) ≡ both (formula e) (formula f)
unfolding formula
formula-And e f = ap (fold-Expr Formula layer_of) (sym (rolls-And e f)) ∙ fold-roll-Expr Formula layer_of (layer.And e f)

pub formula-Or : (e f : Expr) → formula (Or e f) ≡ either (formula e) (formula f)
unfolding formula
formula-Or e f = ap (fold-Expr Formula layer_of) (sym (rolls-Or e f)) ∙ fold-roll-Expr Formula layer_of (layer.Or e f)

pub formula-Xor : (e f : Expr) → formula (Xor e f) ≡ differ (formula e) (formula f)
unfolding formula
formula-Xor e f = ap (fold-Expr Formula layer_of) (sym (rolls-Xor e f)) ∙ fold-roll-Expr Formula layer_of (layer.Xor e f)

pub ruleset layers = (formula-Const, formula-Pin, formula-Not, formula-And, formula-Or, formula-Xor)

-- the pins of a tree of two, whichever its operator
pub pins-two : (e f g : Expr) → (e ≡ And f g) ⊎ ((e ≡ Or f g) ⊎ (e ≡ Xor f g)) → pins (formula e) ≡ pins (formula f) ++ pins (formula g)
pins-two e f g (inl p) = ap pins (ap formula p ∙ formula-And f g)
pins-two e f g (inr (inl p)) = ap pins (ap formula p ∙ formula-Or f g)
pins-two e f g (inr (inr p)) = ap pins (ap formula p ∙ formula-Xor f g)
