-- The trees of derivations, from the trees of their parts.
use Rattle.std.proofs.Common.{◌≡◌, ℕ, suc, ◌%◌, List, [], ◌∷◌, ◌++◌, length, sym, refl, ap, ◌∙◌}
use Rattle.std.specs.Prelude.{map}
use Rattle.pe_grammar.specs.declared.tree.Tree.{Tree}
use Rattle.pe_grammar.specs.Derivation.{Derivation, derivation, repeated, done, pair, right}
use Rattle.pe_grammar.proofs.Lists.{each_value}
use Rattle.pe_bool_expr.specs.declared.expr.Expr.{Expr}
use Rattle.pe_bool_expr.specs.declared.style.Operator.{Operator}
use Rattle.pe_bool_expr.specs.Meaning.{level_of, operand_of, operands_of, operands_in, behind_operator, negated, count_of}

-- how many are repeated
pub count_repeated : (ts : List Tree) → count_of (repeated (map derivation ts) done) ≡ length ts
count_repeated [] = refl
count_repeated (t ∷ ts) = ap suc (count_repeated ts)

-- an operand behind its marks
pub marked_shape : (all : List Operator) (pins : List ℕ) (d marks e : Derivation) (ts : List Tree) (operand whole : Expr) →
    d ≡ pair marks e → marks ≡ repeated (map derivation ts) done → operand ≡ operand_of all pins e → whole ≡ negated (length ts) operand → whole ≡ level_of all pins [] d
marked_shape all pins d marks e ts operand whole p q r s =
    s ∙ ap (negated (length ts)) r ∙ ap (λ n. negated n (operand_of all pins e)) (sym (count_repeated ts) ∙ ap count_of (sym q)) ∙ ap (level_of all pins []) (sym p)

-- an operand before its marks
pub primed_shape : (all : List Operator) (pins : List ℕ) (d e marks : Derivation) (ts : List Tree) (operand whole : Expr) →
    d ≡ pair e marks → marks ≡ repeated (map derivation ts) done → operand ≡ operand_of all pins e → whole ≡ negated (length ts % 2) operand → whole ≡ operand_of all pins d
primed_shape all pins d e marks ts operand whole p q r s =
    s ∙ ap (negated (length ts % 2)) r ∙ ap (λ n. negated (n % 2) (operand_of all pins e)) (sym (count_repeated ts) ∙ ap count_of (sym q)) ∙ ap (operand_of all pins) (sym p)

-- what stands in parentheses
pub bracketed_shape : (all : List Operator) (pins : List ℕ) (d e f g before rest inner behind : Derivation) (whole : Expr) →
    d ≡ right e → e ≡ right f → f ≡ right g → g ≡ pair before rest → rest ≡ pair inner behind → whole ≡ level_of all pins all inner → whole ≡ operand_of all pins d
bracketed_shape all pins d e f g before rest inner behind whole p q r s t u =
    let shape : d ≡ right (right (right (pair before (pair inner behind)))) = cc in
    u ∙ ap (operand_of all pins) (sym shape)

-- the operands of a level, first the first
pub operands_shape : (all : List Operator) (pins : List ℕ) (ops : List Operator) (d first : Derivation) (ts us : List Tree) (none start es : List Expr) (e : Expr) →
    d ≡ pair first (repeated (map derivation ts) done) → e ≡ level_of all pins ops first → none ≡ [] → start ≡ none ++ e ∷ [] → us ≡ ts →
    es ≡ start ++ map (λ t. behind_operator all pins ops (derivation t)) us → es ≡ operands_in all pins ops d
operands_shape all pins ops d first ts us none start es e p q n r u v =
    let begun : start ≡ e ∷ [] = r ∙ ap (λ xs. xs ++ e ∷ []) n in
    v
    ∙ ap (λ xs. xs ++ map (λ t. behind_operator all pins ops (derivation t)) us) begun
    ∙ ap (λ xs. e ∷ map (λ t. behind_operator all pins ops (derivation t)) xs) u
    ∙ ap (λ x. x ∷ map (λ t. behind_operator all pins ops (derivation t)) ts) q
    ∙ ap (λ xs. level_of all pins ops first ∷ xs) (sym (each_value (behind_operator all pins ops) (operands_of all pins ops) refl (λ x y. refl) ts))
    ∙ ap (operands_in all pins ops) (sym p)
