-- From what is repeated to a list of values.
use Rattle.std.proofs.Common.{◌≡◌, List, [], ◌∷◌, refl, ap, ◌∙◌}
use Rattle.std.specs.Prelude.{map}
use Rattle.pe_grammar.specs.declared.tree.Tree.{Tree}
use Rattle.pe_grammar.specs.Derivation.{Derivation, derivation, repeated, done, more, pair}
use Rattle.pe_grammar.specs.Lists.{second_part, seconds, listed}

-- what a function on repetitions gives, where it takes one part after the other
pub each_value : {A : Type 0} (one : Derivation → A) (many : Derivation → List A) → many done ≡ [] → ((d e : Derivation) → many (more d e) ≡ one d ∷ many e) →
    (ts : List Tree) → many (repeated (map derivation ts) done) ≡ map (λ t. one (derivation t)) ts
each_value one many nil cons [] = nil
each_value one many nil cons (t ∷ ts) = cons (derivation t) (repeated (map derivation ts) done) ∙ ap (λ vs. one (derivation t) ∷ vs) (each_value one many nil cons ts)

-- the values of a list's parts: of the first, and of those after the separators
pub list_values : {A : Type 0} (value : Derivation → A) (d first : Derivation) (ts : List Tree) → d ≡ pair first (repeated (map derivation ts) done) →
    map value (listed d) ≡ value first ∷ map (λ t. value (second_part (derivation t))) ts
list_values value d first ts e =
    ap (λ v. map value (listed v)) e
    ∙ ap (λ vs. value first ∷ vs)
    (each_value (λ v. value (second_part v)) (λ v. map value (seconds v)) refl (λ v w. refl) ts)
