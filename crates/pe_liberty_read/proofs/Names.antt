-- From the parts of a list to its names.
use Rattle.std.proofs.Common.{◌≡◌, ℕ, List, [], ◌∷◌, ◌++◌, refl, ap, sym, ◌∙◌}
use Rattle.std.specs.Prelude.{map}
use Rattle.pe_grammar.specs.Derivation.{Derivation, derivation, repeated, done, pair}
use Rattle.pe_grammar.specs.declared.tree.Tree.{Tree}
use Rattle.pe_grammar.proofs.Lists.{each_value}
use Rattle.pe_reader.specs.Words.{word_at}
use Rattle.pe_text.specs.declared.token.Token.{Token}
use Rattle.pe_liberty_read.specs.Meaning.{number_of, name_of, each_name, names_of}

-- the name of a part
abbrev pub part_name : List ℕ → List Token → Tree → List ℕ
part_name text tokens t = name_of text tokens (derivation t)

-- the first name, and then those of the other parts
pub names_shape : (text : List ℕ) (tokens : List Token) (d first : Derivation) (number : ℕ) (ts us : List Tree) (none start all : List (List ℕ))
    → d ≡ pair first (repeated (map derivation ts) done) → number ≡ number_of first → none ≡ [] → start ≡ none ++ word_at text tokens number ∷ [] → us ≡ ts
    → all ≡ start ++ map (part_name text tokens) us → all ≡ names_of text tokens d
names_shape text tokens d first number ts us none start all p q n r u v =
    let begun : start ≡ word_at text tokens number ∷ [] = r ∙ ap (λ xs. xs ++ word_at text tokens number ∷ []) n in
    v
    ∙ ap (λ xs. xs ++ map (part_name text tokens) us) begun
    ∙ ap (λ xs. word_at text tokens number ∷ map (part_name text tokens) xs) u
    ∙ ap (λ k. word_at text tokens k ∷ map (part_name text tokens) ts) q
    ∙ ap (λ xs. name_of text tokens first ∷ xs) (sym (each_value (name_of text tokens) (each_name text tokens) refl (λ c e. refl) ts))
    ∙ sym (ap (names_of text tokens) p)
