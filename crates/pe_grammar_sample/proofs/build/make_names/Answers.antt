use Rattle.std.proofs.Common.{◌≡◌, List, [], ◌∷◌, ◌++◌, ap, sym, ◌∙◌}
use Rattle.std.specs.Prelude.{map}
use Rattle.std.proofs.lemmas.List.{take_all}
use Rattle.pe_grammar.specs.Derivation.{Derivation, derivation, repeated, done, leaf, pair}
use Rattle.pe_grammar.specs.Lists.{second_part}
use Rattle.pe_grammar.specs.declared.terminal.Token.{Token}
use Rattle.pe_grammar.specs.declared.tree.Tree.{Tree}
use Rattle.pe_grammar.proofs.Lists.{list_values}
use Rattle.pe_grammar_sample.specs.Meaning.{name_of, names_of}
use Rattle.pe_grammar_sample.proofs.build.make_names.Goals as goal

abbrev next_name : Tree → Token
next_name t = name_of (second_part (derivation t))

names_shape : (d first : Derivation) (t : Token) (ts us : List Tree) (none start names : List Token) → d ≡ pair first (repeated (map derivation ts) done) → first ≡ leaf t →
    none ≡ [] → start ≡ none ++ t ∷ [] → us ≡ ts → names ≡ start ++ map next_name us → names ≡ names_of d
names_shape d first t ts us none start names p q n r u v =
    let begun : start ≡ t ∷ [] = r ∙ ap (λ xs. xs ++ t ∷ []) n in
    v
    ∙ ap (λ xs. xs ++ map next_name us) begun
    ∙ ap (λ xs. t ∷ map next_name xs) u
    ∙ ap (λ x. x ∷ map next_name ts) (sym (ap name_of q))
    ∙ sym (list_values name_of d first ts p)

pub returns : goal.returns
returns c = names_shape _ _ _ _ _ _ _ _ c.listed.ensures.is c.token.ensures c.new-names.ensures c.in_ok-push.ensures.ok (take_all _ _ c.loop-next-test.false) c.loop-next.invariant
