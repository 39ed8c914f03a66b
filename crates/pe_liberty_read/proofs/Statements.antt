-- What one statement more adds to what stands in a group.
use Rattle.std.proofs.Common.{◌≡◌, ℕ, ◌+◌, ◌<◌, List, [], ◌∷◌, ◌++◌, length, take, get_or, refl, ap, sym, ◌∙◌, append-nil}
use Rattle.std.proofs.lemmas.List.{map_more}
use Rattle.std.specs.Prelude.{map}
use Rattle.pe_grammar.specs.Derivation.{Derivation, derivation, repeated, done, pair, right}
use Rattle.pe_grammar.specs.declared.tree.Tree.{Tree}
use Rattle.pe_grammar.proofs.Lists.{each_value}
use Rattle.pe_text.specs.declared.token.Token.{Token}
use Rattle.pe_liberty_read.specs.Meaning.{names_of, statement_of, statements_of, meaning_of, body_of, braced_of}
use Rattle.pe_liberty_read.specs.Contents.{attrs_among, groups_among, contents_of, with_statement}
use Rattle.pe_liberty_read.specs.declared.statement.Contents.{Contents}
use Rattle.pe_liberty_read.specs.declared.statement.Statement.{Statement}
use Rattle.pe_liberty_read.specs.declared.statement.Statement.TheVariants as statement
use Rattle.pe_liberty_read.specs.declared.tree.Attr.{Attr}
use Rattle.pe_liberty_read.specs.declared.tree.Group.{Group}

attrs-append : (ss ts : List Statement) → attrs_among (ss ++ ts) ≡ attrs_among ss ++ attrs_among ts
attrs-append [] ts = refl
attrs-append (statement.Attribute a ∷ ss) ts = ap (λ xs. a ∷ xs) (attrs-append ss ts)
attrs-append (statement.Group g ∷ ss) ts = attrs-append ss ts

groups-append : (ss ts : List Statement) → groups_among (ss ++ ts) ≡ groups_among ss ++ groups_among ts
groups-append [] ts = refl
groups-append (statement.Attribute a ∷ ss) ts = groups-append ss ts
groups-append (statement.Group g ∷ ss) ts = ap (λ xs. g ∷ xs) (groups-append ss ts)

same_contents : (attrs attrs' : List Attr) (groups groups' : List Group) → attrs ≡ attrs' → groups ≡ groups' →
    ◌≡◌ {A = Contents} (record { attrs = attrs; groups = groups }) (record { attrs = attrs'; groups = groups' })
same_contents attrs attrs' groups groups' p q = cc

pub contents-append : (ss : List Statement) (s : Statement) → contents_of (ss ++ s ∷ []) ≡ with_statement (contents_of ss) s
contents-append ss (statement.Attribute a) = same_contents _ _ _ _ (attrs-append ss (statement.Attribute a ∷ [])) (groups-append ss (statement.Attribute a ∷ []) ∙ append-nil (groups_among ss))
contents-append ss (statement.Group g) = same_contents _ _ _ _ (attrs-append ss (statement.Group g ∷ []) ∙ append-nil (attrs_among ss)) (groups-append ss (statement.Group g ∷ []))

-- one statement more of those that are repeated
pub contents_step : (f : Tree → Statement) (ts : List Tree) (i : ℕ) (x : Tree) (old new : Contents) (s : Statement) → i < length ts → x ≡ get_or ts i x
    → old ≡ contents_of (map f (take i ts)) → s ≡ f x → new ≡ with_statement old s → new ≡ contents_of (map f (take (i + 1) ts))
contents_step f ts i x old new s h e p q r =
    r
    ∙ ap (λ c. with_statement c s) p
    ∙ ap (λ t. with_statement (contents_of (map f (take i ts))) t) (q ∙ ap f e)
    ∙ sym (contents-append (map f (take i ts)) (f (get_or ts i x)))
    ∙ sym (ap contents_of (map_more f ts i x h))

-- what stands in braces is what is repeated there
pub braced_shape : (text : List ℕ) (tokens : List Token) (d b r l e : Derivation) (ts us : List Tree) (contents : Contents)
    → d ≡ pair b r → r ≡ pair l e → l ≡ repeated (map derivation ts) done → us ≡ ts → contents ≡ contents_of (map (λ t. statement_of text tokens (derivation t)) us)
    → contents ≡ contents_of (braced_of text tokens d)
braced_shape text tokens d b r l e ts us contents p q s u v =
    let f = λ (t : Tree). statement_of text tokens (derivation t) in
    let whole : d ≡ pair b (pair l e) = cc in
    v
    ∙ ap (λ xs. contents_of (map f xs)) u
    ∙ sym (ap contents_of (each_value (statement_of text tokens) (statements_of text tokens) refl (λ x y. refl) ts))
    ∙ ap (λ x. contents_of (statements_of text tokens x)) (sym s)
    ∙ sym (ap (λ x. contents_of (braced_of text tokens x)) whole)

-- behind the arguments stands the body
pub complex_shape : (text : List ℕ) (tokens : List Token) (n : ℕ) (d o r a q k b : Derivation) (arguments : List (List ℕ))
    → d ≡ pair o r → r ≡ pair a q → q ≡ pair k b → arguments ≡ names_of text tokens a → body_of text tokens n arguments b ≡ meaning_of text tokens n (right d)
complex_shape text tokens n d o r a q k b arguments p s u v =
    let whole : d ≡ pair o (pair a (pair k b)) = cc in
    ap (λ ns. body_of text tokens n ns b) v ∙ sym (ap (λ x. meaning_of text tokens n (right x)) whole)
