-- The tree that a derivation is.
use Rattle.std.specs.Prelude.{ℕ, List, [], ◌∷◌}
use Rattle.pe_grammar.specs.Derivation.{Derivation, leaf, pair, left, right, more}
use Rattle.pe_reader.specs.Places.{start_of}
use Rattle.pe_reader.specs.Words.{word_at}
use Rattle.pe_text.specs.declared.token.Token.{Token}
use Rattle.pe_liberty_read.specs.Contents.{contents_of}
use Rattle.pe_liberty_read.specs.declared.tree.Attr.{Attr}
use Rattle.pe_liberty_read.specs.declared.tree.Group.{Group, roll-Group}
use Rattle.pe_liberty_read.specs.declared.statement.Contents.{Contents}
use Rattle.pe_liberty_read.specs.declared.statement.Statement.{Statement}
use Rattle.pe_liberty_read.specs.declared.statement.Statement.TheVariants as statement

-- the number of the token of a word or a quoted text; behind a comma that may stand before one
abbrev pub number_of : Derivation → ℕ
number_of (leaf t) = t.place
number_of (left d) = number_of d
number_of (right d) = number_of d
number_of (pair d e) = number_of e
number_of _ = 0

abbrev pub name_of : List ℕ → List Token → Derivation → List ℕ
name_of text tokens d = word_at text tokens (number_of d)

abbrev pub each_name : List ℕ → List Token → Derivation → List (List ℕ)
each_name text tokens (more d e) = name_of text tokens d ∷ each_name text tokens e
each_name text tokens _ = []

-- the values of a list, and the arguments between parentheses
abbrev pub names_of : List ℕ → List Token → Derivation → List (List ℕ)
names_of text tokens (pair first rest) = name_of text tokens first ∷ each_name text tokens rest
names_of text tokens (left d) = names_of text tokens d
names_of text tokens _ = []

-- the attribute whose first word is the token n
abbrev pub attr_with : List ℕ → List Token → ℕ → List (List ℕ) → Attr
attr_with text tokens n values = record { name = word_at text tokens n; values = values; place = start_of text tokens n }

-- the group whose first word is the token n
abbrev pub group_with : List ℕ → List Token → ℕ → List (List ℕ) → Contents → Group
group_with text tokens n args contents =
    roll-Group (record { kind = word_at text tokens n; args = args; attrs = contents.attrs; groups = contents.groups; place = start_of text tokens n })

abbrev mutual
  pub statement_of : List ℕ → List Token → Derivation → Statement
  statement_of text tokens (pair name meaning) = meaning_of text tokens (number_of name) meaning
  statement_of text tokens _ = statement.Attribute (attr_with text tokens 0 [])

  -- behind the first word: `: VALUES`, or `(ARGUMENTS)` and what follows it
  pub meaning_of : List ℕ → List Token → ℕ → Derivation → Statement
  meaning_of text tokens n (left (pair colon (pair values stop))) = statement.Attribute (attr_with text tokens n (names_of text tokens values))
  meaning_of text tokens n (right (pair opening (pair arguments (pair close body)))) = body_of text tokens n (names_of text tokens arguments) body
  meaning_of text tokens n _ = statement.Attribute (attr_with text tokens n [])

  -- behind the arguments: what stands in braces, or nothing
  pub body_of : List ℕ → List Token → ℕ → List (List ℕ) → Derivation → Statement
  body_of text tokens n arguments (left d) = statement.Group (group_with text tokens n arguments (contents_of (braced_of text tokens d)))
  body_of text tokens n arguments _ = statement.Attribute (attr_with text tokens n arguments)

  -- what stands in braces
  pub braced_of : List ℕ → List Token → Derivation → List Statement
  braced_of text tokens (pair begin (pair all rest)) = statements_of text tokens all
  braced_of text tokens _ = []

  pub statements_of : List ℕ → List Token → Derivation → List Statement
  statements_of text tokens (more d e) = statement_of text tokens d ∷ statements_of text tokens e
  statements_of text tokens _ = []

-- the group that a derivation of the whole grammar is
abbrev pub group_of : List ℕ → List Token → Derivation → Group
group_of text tokens (pair library (pair opening (pair arguments (pair close braced)))) =
    group_with text tokens (number_of library) (names_of text tokens arguments) (contents_of (braced_of text tokens braced))
group_of text tokens _ = group_with text tokens 0 [] (contents_of [])
