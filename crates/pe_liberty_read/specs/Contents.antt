-- The attributes and the groups among the statements of a group.
use Rattle.std.specs.Prelude.{List, [], ◌∷◌, ◌++◌}
use Rattle.pe_liberty_read.specs.declared.tree.Attr.{Attr}
use Rattle.pe_liberty_read.specs.declared.tree.Group.{Group}
use Rattle.pe_liberty_read.specs.declared.statement.Contents.{Contents}
use Rattle.pe_liberty_read.specs.declared.statement.Statement.{Statement}
use Rattle.pe_liberty_read.specs.declared.statement.Statement.TheVariants as statement

abbrev pub attrs_among : List Statement → List Attr
attrs_among [] = []
attrs_among (statement.Attribute a ∷ ss) = a ∷ attrs_among ss
attrs_among (statement.Group g ∷ ss) = attrs_among ss

abbrev pub groups_among : List Statement → List Group
groups_among [] = []
groups_among (statement.Attribute a ∷ ss) = groups_among ss
groups_among (statement.Group g ∷ ss) = g ∷ groups_among ss

abbrev pub contents_of : List Statement → Contents
contents_of ss = record { attrs = attrs_among ss; groups = groups_among ss }

-- one statement more, behind the others
abbrev pub with_statement : Contents → Statement → Contents
with_statement c (statement.Attribute a) = record c { attrs = c.attrs ++ a ∷ [] }
with_statement c (statement.Group g) = record c { groups = c.groups ++ g ∷ [] }
