-- What a group of a library says, by the names of its attributes and groups. Of several attributes of one name the first
-- counts, and of several values the first.
use Rattle.std.specs.Prelude.{ℕ, Bool, List, [], ◌∷◌, Option, Some, None, is_some, codes, ◌&&◌, find}
use Rattle.std.specs.Str.{bytes_eq}
use Rattle.pe_liberty_read.specs.declared.tree.Attr.{Attr}
use Rattle.pe_liberty_read.specs.declared.tree.Group.{Group, out-Group}

abbrev pub is_called : List ℕ → Attr → Bool
is_called name a = bytes_eq a.name name

-- the first attribute of the name
abbrev pub attr_in : Group → List ℕ → Option Attr
attr_in g name = find (is_called name) (out-Group g).attrs

abbrev pub has_attr : Group → List ℕ → Bool
has_attr g name = is_some (attr_in g name)

-- the first of some values, and the empty text where there is none
abbrev pub first_of : List (List ℕ) → List ℕ
first_of [] = []
first_of (value ∷ values) = value

abbrev pub text_at : Option Attr → List ℕ
text_at None = []
text_at (Some a) = first_of a.values

-- what the attribute of the name says, and the empty text where it says nothing
abbrev pub text_in : Group → List ℕ → List ℕ
text_in g name = text_at (attr_in g name)

abbrev pub place_at : ℕ → Option Attr → ℕ
place_at place None = place
place_at place (Some a) = a.place

-- the place of the attribute of the name, and that of the group where it is missing
abbrev pub place_in : Group → List ℕ → ℕ
place_in g name = place_at (out-Group g).place (attr_in g name)

abbrev pub is_kind : List ℕ → Group → Bool
is_kind kind g = bytes_eq (out-Group g).kind kind

-- the first cell of the name
abbrev pub is_cell : List ℕ → Group → Bool
is_cell name g = is_kind (codes "cell") g && bytes_eq (first_of (out-Group g).args) name

abbrev pub cell_in : Group → List ℕ → Option Group
cell_in library name = find (is_cell name) (out-Group library).groups
