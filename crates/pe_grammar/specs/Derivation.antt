-- A derivation, without where it lies in memory.
use Rattle.std.specs.Prelude.{◌≡◌, ℕ, List, [], ◌∷◌, ◌++◌, ◌⊎◌, Option, Some, None, Bool, true, eqb, ◌&&◌}
use Rattle.std.specs.List.{cons_option, list_any}
use Rattle.std.specs.Int.{bit_at}
use Rattle.pe_grammar.specs.declared.terminal.Token.{Token}
use Rattle.pe_grammar.specs.declared.tree.Tree.{Tree, Tree-F, fold-Tree}
use Rattle.pe_grammar.specs.declared.tree.Tree.TheOpen as layer

pub data Derivation : Type 0 where
  leaf : Token → Derivation
  nothing : Derivation
  pair : Derivation → Derivation → Derivation
  left : Derivation → Derivation
  right : Derivation → Derivation
  done : Derivation
  more : Derivation → Derivation → Derivation
  present : Token → Derivation → Derivation
  absent : ℕ → Derivation
  once : Derivation → Derivation

-- the tokens of a derivation, in order
abbrev pub text : Derivation → List Token
text (leaf t) = t ∷ []
text nothing = []
text (pair d e) = text d ++ text e
text (left d) = text d
text (right d) = text d
text done = []
text (more d e) = text d ++ text e
text (present t d) = t ∷ text d
text (absent k) = []
text (once d) = text d

-- the terminal k is in the set
abbrev pub has : ℕ → ℕ → Bool
has set k = eqb (bit_at set k) 1

-- a clause that k would begin is left out at the end of d
abbrev pub LeavesOut : Derivation → ℕ → Type 0
LeavesOut (leaf t) k = ⊥
LeavesOut nothing k = ⊥
LeavesOut (pair d e) k = LeavesOut e k ⊎ ((text e ≡ []) × LeavesOut d k)
LeavesOut (left d) k = LeavesOut d k
LeavesOut (right d) k = LeavesOut d k
LeavesOut done k = ⊥
LeavesOut (more d e) k = LeavesOut e k ⊎ ((text e ≡ []) × LeavesOut d k)
LeavesOut (present t d) k = LeavesOut d k
LeavesOut (absent set) k = has set k ≡ true
LeavesOut (once d) k = LeavesOut d k

-- the first terminal
abbrev pub front : List Token → Option ℕ
front [] = None
front (t ∷ ts) = Some t.kind

-- no clause is left out at the end of d whose word follows: each belongs to the nearest place
abbrev pub IsNear : Derivation → List Token → Type 0
IsNear d rest = (k : ℕ) → front rest ≡ Some k → LeavesOut d k → ⊥

-- these, and then what ds repeats
abbrev pub repeated : List Derivation → Derivation → Derivation
repeated [] end = end
repeated (d ∷ ds) end = more d (repeated ds end)

abbrev pub layer_of : Tree-F Derivation → Derivation
layer_of (layer.Leaf t) = leaf t
layer_of layer.Empty = nothing
layer_of (layer.Pair p) = pair p.0 p.1
layer_of (layer.Left d) = left d
layer_of (layer.Right d) = right d
layer_of (layer.Repeat ds) = repeated ds done
layer_of (layer.Present p) = present p.0 p.1
layer_of (layer.Absent k) = absent k
layer_of (layer.Once ds) = once (repeated ds done)

-- the derivation that a tree is
unfoldable pub derivation : Tree → Derivation
derivation t = fold-Tree Derivation layer_of t

-- the first terminals of what is repeated
abbrev pub heads : Derivation → List ℕ
heads (more d e) = cons_option (front (text d)) (heads e)
heads (leaf t) = []
heads nothing = []
heads (pair d e) = []
heads (left d) = []
heads (right d) = []
heads done = []
heads (present t d) = []
heads (absent k) = []
heads (once d) = []

-- k is of the set, and was used
abbrev pub taken : ℕ → List ℕ → ℕ → Bool
taken set used k = has set k && list_any (λ y. eqb y k) used

-- each of the set comes
abbrev pub HasEach : ℕ → List ℕ → Type 0
HasEach needed ks = (k : ℕ) → has needed k ≡ true → list_any (λ y. eqb y k) ks ≡ true

-- none of the set comes that is used already, or comes again
abbrev pub IsFresh : ℕ → List ℕ → List ℕ → Type 0
IsFresh set used [] = Unit {0}
IsFresh set used (k ∷ ks) = (taken set used k ≡ true → ⊥) × IsFresh set (used ++ k ∷ []) ks
