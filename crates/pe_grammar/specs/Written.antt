-- A grammar as it is written on paper, and what its derivations are.
use Rattle.std.specs.Prelude.{◌≡◌, ℕ, ◌^◌, List, [], ◌∷◌, Option, Some, slice_get, true}
use Rattle.std.specs.Int.Bits.{bit_or}
use Rattle.pe_grammar.specs.declared.form.Bounds.{Bounds}
use Rattle.pe_grammar.specs.Derivation.{Derivation, leaf, nothing, pair, left, right, done, more, present, absent, once, text, heads, IsNear, IsFresh, HasEach, has}

pub data Written : Type 0 where
  word : ℕ → Written
  rule : ℕ → Written
  empty : Written
  both : Written → Written → Written
  either : Written → Written → Written
  many : Written → Written
  -- a word of the set and what follows it, or nothing where none of the set follows
  nearest : ℕ → Written → Written
  -- many, within the bounds
  each_once : Bounds → Written → Written

-- the set of the words in the list
abbrev pub set_of : List Written → ℕ
set_of [] = 0
set_of (word k ∷ es) = bit_or (2 ^ k) (set_of es)
set_of (_ ∷ es) = set_of es

-- no two begin with one word of the first list, and one begins with each word of the second
abbrev pub bounds_of : List Written → List Written → Bounds
bounds_of es needed = record { once = set_of es; needed = set_of needed }

infixr 20 ◌·◌
abbrev pub ◌·◌ : Written → Written → Written
a · b = both a b

infixr 15 ◌∣◌
abbrev pub ◌∣◌ : Written → Written → Written
a ∣ b = either a b

-- the body of a rule
abbrev pub body : List Written → Written → Option Written
body rs (rule r) = slice_get rs r
body rs (word k) = Some (word k)
body rs empty = Some empty
body rs (both a b) = Some (both a b)
body rs (either a b) = Some (either a b)
body rs (many a) = Some (many a)
body rs (nearest k a) = Some (nearest k a)
body rs (each_once bounds a) = Some (each_once bounds a)

-- d is a derivation of e
abbrev pub IsOf : List Written → Written → Derivation → Type 0
IsOf rs e (leaf t) = body rs e ≡ Some (word t.kind)
IsOf rs e nothing = body rs e ≡ Some empty
IsOf rs e (pair c d) = (a : Written) × (b : Written) × (body rs e ≡ Some (both a b)) × IsOf rs a c × IsOf rs b d × IsNear c (text d)
IsOf rs e (left c) = (a : Written) × (b : Written) × (body rs e ≡ Some (either a b)) × IsOf rs a c
IsOf rs e (right c) = (a : Written) × (b : Written) × (body rs e ≡ Some (either a b)) × IsOf rs b c
IsOf rs e done = (a : Written) × (body rs e ≡ Some (many a))
IsOf rs e (more c d) = (a : Written) × (body rs e ≡ Some (many a)) × IsOf rs a c × IsOf rs e d × IsNear c (text d)
IsOf rs e (present t c) = (set : ℕ) × (a : Written) × (body rs e ≡ Some (nearest set a)) × (has set t.kind ≡ true) × IsOf rs a c
IsOf rs e (absent k) = (a : Written) × (body rs e ≡ Some (nearest k a))
IsOf rs e (once c) = (bounds : Bounds) × (a : Written) × (body rs e ≡ Some (each_once bounds a)) × IsOf rs (many a) c × IsFresh bounds.once [] (heads c) × HasEach bounds.needed (heads c)
