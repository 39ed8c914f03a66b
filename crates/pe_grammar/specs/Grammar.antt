-- Which texts the forms of a grammar have, and where a text that is none goes wrong.
use Rattle.std.specs.Prelude.{◌≡◌, ℕ, ◌<◌, ◌≤◌, ◌+◌, true, length, take, List, [], ◌++◌, slice_get, Option, Some, None, Result, Ok, Err}
use Rattle.pe_grammar.specs.declared.terminal.Token.{Token}
use Rattle.pe_grammar.specs.declared.failure.Failure.{Failure}
use Rattle.pe_grammar.specs.declared.failure.Failure.TheVariants as failure
use Rattle.pe_grammar.specs.declared.form.Bounds.{Bounds}
use Rattle.pe_grammar.specs.declared.form.Entry.{Entry}
use Rattle.pe_grammar.specs.declared.form.Form.{Form}
use Rattle.pe_grammar.specs.declared.form.Form.TheVariants.{Terminal, Empty, Sequence, Choice, Repeat, Clause, Once}
use Rattle.pe_grammar.specs.declared.tree.Tree.{Tree}
use Rattle.pe_grammar.specs.Derivation.{Derivation, derivation, leaf, nothing, pair, left, right, done, more, present, absent, once, text, heads, has, IsFresh, HasEach, IsNear}

abbrev pub form_in : Option Entry → Option Form
form_in None = None
form_in (Some e) = Some e.form

abbrev pub form_at : List Entry → ℕ → Option Form
form_at g n = form_in (slice_get g n)

-- d is a derivation of the form n
abbrev pub Derives : List Entry → ℕ → Derivation → Type 0
Derives g n (leaf t) = form_at g n ≡ Some (Terminal t.kind)
Derives g n nothing = form_at g n ≡ Some Empty
Derives g n (pair d e) = (a : ℕ) × (b : ℕ) × (form_at g n ≡ Some (Sequence a b)) × Derives g a d × Derives g b e × IsNear d (text e)
Derives g n (left d) = (a : ℕ) × (b : ℕ) × (form_at g n ≡ Some (Choice a b)) × Derives g a d
Derives g n (right d) = (a : ℕ) × (b : ℕ) × (form_at g n ≡ Some (Choice a b)) × Derives g b d
Derives g n done = (a : ℕ) × (form_at g n ≡ Some (Repeat a))
Derives g n (more d e) = (a : ℕ) × (form_at g n ≡ Some (Repeat a)) × Derives g a d × Derives g n e × IsNear d (text e)
Derives g n (present t d) = (set : ℕ) × (a : ℕ) × (form_at g n ≡ Some (Clause set a)) × (has set t.kind ≡ true) × Derives g a d
Derives g n (absent k) = (a : ℕ) × (form_at g n ≡ Some (Clause k a))
Derives g n (once d) = (r : ℕ) × (bounds : Bounds) × (form_at g n ≡ Some (Once r bounds)) × Derives g r d × IsFresh bounds.once [] (heads d) × HasEach bounds.needed (heads d)

-- the tokens spell d, a derivation of the form n
pub record Spells (g : List Entry) (n : ℕ) (tokens : List Token) (d : Derivation) : Type 0 where
  pub derives : Derives g n d
  pub spelled : text d ≡ tokens

-- some continuation makes the tokens a text of the form n
abbrev pub IsViable : List Entry → ℕ → List Token → Type 0
IsViable g n tokens = (more : List Token) × (d : Derivation) × Spells g n (tokens ++ more) d

-- Some text begins with the tokens before at. With the token at at none does, or there is none and what is there is no text.
pub record IsFault (g : List Entry) (n : ℕ) (tokens : List Token) (at : ℕ) : Type 0 where
  pub within : at ≤ length tokens
  pub viable : IsViable g n (take at tokens)
  pub not_further : at < length tokens → IsViable g n (take (at + 1) tokens) → ⊥
  pub no_text : (d : Derivation) → Spells g n tokens d → ⊥

-- the answer is d, unless memory ran out
abbrev pub IsRead : Derivation → Result Tree Failure → Type 0
IsRead d (Ok t) = derivation t ≡ d
IsRead d (Err failure.Memory) = Unit {0}
IsRead d (Err (failure.Syntax at)) = ⊥
