-- Terminals that begin a text for certain: those of a sequence whose parts are low, and of a choice's sides.
use Rattle.std.specs.Prelude.{ℕ, zero, suc, ◌^◌, Bool, cond, ltb, List, Option, Some, None, slice_get}
use Rattle.std.specs.Int.Bits.{bit_or}
use Rattle.pe_grammar.specs.declared.form.Entry.{Entry}
use Rattle.pe_grammar.specs.declared.form.Form.{Form}
use Rattle.pe_grammar.specs.declared.form.Form.TheVariants.{Terminal, Empty, Sequence, Choice, Repeat, Clause, Once}

abbrev pub certain_of : (ℕ → ℕ) → Bool → Form → ℕ
certain_of part low (Terminal k) = 2 ^ k
certain_of part low (Sequence a b) = cond low (part a) 0
certain_of part low (Choice a b) = bit_or (part a) (part b)
certain_of part low Empty = 0
certain_of part low (Repeat a) = 0
certain_of part low (Clause w a) = 0
certain_of part low (Once r bounds) = 0

abbrev pub certain_in : (ℕ → ℕ) → ℕ → Option Entry → ℕ
certain_in part limit None = 0
certain_in part limit (Some e) = certain_of part (ltb e.height limit) e.form

-- so many steps down from the form n, over sequences below the height
abbrev pub certain : ℕ → List Entry → ℕ → ℕ → ℕ
certain zero g limit n = 0
certain (suc steps) g limit n = certain_in (λ m. certain steps g limit m) limit (slice_get g n)
