-- The parts of a form.
use Rattle.std.specs.Prelude.{◌≡◌, ℕ, Option, Some, None, List}
use Rattle.pe_grammar.specs.declared.form.Bounds.{Bounds}
use Rattle.pe_grammar.specs.declared.form.Entry.{Entry}
use Rattle.pe_grammar.specs.declared.form.Form.{Form}
use Rattle.pe_grammar.specs.declared.form.Form.TheVariants.{Terminal, Empty, Sequence, Choice, Repeat, Clause, Once}
use Rattle.pe_grammar.specs.Grammar.{form_at}

abbrev pub first_in : Option Form → ℕ
first_in None = 0
first_in (Some (Terminal k)) = 0
first_in (Some Empty) = 0
first_in (Some (Sequence a b)) = a
first_in (Some (Choice a b)) = a
first_in (Some (Repeat a)) = a
first_in (Some (Clause w a)) = a
first_in (Some (Once r bounds)) = r

abbrev pub second_in : Option Form → ℕ
second_in None = 0
second_in (Some (Terminal k)) = k
second_in (Some Empty) = 0
second_in (Some (Sequence a b)) = b
second_in (Some (Choice a b)) = b
second_in (Some (Repeat a)) = 0
second_in (Some (Clause w a)) = w
second_in (Some (Once r bounds)) = 0

abbrev pub first_at : List Entry → ℕ → ℕ
first_at g n = first_in (form_at g n)

abbrev pub second_at : List Entry → ℕ → ℕ
second_at g n = second_in (form_at g n)

abbrev pub IsSequenceAt : List Entry → ℕ → Type 0
IsSequenceAt g n = form_at g n ≡ Some (Sequence (first_at g n) (second_at g n))

abbrev pub IsChoiceAt : List Entry → ℕ → Type 0
IsChoiceAt g n = form_at g n ≡ Some (Choice (first_at g n) (second_at g n))

abbrev pub IsRepeatAt : List Entry → ℕ → Type 0
IsRepeatAt g n = form_at g n ≡ Some (Repeat (first_at g n))

abbrev pub IsClauseAt : List Entry → ℕ → Type 0
IsClauseAt g n = form_at g n ≡ Some (Clause (second_at g n) (first_at g n))

abbrev pub IsTerminalAt : List Entry → ℕ → ℕ → Type 0
IsTerminalAt g n k = form_at g n ≡ Some (Terminal k)

abbrev pub bounds_in : Option Form → Bounds
bounds_in (Some (Once r bounds)) = bounds
bounds_in _ = record { once = 0; needed = 0 }

abbrev pub IsOnceAt : List Entry → ℕ → Type 0
IsOnceAt g n = form_at g n ≡ Some (Once (first_at g n) (bounds_in (form_at g n)))
