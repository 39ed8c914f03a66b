-- What makes one token of look-ahead enough, as facts of a grammar's table.
use Rattle.std.specs.Prelude.{◌≡◌, ℕ, ◌<◌, ◌^◌, Bool, true, false, length, List, ◌⊎◌, slice_get, Option, Some, None}
use Rattle.pe_grammar.specs.declared.form.Bounds.{Bounds}
use Rattle.pe_grammar.specs.declared.form.Entry.{Entry}
use Rattle.pe_grammar.specs.declared.form.Form.TheVariants.{Terminal, Empty, Sequence, Choice, Repeat, Clause, Once}
use Rattle.pe_grammar.specs.Derivation.{has}
use Rattle.pe_grammar.specs.Certain.{certain}
use Rattle.pe_grammar.specs.Grammar.{form_in, form_at}

-- The terminals after which a text that could end may go on, those that begin it, and the rest of the table.
abbrev pub nullable_in : Option Entry → Bool
nullable_in None = false
nullable_in (Some e) = e.nullable

abbrev pub starts_in : Option Entry → ℕ → Bool
starts_in None k = false
starts_in (Some e) k = has e.first k

abbrev pub goes_on_in : Option Entry → ℕ → Bool
goes_on_in None k = false
goes_on_in (Some e) k = has e.goes_on k

abbrev pub opened_in : Option Entry → ℕ → Bool
opened_in None k = false
opened_in (Some e) k = has e.opened k

abbrev pub rank_in : Option Entry → ℕ
rank_in None = 0
rank_in (Some e) = e.rank

abbrev pub height_in : Option Entry → ℕ
height_in None = 0
height_in (Some e) = e.height

abbrev pub nullable : List Entry → ℕ → Bool
nullable g n = nullable_in (slice_get g n)

abbrev pub starts : List Entry → ℕ → ℕ → Bool
starts g n k = starts_in (slice_get g n) k

abbrev pub goes_on : List Entry → ℕ → ℕ → Bool
goes_on g n k = goes_on_in (slice_get g n) k

abbrev pub opened : List Entry → ℕ → ℕ → Bool
opened g n k = opened_in (slice_get g n) k

abbrev pub rank : List Entry → ℕ → ℕ
rank g n = rank_in (slice_get g n)

abbrev pub height : List Entry → ℕ → ℕ
height g n = height_in (slice_get g n)

-- each of the terminals of the first test is in the second
abbrev pub IsWithin : (ℕ → Bool) → (ℕ → Bool) → Type 0
IsWithin p q = (k : ℕ) → p k ≡ true → q k ≡ true

abbrev pub AreApart : (ℕ → Bool) → (ℕ → Bool) → Type 0
AreApart p q = (k : ℕ) → p k ≡ true → q k ≡ true → ⊥

pub record SequenceFacts (g : List Entry) (i j : ℕ) (n a b : Option Entry) : Type 0 where
  pub in_a : i < length g
  pub in_b : j < length g
  pub null : nullable_in a ≡ true → nullable_in b ≡ true → nullable_in n ≡ true
  pub null_back : nullable_in n ≡ true → (nullable_in a ≡ true) × (nullable_in b ≡ true)
  pub first : IsWithin (starts_in a) (starts_in n)
  pub first_after : nullable_in a ≡ true → IsWithin (starts_in b) (starts_in n)
  pub on : IsWithin (goes_on_in b) (goes_on_in n)
  pub on_before : nullable_in b ≡ true → IsWithin (goes_on_in a) (goes_on_in n)
  pub apart : AreApart (goes_on_in a) (starts_in b)
  pub opened_b : IsWithin (opened_in b) (opened_in n)
  pub opened_a : nullable_in b ≡ true → IsWithin (opened_in a) (opened_in n)
  pub shut : (nullable_in b ≡ true) ⊎ AreApart (opened_in a) (starts_in b)
  pub ranked : rank_in a < rank_in n
  pub ranked_after : nullable_in a ≡ true → rank_in b < rank_in n
  pub higher : height_in a < height_in n
  pub higher_after : height_in b < height_in n

pub record ChoiceFacts (g : List Entry) (i j : ℕ) (n a b : Option Entry) : Type 0 where
  pub in_a : i < length g
  pub in_b : j < length g
  pub null_a : nullable_in a ≡ true → nullable_in n ≡ true
  pub null_b : nullable_in b ≡ true → nullable_in n ≡ true
  pub null_back : nullable_in n ≡ true → (nullable_in a ≡ true) ⊎ (nullable_in b ≡ true)
  pub first_a : IsWithin (starts_in a) (starts_in n)
  pub first_b : IsWithin (starts_in b) (starts_in n)
  pub on_a : IsWithin (goes_on_in a) (goes_on_in n)
  pub on_b : IsWithin (goes_on_in b) (goes_on_in n)
  pub on_not_a : nullable_in a ≡ true → IsWithin (starts_in b) (goes_on_in n)
  pub on_not_b : nullable_in b ≡ true → IsWithin (starts_in a) (goes_on_in n)
  pub apart : AreApart (starts_in a) (starts_in b)
  pub one_null : nullable_in a ≡ true → nullable_in b ≡ true → ⊥
  pub opened_a : IsWithin (opened_in a) (opened_in n)
  pub opened_b : IsWithin (opened_in b) (opened_in n)
  pub ranked_a : rank_in a < rank_in n
  pub ranked_b : rank_in b < rank_in n
  pub higher : (height_in a < height_in n) ⊎ (height_in b < height_in n)

pub record RepeatFacts (g : List Entry) (i : ℕ) (n a : Option Entry) : Type 0 where
  pub in_a : i < length g
  pub null : nullable_in n ≡ true
  pub not_null : nullable_in a ≡ true → ⊥
  pub first : IsWithin (starts_in a) (starts_in n)
  pub on : IsWithin (goes_on_in a) (goes_on_in n)
  pub on_again : IsWithin (starts_in a) (goes_on_in n)
  pub apart : AreApart (goes_on_in a) (starts_in n)
  pub left_out : IsWithin (opened_in a) (opened_in n)
  pub ranked : rank_in a < rank_in n

pub record ClauseFacts (g : List Entry) (w i : ℕ) (n a : Option Entry) : Type 0 where
  pub in_a : i < length g
  pub null : nullable_in n ≡ true
  pub first : IsWithin (has w) (starts_in n)
  pub on : IsWithin (goes_on_in a) (goes_on_in n)
  pub word : IsWithin (has w) (opened_in n)
  pub left_out : IsWithin (opened_in a) (opened_in n)

pub record OnceFacts (g : List Entry) (i needed : ℕ) (n a : Option Entry) : Type 0 where
  pub in_a : i < length g
  pub repeats : (c : ℕ) × (form_in a ≡ Some (Repeat c)) × IsWithin (has needed) (has (certain (rank_in n) g (height_in n) c))
  pub small : needed < 2 ^ 128
  pub null : needed ≡ 0 → nullable_in n ≡ true
  pub null_back : nullable_in n ≡ true → needed ≡ 0
  pub first : IsWithin (starts_in a) (starts_in n)
  pub on : IsWithin (goes_on_in a) (goes_on_in n)
  pub left_out : IsWithin (opened_in a) (opened_in n)
  pub shut : AreApart (opened_in a) (has needed)
  pub ranked : rank_in a < rank_in n

abbrev pub IsOnce : List Entry → ℕ → ℕ → ℕ → Type 0
IsOnce g n a needed = OnceFacts g a needed (slice_get g n) (slice_get g a)

abbrev pub IsSequence : List Entry → ℕ → ℕ → ℕ → Type 0
IsSequence g n a b = SequenceFacts g a b (slice_get g n) (slice_get g a) (slice_get g b)

abbrev pub IsChoice : List Entry → ℕ → ℕ → ℕ → Type 0
IsChoice g n a b = ChoiceFacts g a b (slice_get g n) (slice_get g a) (slice_get g b)

abbrev pub IsRepeat : List Entry → ℕ → ℕ → Type 0
IsRepeat g n a = RepeatFacts g a (slice_get g n) (slice_get g a)

abbrev pub IsClause : List Entry → ℕ → ℕ → ℕ → Type 0
IsClause g n w a = ClauseFacts g w a (slice_get g n) (slice_get g a)

-- what makes one token of look-ahead enough
pub record IsDeterministic (g : List Entry) : Type 0 where
  pub ranked : (n : ℕ) → rank g n < 65536
  pub terminal : (n k : ℕ) → form_at g n ≡ Some (Terminal k) → starts g n k ≡ true
  pub terminal_not_null : (n k : ℕ) → form_at g n ≡ Some (Terminal k) → nullable g n ≡ true → ⊥
  pub empty : (n : ℕ) → form_at g n ≡ Some Empty → nullable g n ≡ true
  pub sequence : (n a b : ℕ) → form_at g n ≡ Some (Sequence a b) → IsSequence g n a b
  pub choice : (n a b : ℕ) → form_at g n ≡ Some (Choice a b) → IsChoice g n a b
  pub «repeat» : (n a : ℕ) → form_at g n ≡ Some (Repeat a) → IsRepeat g n a
  pub clause : (n w a : ℕ) → form_at g n ≡ Some (Clause w a) → IsClause g n w a
  pub once_more : (n r : ℕ) (bounds : Bounds) → form_at g n ≡ Some (Once r bounds) → IsOnce g n r bounds.needed
