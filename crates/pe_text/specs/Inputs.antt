-- Expressions of switches in UPF (IEEE 1801) that have too many names.
use Rattle.std.specs.Prelude.{◌≡◌, ℕ, zero, suc, ◌==◌, ◌+◌, ◌-◌, Bool, cond, ◌&&◌, nat_lt, List, [], ◌∷◌, ◌++◌, codes, take, length, Option, Some, None, if◌then◌else◌}
use Rattle.std.specs.List.{cons_option}
use Rattle.std.specs.Str.{bytes_eq}
use Rattle.pe_base.specs.Names.{has_name, HasSameNames}
use Rattle.pe_text.specs.declared.token.Kind.{Kind}
use Rattle.pe_text.specs.declared.command.Command.{Command}
use Rattle.pe_text.specs.Bytes.{begins_name}
use Rattle.pe_text.specs.Functions.{behind_input, behind_one}
use Rattle.pe_text.specs.Lexemes.{Lexeme, first_in}
use Rattle.pe_text.specs.Commands.{no_command, behind_command, is_switch}

-- how many different names an expression may have
abbrev pub most_inputs : ℕ
most_inputs = 10

-- the name of a boolean function that the bytes begin with, if they do
abbrev pub next_name : List ℕ → Option (List ℕ)
next_name [] = None
next_name (b ∷ bs) = if begins_name b then Some (take (1 + length bs - length (behind_input bs)) (b ∷ bs)) else None

-- behind it, behind a number, or behind the first byte
abbrev pub behind_next : List ℕ → List ℕ
behind_next [] = []
behind_next (b ∷ bs) = if begins_name b then behind_input bs else if b == 49 then behind_one bs else bs

-- the names that n steps find in some bytes, whether these are an expression or not
abbrev pub names_from : ℕ → List ℕ → List (List ℕ)
names_from zero bytes = []
names_from (suc n) bytes = cons_option (next_name bytes) (names_from n (behind_next bytes))

-- the names in some bytes: no more steps are needed than there are bytes
abbrev pub names_of : List ℕ → List (List ℕ)
names_of bytes = names_from (length bytes) bytes

abbrev pub names_in : List Lexeme → List (List ℕ)
names_in [] = []
names_in (l ∷ ls) = names_of l.bytes ++ names_in ls

-- how many braces are open behind some bytes that do not close the last
abbrev pub braces_behind : ℕ → List ℕ → ℕ
braces_behind n bytes =
    if bytes_eq bytes (codes "{") then n + 1 else if bytes_eq bytes (codes "}") then n - 1 else n

-- a brace closes, and no other is open inside
abbrev pub closes_last : ℕ → List ℕ → Bool
closes_last n bytes = bytes_eq bytes (codes "}") && (n == 0)

-- the lexemes up to the closing brace, with n more braces open inside
abbrev pub inside : ℕ → List Lexeme → List Lexeme
inside n [] = []
inside n (l ∷ ls) = cond (closes_last n l.bytes) [] (l ∷ inside (braces_behind n l.bytes) ls)

-- how many of further names are new: neither seen before nor twice among them
abbrev pub new_count : List (List ℕ) → List (List ℕ) → ℕ
new_count seen [] = 0
new_count seen (name ∷ names) = cond (has_name seen name) 0 1 + new_count (name ∷ seen) names

-- how many different names stand before the closing brace
abbrev pub input_count : List Lexeme → ℕ
input_count ls = new_count [] (names_in (inside 0 ls))

-- the braces of an expression open here: those inside the braces of a switch's state
abbrev pub opens_expression : Command → List ℕ → Bool
opens_expression c bytes = is_switch c.form && c.is_state && (c.braces == 1) && bytes_eq bytes (codes "{")

-- and too many names stand in them
abbrev pub has_too_many : Command → Kind → List ℕ → List Lexeme → Bool
has_too_many c kind bytes ls = opens_expression c bytes && nat_lt most_inputs (input_count ls)

-- which lexeme is the first that opens such an expression, or how many lexemes there are
abbrev pub first_too_many : List Lexeme → ℕ
first_too_many ls = first_in has_too_many behind_command no_command ls

-- the names that are seen, with further ones
abbrev pub with_names : List (List ℕ) → List (List ℕ) → List (List ℕ)
with_names seen [] = seen
with_names seen (name ∷ names) = with_names (name ∷ seen) names

-- a set has these names more, and so many of them are new
pub record Added (old new : List (List ℕ)) (count : ℕ) (names : List (List ℕ)) : Type 0 where
  pub counted : (seen : List (List ℕ)) → HasSameNames old seen → count ≡ new_count seen names
  pub same : (seen : List (List ℕ)) → HasSameNames old seen → HasSameNames new (with_names seen names)
