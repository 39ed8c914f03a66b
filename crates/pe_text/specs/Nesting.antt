-- How many things are open at a token of a text.
use Rattle.std.specs.Prelude.{ℕ, ◌+◌, ◌-◌, Bool, false, not, ◌&&◌, ◌||◌, nat_lt, List, [], ◌∷◌, codes, if◌then◌else◌}
use Rattle.std.specs.Str.{bytes_eq}
use Rattle.pe_base.specs.Names.{has_name}
use Rattle.pe_text.specs.declared.token.Kind.{Kind}
use Rattle.pe_text.specs.declared.language.Lang.{Lang}
use Rattle.pe_text.specs.declared.language.Lang.TheVariants as lang
use Rattle.pe_text.specs.declared.nesting.Nest.{Nest}
use Rattle.pe_text.specs.Lexemes.{Lexeme, first_in}

-- how many things may be open at once
abbrev pub most_open : ℕ
most_open = 64

-- Verilog: what opens, and what closes the last that is open
abbrev pub openers : List (List ℕ)
openers = codes "(" ∷ codes "[" ∷ codes "{" ∷ codes "begin" ∷ codes "case" ∷ codes "casez" ∷ []

abbrev pub closers : List (List ℕ)
closers = codes ")" ∷ codes "]" ∷ codes "}" ∷ codes "end" ∷ codes "endcase" ∷ []

-- behind these no `?` and no `if` is open
abbrev pub enders : List (List ℕ)
enders = codes ";" ∷ codes "begin" ∷ codes "end" ∷ codes "endcase" ∷ []

-- the operators of expressions, without `? :`
abbrev pub operators : List (List ℕ)
operators =
    codes "!" ∷ codes "~" ∷ codes "&" ∷ codes "~&" ∷ codes "|" ∷ codes "~|" ∷ codes "^" ∷ codes "~^" ∷ codes "^~" ∷ codes "+"
    ∷ codes "-" ∷ codes "<<" ∷ codes ">>" ∷ codes "<" ∷ codes "<=" ∷ codes ">" ∷ codes ">=" ∷ codes "==" ∷ codes "!="
    ∷ codes "&&" ∷ codes "||" ∷ []

-- one more, one less, or as many
abbrev pub counted : Bool → Bool → ℕ → ℕ
counted more less n = if more then n + 1 else if less then n - 1 else n

-- none is open before the first token
abbrev pub none_open : Nest
none_open = record { opened = 0; pending = 0; run = 0; is_else = false }

-- a `?`, or an `if` that does not stand right behind `else`
abbrev pub is_pending : Nest → List ℕ → Bool
is_pending n bytes = bytes_eq bytes (codes "?") || (bytes_eq bytes (codes "if") && not n.is_else)

-- how many `?` and `if` there are since the last end
abbrev pub pending_behind : Nest → List ℕ → ℕ
pending_behind n bytes = if has_name enders bytes then 0 else if is_pending n bytes then n.pending + 1 else n.pending

-- how many operators stand one right behind the other
abbrev pub run_behind : Nest → List ℕ → ℕ
run_behind n bytes = if has_name operators bytes then n.run + 1 else 0

abbrev pub behind_verilog : Nest → List ℕ → Nest
behind_verilog n bytes = record {
  opened = counted (has_name openers bytes) (has_name closers bytes) n.opened;
  pending = pending_behind n bytes;
  run = run_behind n bytes;
  is_else = bytes_eq bytes (codes "else");
}

-- Liberty: braces and parentheses
abbrev pub behind_liberty : Nest → List ℕ → Nest
behind_liberty n bytes = record {
  opened = counted (bytes_eq bytes (codes "(") || bytes_eq bytes (codes "{")) (bytes_eq bytes (codes ")") || bytes_eq bytes (codes "}")) n.opened;
  pending = 0;
  run = 0;
  is_else = false;
}

-- UPF: braces
abbrev pub behind_upf : Nest → List ℕ → Nest
behind_upf n bytes = record {
  opened = counted (bytes_eq bytes (codes "{")) (bytes_eq bytes (codes "}")) n.opened;
  pending = 0;
  run = 0;
  is_else = false;
}

abbrev pub behind_bytes : Lang → Nest → List ℕ → Nest
behind_bytes lang.Rtl n bytes = behind_verilog n bytes
behind_bytes lang.Netlist n bytes = behind_verilog n bytes
behind_bytes lang.Upf n bytes = behind_upf n bytes
behind_bytes lang.Liberty n bytes = behind_liberty n bytes
behind_bytes lang.Map n bytes = n

abbrev pub nest_behind : Lang → Nest → Kind → List ℕ → Nest
nest_behind language n kind bytes = behind_bytes language n bytes

-- how many things are open at a token: what it opens counts, a run of operators counts where it stands before
abbrev pub open_at : Lang → Nest → List ℕ → ℕ
open_at language n bytes = (behind_bytes language n bytes).opened + (behind_bytes language n bytes).pending + n.run

abbrev pub is_too_deep : Lang → Nest → Kind → List ℕ → List Lexeme → Bool
is_too_deep language n kind bytes ls = nat_lt most_open (open_at language n bytes)

-- which lexeme is the first at which too much is open, or how many there are
abbrev pub first_too_deep : Lang → List Lexeme → ℕ
first_too_deep language ls = first_in (is_too_deep language) (nest_behind language) none_open ls
