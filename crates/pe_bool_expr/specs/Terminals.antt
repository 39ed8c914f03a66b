-- The terminals of the grammars that the tokens of a text are, and what each terminal does.
use Rattle.std.specs.Prelude.{ℕ, suc, ◌==◌, Bool, ◌||◌, nat_le, List, [], ◌∷◌, slice_index, slice_range, if◌then◌else◌}
use Rattle.pe_grammar.specs.declared.terminal.Token.{Token}
use Rattle.pe_text.specs.declared.token.Kind.{Kind}
use Rattle.pe_text.specs.declared.token.Kind.TheVariants.{Word, Number}
use Rattle.pe_text.specs.declared.token.Token.{Token as Piece}
use Rattle.pe_bool_expr.specs.declared.liberty_table.TheConstants as liberty
use Rattle.pe_bool_expr.specs.declared.style.Style.{Style}
use Rattle.pe_bool_expr.specs.declared.style.Style.TheVariants.{Liberty, Upf}
use Rattle.pe_bool_expr.specs.declared.terminal.Role.{Role}
use Rattle.pe_bool_expr.specs.declared.terminal.Role.TheVariants.{Leading, Opening, Closing, Operand, Trailing, Joining}
use Rattle.pe_bool_expr.specs.declared.upf_table.TheConstants as upf

-- the mark of Liberty that begins with this byte, one of + | * & ^ ! ' ( )
abbrev pub liberty_mark : ℕ → ℕ
liberty_mark b =
    if b == 43 then liberty.PLUS
    else if b == 124 then liberty.BAR
    else if b == 42 then liberty.STAR
    else if b == 38 then liberty.AND
    else if b == 94 then liberty.CARET
    else if b == 33 then liberty.BANG
    else if b == 39 then liberty.PRIME
    else if b == 40 then liberty.OPEN
    else liberty.CLOSE

-- the mark of UPF with these first two bytes, one of ! ~ & && ^ | || ( ); the second is 0 where there is none
abbrev pub upf_mark : ℕ → ℕ → ℕ
upf_mark b c =
    if b == 33 then upf.BANG
    else if b == 126 then upf.TILDE
    else if b == 38 then if c == 38 then upf.AND_AND else upf.AND
    else if b == 94 then upf.CARET
    else if b == 124 then if c == 124 then upf.BAR_BAR else upf.BAR
    else if b == 40 then upf.OPEN
    else upf.CLOSE

-- 0, and 1'b0
abbrev pub is_zero : List ℕ → Bool
is_zero bytes = (slice_index bytes 0 == 48) || (slice_index bytes 3 == 48)

abbrev pub liberty_terminal : Kind → List ℕ → ℕ
liberty_terminal Word bytes = liberty.NAME
liberty_terminal Number bytes = if is_zero bytes then liberty.ZERO else liberty.ONE
liberty_terminal _ bytes = liberty_mark (slice_index bytes 0)

abbrev pub upf_terminal : Kind → List ℕ → ℕ
upf_terminal Word bytes = upf.NAME
upf_terminal Number bytes = if is_zero bytes then upf.ZERO else upf.ONE
upf_terminal _ bytes = upf_mark (slice_index bytes 0) (slice_index bytes 1)

abbrev pub terminal_of : Style → Kind → List ℕ → ℕ
terminal_of Liberty kind bytes = liberty_terminal kind bytes
terminal_of Upf kind bytes = upf_terminal kind bytes

-- the bytes of a token
abbrev pub bytes_of : List ℕ → Piece → List ℕ
bytes_of text t = slice_range text t.span.from t.span.to

-- the tokens as terminals, each with its number in the list, from n on
abbrev pub terminals_from : Style → List ℕ → ℕ → List Piece → List Token
terminals_from style text n [] = []
terminals_from style text n (t ∷ ts) = record { kind = terminal_of style t.kind (bytes_of text t); place = n } ∷ terminals_from style text (suc n) ts

-- what a terminal does
abbrev pub liberty_role : ℕ → Role
liberty_role k =
    if k == liberty.BANG then Leading
    else if k == liberty.PRIME then Trailing
    else if k == liberty.OPEN then Opening
    else if k == liberty.CLOSE then Closing
    else if nat_le liberty.NAME k then Operand
    else Joining

abbrev pub upf_role : ℕ → Role
upf_role k =
    if (k == upf.BANG) || (k == upf.TILDE) then Leading
    else if k == upf.OPEN then Opening
    else if k == upf.CLOSE then Closing
    else if nat_le upf.NAME k then Operand
    else Joining

abbrev pub role_of : Style → ℕ → Role
role_of Liberty k = liberty_role k
role_of Upf k = upf_role k
