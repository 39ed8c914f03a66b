-- Of which kind the tokens are that a part of Verilog's definition gives.
use Rattle.std.proofs.Common.{◌≡◌, ℕ, Bool, true, false, cond, ◌==◌, ◌&&◌, List, [], ◌∷◌, refl}
use Rattle.pe_text.specs.declared.token.Kind.{Kind}
use Rattle.pe_text.specs.declared.token.Kind.TheVariants.{Escaped, Number, Text, Mark}
use Rattle.pe_text.specs.declared.run.Base.{Base}
use Rattle.pe_text.specs.declared.run.Run.{Run}
use Rattle.pe_text.specs.Bytes.{behind}
use Rattle.pe_text.specs.Start.{Start, gap, token, bad, or_else, gap_to, closed, quoted}
use Rattle.pe_text.specs.Verilog.{digits, based, unsigned, quote, sized, escaped, directive, backquote, operator, stroke, round}

abbrev KindIs : Kind → Start → Type 0
KindIs kind (gap rest) = Unit {0}
KindIs kind (token k rest) = k ≡ kind
KindIs kind bad = Unit {0}

-- a token that starts here is of this kind
pub record Only (kind : Kind) (s : Start) : Type 0 where
  pub is : KindIs kind s

either : (b : Bool) (kind : Kind) (s t : Start) → Only kind s → Only kind t → Only kind (cond b s t)
either true kind s t p q = p
either false kind s t p q = q

other : (kind : Kind) (s t : Start) → Only kind s → Only kind t → Only kind (or_else s t)
other kind (gap rest) t p q = p
other kind (token k rest) t p q = p
other kind bad t p q = q

takes : (kind : Kind) (rest : List ℕ) → Only kind (token kind rest)
takes kind rest = record { is = refl }

passes : (kind : Kind) (rest : List ℕ) → Only kind (gap rest)
passes kind rest = record { is = tt }

stops : (kind : Kind) → Only kind bad
stops kind = record { is = tt }

pub gap_to_kind : (kind : Kind) (x y : ℕ) (text : List ℕ) → Only kind (gap_to x y text)
gap_to_kind kind x y [] = stops kind
gap_to_kind kind x y (a ∷ []) = stops kind
gap_to_kind kind x y (a ∷ b ∷ bs) = either ((a == x) && (b == y)) kind (gap bs) (gap_to x y (b ∷ bs)) (passes kind bs) (gap_to_kind kind x y (b ∷ bs))

closed_kind : (text : List ℕ) → Only Text (closed text)
closed_kind [] = stops Text
closed_kind (b ∷ bs) = search (either, takes, stops)

pub quoted_kind : (run : Run) (text : List ℕ) → Only Text (quoted run text)
quoted_kind run text = closed_kind (behind run text)

digits_kind : (base : Base) (text : List ℕ) → Only Number (digits base text)
digits_kind base text = search (either, takes, stops)

based_kind : (letter : ℕ) (text : List ℕ) → Only Number (based letter text)
based_kind letter text = search (either, digits_kind, stops)

unsigned_kind : (text : List ℕ) → Only Number (unsigned text)
unsigned_kind [] = stops Number
unsigned_kind (b ∷ bs) = based_kind b bs

pub quote_kind : (text : List ℕ) → Only Number (quote text)
quote_kind [] = stops Number
quote_kind (b ∷ bs) = search (either, unsigned_kind, based_kind)

pub sized_kind : (text : List ℕ) → Only Number (sized text)
sized_kind [] = takes Number []
sized_kind (b ∷ bs) = search (either, other, quote_kind, takes)

pub escaped_kind : (text : List ℕ) → Only Escaped (escaped text)
escaped_kind text = search (either, takes, stops)

directive_kind : (name text : List ℕ) → Only Mark (directive name text)
directive_kind name text = search (either, passes, takes)

pub backquote_kind : (text : List ℕ) → Only Mark (backquote text)
backquote_kind text = search (either, directive_kind, stops)

pub operator_kind : (text : List ℕ) → Only Mark (operator text)
operator_kind text = search (either, takes, stops)

pub stroke_kind : (text : List ℕ) → Only Mark (stroke text)
stroke_kind text = search (either, passes, gap_to_kind, takes)

pub round_kind : (text : List ℕ) → Only Mark (round text)
round_kind text = search (either, gap_to_kind, takes)
