-- What starts at a place of a text.
use Rattle.std.specs.Prelude.{ℕ, ◌==◌, ◌&&◌, List, [], ◌∷◌, if◌then◌else◌}
use Rattle.pe_text.specs.declared.token.Kind.{Kind}
use Rattle.pe_text.specs.declared.token.Kind.TheVariants.{Text}
use Rattle.pe_text.specs.declared.run.Run.{Run}
use Rattle.pe_text.specs.Bytes.{behind}

pub data Start : Type 0 where
  -- white space, a comment or another part that is passed over, with the text behind it
  gap : List ℕ → Start
  -- a token of this kind, with the text behind it
  token : Kind → List ℕ → Start
  -- neither, or one that is not closed
  bad : Start

-- the one, or where it is bad the other
abbrev pub or_else : Start → Start → Start
or_else (gap rest) other = gap rest
or_else (token kind rest) other = token kind rest
or_else bad other = other

-- what is passed over up to the first place where these two bytes stand, and with them
abbrev pub gap_to : ℕ → ℕ → List ℕ → Start
gap_to x y [] = bad
gap_to x y (a ∷ []) = bad
gap_to x y (a ∷ b ∷ bs) = if (a == x) && (b == y) then gap bs else gap_to x y (b ∷ bs)

-- a quoted text whose run ends with a quote
abbrev pub closed : List ℕ → Start
closed [] = bad
closed (b ∷ bs) = if b == 34 then token Text bs else bad

-- a quoted text, behind its first quote
abbrev pub quoted : Run → List ℕ → Start
quoted run text = closed (behind run text)
