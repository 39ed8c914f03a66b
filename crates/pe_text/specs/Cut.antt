-- How a text is cut into tokens: a walk from its start to its end, in which a gap that starts at a place is passed over, and
-- else the token that starts there is the next one. What starts at a place is each language's own, and may depend on what is
-- kept of the tokens before it.
use Rattle.std.specs.Prelude.{◌≡◌, ◌≢◌, ℕ, ◌-◌, ◌<◌, ◌≤◌, List, [], ◌∷◌, ◌++◌, length, drop, slice_range}
use Rattle.pe_base.specs.declared.text.Span.{Span}
use Rattle.pe_text.specs.declared.language.Class.{Class}
use Rattle.pe_text.specs.declared.language.Class.TheVariants.{Verilog, Upf, Liberty, Map, LibertyFunction, UpfFunction}
use Rattle.pe_text.specs.declared.token.Kind.{Kind}
use Rattle.pe_text.specs.declared.token.Token.{Token}
use Rattle.pe_text.specs.declared.mode.Mode.{Mode}
use Rattle.pe_text.specs.declared.mode.Mode.TheVariants.{Fresh}
use Rattle.pe_text.specs.Start.{Start, gap, token, bad}
use Rattle.pe_text.specs.Verilog.{verilog_start}
use Rattle.pe_text.specs.Upf.{upf_start, upf_behind}
use Rattle.pe_text.specs.Liberty.{liberty_start, liberty_behind}
use Rattle.pe_text.specs.MapFile.{map_start}
use Rattle.pe_text.specs.Functions.{liberty_function_start, upf_function_start}

-- what starts at a place
abbrev pub start_at : Class → Mode → List ℕ → Start
start_at Verilog mode text = verilog_start text
start_at Upf mode text = upf_start mode text
start_at Liberty mode text = liberty_start mode text
start_at Map mode text = map_start text
start_at LibertyFunction mode text = liberty_function_start text
start_at UpfFunction mode text = upf_function_start text

-- what is kept behind a token of this kind and first byte
abbrev pub mode_behind : Class → Mode → Kind → ℕ → Mode
mode_behind Upf mode kind first = upf_behind mode kind first
mode_behind Liberty mode kind first = liberty_behind mode kind first
mode_behind _ mode kind first = mode

-- the first byte of a text
abbrev pub first_of : List ℕ → ℕ
first_of [] = 0
first_of (b ∷ bs) = b

-- the bytes of a text of n bytes between two places of it, told by what stands behind them
abbrev pub span_of : ℕ → List ℕ → List ℕ → Span
span_of n text rest = record { from = n - length text; to = n - length rest }

-- the parts that a walk goes over
pub data Part : Type 0 where
  passed : Part
  taken : Token → Part

-- in a text of n bytes, these parts lead from one mode and place to another; a place is told by the text from there on
abbrev pub Walks : Class → ℕ → Mode → List ℕ → List Part → Mode → List ℕ → Type 0
Walks class n mode text [] last rest = (mode ≡ last) × (text ≡ rest)
Walks class n mode text (passed ∷ parts) last rest =
    (behind : List ℕ) × (start_at class mode text ≡ gap behind) × Walks class n mode behind parts last rest
Walks class n mode text (taken t ∷ parts) last rest =
    (behind : List ℕ) × (start_at class mode text ≡ token t.kind behind) × (t.span ≡ span_of n text behind)
    × Walks class n (mode_behind class mode t.kind (first_of text)) behind parts last rest

-- the tokens among the parts
abbrev pub tokens_of : List Part → List Token
tokens_of [] = []
tokens_of (passed ∷ parts) = tokens_of parts
tokens_of (taken t ∷ parts) = t ∷ tokens_of parts

-- the tokens of a text are these
abbrev pub IsCut : Class → List ℕ → List Token → Type 0
IsCut class text tokens =
    (parts : List Part) × (last : Mode) × Walks class (length text) Fresh text parts last [] × (tokens_of parts ≡ tokens)

-- the text is cut up to this place, and there neither a gap nor a token starts
abbrev pub IsBadAt : Class → List ℕ → ℕ → Type 0
IsBadAt class text at =
    (parts : List Part) × (mode : Mode) × (rest : List ℕ) × Walks class (length text) Fresh text parts mode rest
    × (start_at class mode rest ≡ bad) × (rest ≢ []) × (at ≡ length text - length rest)

-- from a place on the spans are in order and apart, none is empty, and none is past the text's end
abbrev pub AreInOrder : ℕ → ℕ → List Token → Type 0
AreInOrder from end [] = from ≤ end
AreInOrder from end (t ∷ tokens) = (from ≤ t.span.from) × (t.span.from < t.span.to) × AreInOrder t.span.to end tokens

-- the text from a place on: the gap before each token, the token, and what stands behind the last
abbrev pub joined : List ℕ → ℕ → List Token → List ℕ
joined text from [] = drop from text
joined text from (t ∷ tokens) =
    slice_range text from t.span.from ++ slice_range text t.span.from t.span.to ++ joined text t.span.to tokens
