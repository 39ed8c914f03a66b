-- What a text shows before its grammar is tried: which answers exclude one another.
use Rattle.std.proofs.Common.{◌≡◌, ◌<◌, ◌≤◌, ℕ, List, [], ◌∷◌, length, arith, Err}
use Rattle.std.specs.List.{All}
use Rattle.std.proofs.lemmas.List.Elements.{All-nil, All-cons}
use Rattle.pe_text.specs.declared.language.Lang.{Lang}
use Rattle.pe_text.specs.declared.token.Token.{Token}
use Rattle.pe_text.specs.declared.fault.ReadFault.{ReadFault}
use Rattle.pe_text.specs.declared.fault.ReadFault.TheVariants.{Memory, Syntax, Unsupported, Limit}
use Rattle.pe_text.specs.Language.{class_of}
use Rattle.pe_text.specs.Cut.{IsCut, IsBadAt, AreInOrder}
use Rattle.pe_text.specs.Lexemes.{IsPartOf, lexemes_of}
use Rattle.pe_text.specs.LeftOut.{first_left_out}
use Rattle.pe_text.specs.Limits.{first_over}
use Rattle.pe_text.specs.Scan.{IsScanned, IsBadFault, IsLeftOutFault, IsOverFault, IsScanAnswer}

-- spans in order do not go back
order_end : (from end : ℕ) (tokens : List Token) → AreInOrder from end tokens → from ≤ end
order_end from end [] h = h
order_end from end (t ∷ ts) (a, b, h) = let k = order_end t.span.to end ts h in omega (arith, a, b, k)

-- tokens whose spans are in order are parts of the text
pub in_order_parts : (from end : ℕ) (tokens : List Token) → AreInOrder from end tokens → All (IsPartOf end) tokens
in_order_parts from end [] h = All-nil (IsPartOf end)
in_order_parts from end (t ∷ ts) (a, b, h) =
    All-cons (IsPartOf end) t ts (record { order = omega (arith, b); within = order_end t.span.to end ts h }) (in_order_parts t.span.to end ts h)

-- a text that is bad at a place has no tokens
pub bad_only : (language : Lang) (text : List ℕ) (tokens : List Token) (f : ReadFault)
    → ((at : ℕ) → IsCut (class_of language) text tokens → IsBadAt (class_of language) text at → ⊥)
    → IsBadFault language text f → IsScanned language text tokens → IsScanAnswer tokens (Err f)
bad_only language text tokens Memory never h k = tt
bad_only language text tokens (Syntax at) never h k = never at k.is_allowed.is_cut h
bad_only language text tokens (Unsupported at word) never h k = h
bad_only language text tokens (Limit at which) never h k = h

-- nor one of which a word is left out
pub left_out_only : (language : Lang) (text : List ℕ) (others tokens : List Token) (f : ReadFault) → others ≡ tokens
    → IsLeftOutFault language text others f → IsScanned language text tokens → IsScanAnswer tokens (Err f)
left_out_only language text others tokens Memory e h k = tt
left_out_only language text others tokens (Syntax at) e h k = h
left_out_only language text others tokens (Unsupported at word) e h k =
    let there : first_left_out language (lexemes_of text tokens) < length tokens = rw e at h.1.is_there in
    absurd (omega (arith, there, k.is_allowed.allowed))
left_out_only language text others tokens (Limit at which) e h k = h

-- nor one of which a number is over its limit
pub over_only : (language : Lang) (text : List ℕ) (others tokens : List Token) (f : ReadFault) → others ≡ tokens
    → IsOverFault language text others f → IsScanned language text tokens → IsScanAnswer tokens (Err f)
over_only language text others tokens Memory e h k = tt
over_only language text others tokens (Syntax at) e h k = h
over_only language text others tokens (Unsupported at word) e h k = h
over_only language text others tokens (Limit at which) e h k =
    let there : first_over language (lexemes_of text tokens) < length tokens = rw e at h.1.is_there in
    absurd (omega (arith, there, k.within))
