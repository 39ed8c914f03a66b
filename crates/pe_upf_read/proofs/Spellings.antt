-- A text spells one tree, or is refused, and not both.
use Rattle.std.proofs.Common.{◌≡◌, ◌∙◌, ℕ, List, Result, Ok, Err, refl, sym, ap}
use Rattle.std.specs.Prelude.{MatchResult}
use Rattle.pe_grammar.proofs.Test.{deterministic}
use Rattle.pe_text.specs.declared.fault.ReadFault.{ReadFault}
use Rattle.pe_text.specs.declared.fault.ReadFault.TheVariants.{Memory, Syntax, Unsupported, Limit}
use Rattle.pe_text.specs.declared.language.Lang.TheVariants.{Upf}
use Rattle.pe_upf_read.specs.declared.intent.Intent.{Intent}
use Rattle.pe_upf_read.specs.declared.table.TheConstants.{UPF, AT_FILE}
use Rattle.pe_upf_read.specs.Meaning.{intent_of}
use Rattle.pe_upf_read.specs.Spelling.{IsUpf, IsUpfFault, IsAnswer}
use Rattle.pe_upf_read.specs.Terminals.{terminals_of}
use Rattle.pe_reader.proofs.Readings.{one, never_both}

pub one_intent : (text : List ℕ) (x y : Intent) → IsUpf text x → IsUpf text y → x ≡ y
one_intent text x y p q =
    let same = one Upf terminals_of UPF AT_FILE text p.0 q.0 p.1 q.1 (deterministic UPF refl) p.2 q.2 in
    p.3 ∙ ap (λ ts. intent_of text ts p.1) same.0 ∙ ap (λ d. intent_of text q.0 d) same.1 ∙ sym q.3

pub no_fault : (text : List ℕ) (x : Intent) (f : ReadFault) → IsUpf text x → IsUpfFault text f → f ≡ Memory
no_fault text x f p h = never_both Upf terminals_of UPF AT_FILE text p.0 p.1 f p.2 h

answered_fault : (x : Intent) (f : ReadFault) → f ≡ Memory → IsAnswer x (Err f)
answered_fault x Memory e = tt
answered_fault x (Syntax at) e = cc
answered_fault x (Unsupported at word) e = cc
answered_fault x (Limit at which) e = cc

-- an answer is the tree that the text spells
pub answered : (text : List ℕ) (x : Intent) (r : Result Intent ReadFault) → MatchResult r (λ y. IsUpf text y) (λ f. IsUpfFault text f) → IsUpf text x → IsAnswer x r
answered text x (Ok y) h p = one_intent text y x h p
answered text x (Err f) h p = answered_fault x f (no_fault text x f p h)
