-- One tree for a text, and what is answered.
use Rattle.std.proofs.Common.{◌≡◌, ◌≢◌, ℕ, List, Result, Ok, Err, inr, refl, sym, ap, ◌∙◌, subst}
use Rattle.std.specs.Prelude.{MatchResult, IfOk, IfErr}
use Rattle.pe_grammar.specs.Table.{IsDeterministic}
use Rattle.pe_grammar.proofs.Test.{deterministic}
use Rattle.pe_reader.proofs.Readings.{one, never_both, one_fault}
use Rattle.pe_text.specs.declared.fault.ReadFault.{ReadFault}
use Rattle.pe_text.specs.declared.fault.ReadFault.TheVariants.{Memory, Syntax, Unsupported, Limit}
use Rattle.pe_text.specs.declared.language.Lang.{Lang}
use Rattle.pe_text.specs.declared.token.Token.{Token}
use Rattle.pe_verilog_ast.specs.declared.module.Source.{Source}
use Rattle.pe_verilog_read.specs.Modules.{source_of}
use Rattle.pe_verilog_read.specs.Reading.{is_net, IsSpelled, IsMisspelled, IsVerilog, IsVerilogFault, IsAnswer}
use Rattle.pe_verilog_read.specs.Starts.{start_of}
use Rattle.pe_verilog_read.specs.Terminals.{terminals_of}
use Rattle.pe_verilog_read.specs.Words.{word_at}
use Rattle.pe_verilog_read.specs.declared.verilog_table.TheConstants.{VERILOG}

certain : IsDeterministic VERILOG
certain = deterministic VERILOG refl

pub one_tree : (language : Lang) (text : List ℕ) (s t : Source) → IsVerilog language text s → IsVerilog language text t → s ≡ t
one_tree language text s t p q =
    let same = one language terminals_of VERILOG (start_of language) text p.0 q.0 p.1.0 q.1.0 certain p.1.1 q.1.1 in
    p.1.2
    ∙ ap (λ x. source_of (word_at text x) (is_net language) p.1.0) same.0
    ∙ ap (source_of (word_at text q.0) (is_net language)) same.1
    ∙ sym q.1.2

pub not_both : (language : Lang) (text : List ℕ) (s : Source) (f : ReadFault) → IsVerilog language text s → IsVerilogFault language text f → f ≡ Memory
not_both language text s f p q = never_both language terminals_of VERILOG (start_of language) text p.0 p.1.0 f p.1.1 q

pub one_refusal : (language : Lang) (text : List ℕ) (f g : ReadFault) → f ≢ Memory → g ≢ Memory → IsVerilogFault language text f → IsVerilogFault language text g → f ≡ g
one_refusal language text f g a b p q = one_fault language terminals_of VERILOG (start_of language) text f g a b p q

-- where an answer is right, it is what a text spells
pub answered : (language : Lang) (text : List ℕ) (r : Result Source ReadFault) → MatchResult r (IsVerilog language text) (IsVerilogFault language text) → (s : Source) → IsVerilog language text s → IsAnswer s r
answered language text (Ok t) h s p = one_tree language text t s h p
answered language text (Err f) h s p = let P : ReadFault → Type 0 = λ g. IsAnswer s (Err g) in subst P (sym (not_both language text s f p h)) tt

pub is_found : (language : Lang) (text : List ℕ) (r : Result Source ReadFault) → MatchResult r (IsVerilog language text) (IsVerilogFault language text) → IfOk r (IsVerilog language text)
is_found language text (Ok t) h = h
is_found language text (Err f) h = tt

pub is_refused : (language : Lang) (text : List ℕ) (r : Result Source ReadFault) → MatchResult r (IsVerilog language text) (IsVerilogFault language text) → IfErr r (IsVerilogFault language text)
is_refused language text (Ok t) h = tt
is_refused language text (Err f) h = h

misspelled : (language : Lang) (text : List ℕ) (tokens : List Token) (f : ReadFault) → IsMisspelled language text tokens f → IsVerilogFault language text f
misspelled language text tokens Memory h = inr tt
misspelled language text tokens (Syntax at) h = inr (tokens, h.0, h.1)
misspelled language text tokens (Unsupported at word) h = absurd h
misspelled language text tokens (Limit at which) h = absurd h

-- what is right of a text's tokens is right of the text
pub of_tokens : (language : Lang) (text : List ℕ) (tokens : List Token) (r : Result Source ReadFault) → MatchResult r (IsSpelled language text tokens) (IsMisspelled language text tokens) →
    MatchResult r (IsVerilog language text) (IsVerilogFault language text)
of_tokens language text tokens (Ok s) h = (tokens, h)
of_tokens language text tokens (Err f) h = misspelled language text tokens f h
