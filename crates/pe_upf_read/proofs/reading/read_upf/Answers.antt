use Rattle.std.proofs.Common.{inr, Result, Ok, Err, ℕ, List}
use Rattle.std.specs.Prelude.{MatchResult}
use Rattle.pe_text.specs.declared.fault.ReadFault.{ReadFault}
use Rattle.pe_text.specs.declared.language.Lang.TheVariants.{Upf}
use Rattle.pe_upf_read.specs.declared.intent.Intent.{Intent}
use Rattle.pe_upf_read.specs.declared.table.TheConstants.{UPF, AT_FILE}
use Rattle.pe_reader.specs.Reading.{IsSyntaxFault}
use Rattle.pe_upf_read.specs.Spelling.{IsUpf, IsUpfFault}
use Rattle.pe_upf_read.specs.Terminals.{terminals_of}
use Rattle.pe_reader.proofs.Readings.{few_tokens}
use Rattle.pe_upf_read.proofs.Spellings.{answered}
use Rattle.pe_upf_read.proofs.reading.read_upf.Goals as goal

pub read_tokens-answer-requires-clause-few : goal.read_tokens-answer-requires-clause-few
read_tokens-answer-requires-clause-few c = rw c.as_slice.ensures (few_tokens Upf c.args.text.now c.in-Ok.tokens c.in-Ok.ensures.found)

either : (text : List ℕ) (r : Result Intent ReadFault) → MatchResult r (λ x. IsUpf text x) (λ f. IsSyntaxFault Upf terminals_of UPF AT_FILE text f) →
    MatchResult r (λ x. IsUpf text x) (λ f. IsUpfFault text f)
either text (Ok x) h = h
either text (Err f) h = inr h

pub returns-in-Ok-clause-only : goal.returns-in-Ok-clause-only
returns-in-Ok-clause-only c = λ x p. answered c.args.text.now x c.read_tokens-answer.result (either c.args.text.now c.read_tokens-answer.result c.read_tokens-answer.ensures) p
