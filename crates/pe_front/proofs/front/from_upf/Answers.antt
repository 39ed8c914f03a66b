use Rattle.std.proofs.Common.{◌≡◌, true, false, Err, sym}
use Rattle.pe_upf_read.specs.declared.intent.Intent.{Intent}
use Rattle.pe_upf_read.specs.Spelling.{IsUpf, IsUpfFault}
use Rattle.pe_intent.specs.Domain.{is_one_domain}
use Rattle.pe_front.specs.declared.fault.CheckFault.TheVariants.{Refused}
use Rattle.pe_front.specs.declared.fault.Fault.TheVariants.{NotBuilt}
use Rattle.pe_front.specs.declared.fault.Part.TheVariants.{Upf}
use Rattle.pe_front.specs.Points.{Answer, BuiltThen}
use Rattle.pe_front.specs.Given.{FromLib, FromUpf}
use Rattle.pe_front.proofs.Answering.{read_on, unread, built_on, not_built}
use Rattle.pe_front.proofs.front.from_upf.Goals as goal

pub returns-then-not-is_one_domain-clause-given : goal.returns-then-not-is_one_domain-clause-given
unfolding FromUpf
returns-then-not-is_one_domain-clause-given c =
    let Then : Intent → Answer → Type 0 = λ intent. BuiltThen (is_one_domain intent) Upf (FromLib c.args.texts.now c.args.m intent) in
    let test : is_one_domain c.in-Ok.intent ≡ false = sym c.if-not-is_one_domain.ensures in
    read_on Intent IsUpf IsUpfFault Upf Then c.as_slice.result.now c.args.texts.now.upf c.in-Ok.intent (Err (Refused Upf NotBuilt)) c.as_slice.ensures c.in-Ok.ensures.found
    (not_built (is_one_domain c.in-Ok.intent) Upf (FromLib c.args.texts.now c.args.m c.in-Ok.intent) test)

pub returns-else-not-is_one_domain-clause-given : goal.returns-else-not-is_one_domain-clause-given
unfolding FromUpf
returns-else-not-is_one_domain-clause-given c =
    let Then : Intent → Answer → Type 0 = λ intent. BuiltThen (is_one_domain intent) Upf (FromLib c.args.texts.now c.args.m intent) in
    let test : is_one_domain c.in-Ok.intent ≡ true = sym c.if-not-is_one_domain.ensures in
    read_on Intent IsUpf IsUpfFault Upf Then c.as_slice.result.now c.args.texts.now.upf c.in-Ok.intent c.from_lib.result c.as_slice.ensures c.in-Ok.ensures.found
    (built_on (is_one_domain c.in-Ok.intent) Upf (FromLib c.args.texts.now c.args.m c.in-Ok.intent) c.from_lib.result test c.from_lib.ensures.given)

pub returns-in-Err-clause-given : goal.returns-in-Err-clause-given
unfolding FromUpf
returns-in-Err-clause-given c =
    let Then : Intent → Answer → Type 0 = λ intent. BuiltThen (is_one_domain intent) Upf (FromLib c.args.texts.now c.args.m intent) in
    unread Intent IsUpf IsUpfFault Upf Then c.as_slice.result.now c.args.texts.now.upf c.in-Err.fault c.read_refusal.result c.as_slice.ensures c.in-Err.ensures.fault c.read_refusal.ensures
