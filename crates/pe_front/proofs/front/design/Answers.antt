use Rattle.std.proofs.Common.{◌≡◌, ◌∙◌, Some, None, Err, sym}
use Rattle.pe_text.specs.declared.language.Lang.TheVariants as lang
use Rattle.pe_verilog_ast.specs.declared.module.Module.{Module}
use Rattle.pe_verilog_ast.specs.declared.module.Source.{Source}
use Rattle.pe_verilog_read.specs.Reading.{IsVerilog, IsVerilogFault}
use Rattle.pe_front.specs.declared.fault.CheckFault.TheVariants.{Refused}
use Rattle.pe_front.specs.declared.fault.Fault.TheVariants.{NotBuilt}
use Rattle.pe_front.specs.declared.fault.Part.TheVariants.{Rtl}
use Rattle.pe_front.specs.Points.{Answer, TakenThen}
use Rattle.pe_front.specs.Given.{module_in, FromUpf, IsGiven}
use Rattle.pe_front.proofs.Answering.{read_on, unread, formed_on, not_formed}
use Rattle.pe_front.proofs.front.design.Goals as goal

pub returns-in-Some-clause-given : goal.returns-in-Some-clause-given
unfolding IsGiven
returns-in-Some-clause-given c =
    let Next = FromUpf c.args.texts.now in
    let Then : Source → Answer → Type 0 = λ s. TakenThen Module (module_in s.modules) Rtl Next in
    let taken : module_in c.in-Ok.source.modules ≡ Some c.in-Some.m = sym c.in_ok-m-in-Ok.ensures ∙ c.in-Some.is in
    read_on Source (IsVerilog lang.Rtl) (IsVerilogFault lang.Rtl) Rtl Then c.as_slice.result.now c.args.texts.now.rtl c.in-Ok.source c.from_upf.result c.as_slice.ensures c.in-Ok.ensures.found
    (formed_on Module (module_in c.in-Ok.source.modules) Rtl Next c.in-Some.m c.from_upf.result taken c.from_upf.ensures.given)

pub returns-in-None-clause-given : goal.returns-in-None-clause-given
unfolding IsGiven
returns-in-None-clause-given c =
    let Next = FromUpf c.args.texts.now in
    let Then : Source → Answer → Type 0 = λ s. TakenThen Module (module_in s.modules) Rtl Next in
    let taken : module_in c.in-Ok.source.modules ≡ None = sym c.in_ok-m-in-Ok.ensures ∙ c.in-None.is in
    read_on Source (IsVerilog lang.Rtl) (IsVerilogFault lang.Rtl) Rtl Then c.as_slice.result.now c.args.texts.now.rtl c.in-Ok.source (Err (Refused Rtl NotBuilt)) c.as_slice.ensures c.in-Ok.ensures.found
    (not_formed Module (module_in c.in-Ok.source.modules) Rtl Next taken)

pub returns-in-Err-clause-given : goal.returns-in-Err-clause-given
unfolding IsGiven
returns-in-Err-clause-given c =
    let Next = FromUpf c.args.texts.now in
    let Then : Source → Answer → Type 0 = λ s. TakenThen Module (module_in s.modules) Rtl Next in
    unread Source (IsVerilog lang.Rtl) (IsVerilogFault lang.Rtl) Rtl Then c.as_slice.result.now c.args.texts.now.rtl c.in-Err.fault c.read_refusal.result c.as_slice.ensures c.in-Err.ensures.fault c.read_refusal.ensures
