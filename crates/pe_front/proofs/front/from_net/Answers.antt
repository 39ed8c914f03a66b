use Rattle.std.proofs.Common.{◌≡◌, ◌∙◌, Some, None, Err, sym}
use Rattle.pe_text.specs.declared.language.Lang.TheVariants as lang
use Rattle.pe_verilog_ast.specs.declared.module.Source.{Source}
use Rattle.pe_verilog_read.specs.Reading.{IsVerilog, IsVerilogFault}
use Rattle.pe_instances.specs.declared.parts.Netlist.{Netlist}
use Rattle.pe_instances.specs.Form.{netlist_in}
use Rattle.pe_front.specs.declared.fault.CheckFault.TheVariants.{Refused}
use Rattle.pe_front.specs.declared.fault.Fault.TheVariants.{NotBuilt}
use Rattle.pe_front.specs.declared.fault.Part.TheVariants.{Net}
use Rattle.pe_front.specs.Points.{Answer, TakenThen}
use Rattle.pe_front.specs.Given.{FromMap, FromNet}
use Rattle.pe_front.proofs.Answering.{read_on, unread, formed_on, not_formed}
use Rattle.pe_front.proofs.front.from_net.Goals as goal

pub returns-in-Some-clause-given : goal.returns-in-Some-clause-given
unfolding FromNet
returns-in-Some-clause-given c =
    let Next = FromMap c.args.texts.now c.args.m c.args.intent.now c.args.library.now in
    let Then : Source → Answer → Type 0 = λ s. TakenThen Netlist (netlist_in s.modules) Net Next in
    let taken : netlist_in c.in-Ok.source.modules ≡ Some c.in-Some.netlist = sym c.in_ok-netlist-in-Ok.ensures ∙ c.in-Some.is in
    read_on Source (IsVerilog lang.Netlist) (IsVerilogFault lang.Netlist) Net Then c.as_slice.result.now c.args.texts.now.net c.in-Ok.source c.from_map.result c.as_slice.ensures c.in-Ok.ensures.found
    (formed_on Netlist (netlist_in c.in-Ok.source.modules) Net Next c.in-Some.netlist c.from_map.result taken c.from_map.ensures.given)

pub returns-in-None-clause-given : goal.returns-in-None-clause-given
unfolding FromNet
returns-in-None-clause-given c =
    let Next = FromMap c.args.texts.now c.args.m c.args.intent.now c.args.library.now in
    let Then : Source → Answer → Type 0 = λ s. TakenThen Netlist (netlist_in s.modules) Net Next in
    let taken : netlist_in c.in-Ok.source.modules ≡ None = sym c.in_ok-netlist-in-Ok.ensures ∙ c.in-None.is in
    read_on Source (IsVerilog lang.Netlist) (IsVerilogFault lang.Netlist) Net Then c.as_slice.result.now c.args.texts.now.net c.in-Ok.source (Err (Refused Net NotBuilt)) c.as_slice.ensures c.in-Ok.ensures.found
    (not_formed Netlist (netlist_in c.in-Ok.source.modules) Net Next taken)

pub returns-in-Err-clause-given : goal.returns-in-Err-clause-given
unfolding FromNet
returns-in-Err-clause-given c =
    let Next = FromMap c.args.texts.now c.args.m c.args.intent.now c.args.library.now in
    let Then : Source → Answer → Type 0 = λ s. TakenThen Netlist (netlist_in s.modules) Net Next in
    unread Source (IsVerilog lang.Netlist) (IsVerilogFault lang.Netlist) Net Then c.as_slice.result.now c.args.texts.now.net c.in-Err.fault c.read_refusal.result c.as_slice.ensures c.in-Err.ensures.fault c.read_refusal.ensures
