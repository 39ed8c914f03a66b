use Rattle.std.proofs.Common.{◌≡◌, true, false, not, Err, sym, ap}
use Rattle.pe_compare.specs.declared.map.MapFile.{MapFile}
use Rattle.pe_compare.specs.MapReading.{IsMap, IsMapFault}
use Rattle.pe_assigns.specs.Form.{is_some_of}
use Rattle.pe_front.specs.declared.fault.CheckFault.TheVariants.{Refused}
use Rattle.pe_front.specs.declared.fault.Fault.TheVariants.{NotBuilt}
use Rattle.pe_front.specs.declared.fault.Part.TheVariants.{Map}
use Rattle.pe_front.specs.Points.{Answer, BuiltThen}
use Rattle.pe_front.specs.Given.{FromViews, FromMap}
use Rattle.pe_front.proofs.Answering.{read_on, unread, built_on, not_built}
use Rattle.pe_front.proofs.front.from_map.Goals as goal

pub returns-then-has_lines-clause-given : goal.returns-then-has_lines-clause-given
unfolding FromMap
returns-then-has_lines-clause-given c =
    let Then : MapFile → Answer → Type 0 = λ map. BuiltThen (not (is_some_of map.lines)) Map (FromViews c.args.m c.args.intent.now c.args.library.now c.args.netlist) in
    let test : not (is_some_of c.in-Ok.map.lines) ≡ false = ap not (sym c.if-has_lines.ensures) in
    read_on MapFile IsMap IsMapFault Map Then c.as_slice.result.now c.args.texts.now.map c.in-Ok.map (Err (Refused Map NotBuilt)) c.as_slice.ensures c.in-Ok.ensures.found
    (not_built (not (is_some_of c.in-Ok.map.lines)) Map (FromViews c.args.m c.args.intent.now c.args.library.now c.args.netlist) test)

pub returns-else-has_lines-clause-given : goal.returns-else-has_lines-clause-given
unfolding FromMap
returns-else-has_lines-clause-given c =
    let Then : MapFile → Answer → Type 0 = λ map. BuiltThen (not (is_some_of map.lines)) Map (FromViews c.args.m c.args.intent.now c.args.library.now c.args.netlist) in
    let test : not (is_some_of c.in-Ok.map.lines) ≡ true = ap not (sym c.if-has_lines.ensures) in
    read_on MapFile IsMap IsMapFault Map Then c.as_slice.result.now c.args.texts.now.map c.in-Ok.map c.from_views.result c.as_slice.ensures c.in-Ok.ensures.found
    (built_on (not (is_some_of c.in-Ok.map.lines)) Map (FromViews c.args.m c.args.intent.now c.args.library.now c.args.netlist) c.from_views.result test c.from_views.ensures.given)

pub returns-in-Err-clause-given : goal.returns-in-Err-clause-given
unfolding FromMap
returns-in-Err-clause-given c =
    let Then : MapFile → Answer → Type 0 = λ map. BuiltThen (not (is_some_of map.lines)) Map (FromViews c.args.m c.args.intent.now c.args.library.now c.args.netlist) in
    unread MapFile IsMap IsMapFault Map Then c.as_slice.result.now c.args.texts.now.map c.in-Err.fault c.read_refusal.result c.as_slice.ensures c.in-Err.ensures.fault c.read_refusal.ensures
