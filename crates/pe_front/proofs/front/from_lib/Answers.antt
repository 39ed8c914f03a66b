use Rattle.pe_liberty_read.specs.declared.tree.Group.{Group}
use Rattle.pe_liberty_read.specs.Reading.{IsLiberty, IsReadFault}
use Rattle.pe_front.specs.declared.fault.Part.TheVariants.{Lib}
use Rattle.pe_front.specs.Given.{FromNet, FromLib}
use Rattle.pe_front.proofs.Answering.{read_on, unread}
use Rattle.pe_front.proofs.Short.{short_cells}
use Rattle.pe_front.proofs.front.from_lib.Goals as goal

pub from_net-requires-clause-library : goal.from_net-requires-clause-library
from_net-requires-clause-library c = short_cells c.as_slice.result.now c.in-Ok.library c.in-Ok.ensures.found

pub returns-in-Ok-clause-given : goal.returns-in-Ok-clause-given
unfolding FromLib
returns-in-Ok-clause-given c =
    read_on Group IsLiberty IsReadFault Lib (FromNet c.args.texts.now c.args.m c.args.intent.now) c.as_slice.result.now c.args.texts.now.lib c.in-Ok.library c.from_net.result c.as_slice.ensures c.in-Ok.ensures.found
    c.from_net.ensures.given

pub returns-in-Err-clause-given : goal.returns-in-Err-clause-given
unfolding FromLib
returns-in-Err-clause-given c =
    unread Group IsLiberty IsReadFault Lib (FromNet c.args.texts.now c.args.m c.args.intent.now) c.as_slice.result.now c.args.texts.now.lib c.in-Err.fault c.read_refusal.result c.as_slice.ensures c.in-Err.ensures.fault
    c.read_refusal.ensures
