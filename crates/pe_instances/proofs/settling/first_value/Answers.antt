use Rattle.std.proofs.Common.{◌∙◌, ap}
use Rattle.pe_assigns.specs.Settled.{given_at}
use Rattle.pe_instances.proofs.Starts.{started}
use Rattle.pe_instances.proofs.settling.first_value.Goals as goal

pub returns : goal.returns
returns c = c.given_at.ensures ∙ ap (given_at c.args.inputs.now) c.place.ensures ∙ started c.args.given.now c.args.inputs.now c.args.name.now c.requires
