use Rattle.std.proofs.Common.{◌∙◌, ap}
use Rattle.pe_base.specs.Names.{has_name}
use Rattle.pe_base.proofs.NameSets.{found}
use Rattle.pe_base.proofs.name_set.NameSet.contains.Goals as goal

pub returns : goal.returns
returns c =
    let name = c.args.name.now in
    c.contains.ensures ∙ found c.self.inside.names.keys name ∙ ap (λ names. has_name names name) c.self.view_is
