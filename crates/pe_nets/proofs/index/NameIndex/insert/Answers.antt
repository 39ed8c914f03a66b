use Rattle.std.proofs.Common.{not, ap, ◌∙◌}
use Rattle.pe_base.specs.Names.{has_name}
use Rattle.pe_nets.proofs.Indexes.{found}
use Rattle.pe_nets.proofs.index.NameIndex.insert.Goals as goal

pub returns-clause-new : goal.returns-clause-new
returns-clause-new c =
    c.in_ok-new.ensures.added ∙ ap not (found c.self.inside.names.keys c.args.name.now ∙ ap (λ names. has_name names c.args.name.now) c.self.view_is)
