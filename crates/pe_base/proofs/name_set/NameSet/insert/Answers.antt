use Rattle.std.proofs.Common.{◌||◌, ◌∙◌, not, ap}
use Rattle.std.specs.Str.{bytes_eq}
use Rattle.pe_base.specs.Names.{has_name}
use Rattle.pe_base.proofs.NameSets.{found, inserted, names_of}
use Rattle.pe_base.proofs.name_set.NameSet.insert.Goals as goal

pub returns-clause-new : goal.returns-clause-new
returns-clause-new c =
    let name = c.args.name.now in
    c.in_ok-new.ensures.added ∙ ap not (found c.self.inside.names.keys name ∙ ap (λ names. has_name names name) c.self.view_is)

pub returns-clause-added : goal.returns-clause-added
returns-clause-added c = λ other.
    ap (λ keys. has_name (names_of keys) other) c.in_ok-new.ensures.keys
    ∙ inserted c.self.inside.names.keys _ other
    ∙ ap (λ names. bytes_eq c.args.name.now other || has_name names other) c.self.view_is
