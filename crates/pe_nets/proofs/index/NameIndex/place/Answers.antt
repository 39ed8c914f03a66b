use Rattle.std.proofs.Common.{◌∙◌, ap, sym}
use Rattle.pe_base.specs.Names.{place_of}
use Rattle.pe_nets.proofs.Indexes.{found_at, found_none}
use Rattle.pe_nets.proofs.index.NameIndex.place.Goals as goal

pub returns-in-Some : goal.returns-in-Some
returns-in-Some c =
    found_at c.self.inside.names.keys c.args.name.now c.in-Some.place (sym c.get_index_of.ensures.index ∙ c.in-Some.is)
    ∙ ap (λ names. place_of names c.args.name.now) c.self.view_is

pub returns-in-None : goal.returns-in-None
returns-in-None c =
    c.len.ensures.len ∙ found_none c.self.inside.names.keys c.args.name.now (sym c.get_index_of.ensures.index ∙ c.in-None.is)
    ∙ ap (λ names. place_of names c.args.name.now) c.self.view_is
