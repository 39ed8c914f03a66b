use Rattle.std.proofs.Common.{◌≡◌, ap, sym, ◌∙◌}
use Rattle.std.specs.Prelude.{slice_get}
use Rattle.pe_supply.specs.Lookups.{value_of}
use Rattle.pe_supply.proofs.Finding.{first_at, number_some, number_none}
use Rattle.pe_supply.proofs.lookup.Lookup.number.Goals as goal

pub returns-in-Some : goal.returns-in-Some
returns-in-Some c =
    let s = c.self.inside in
    let found : slice_get c.as_slice.result.now c.place.result ≡ value_of s.names.now c.args.name.now =
    ap (λ ns. slice_get ns c.place.result) c.as_slice.ensures ∙ ap (slice_get s.numbers) c.place.ensures ∙ first_at s.names.now s.index s.numbers c.self.invariant c.args.name.now in
    number_some c.args.self.now c.args.name.now c.in-Some.number.now (ap (λ ns. value_of ns c.args.name.now) (sym c.self.view_is) ∙ sym found ∙ sym c.in-Some.ensures)

pub returns-in-None : goal.returns-in-None
returns-in-None c =
    let s = c.self.inside in
    let found : slice_get c.as_slice.result.now c.place.result ≡ value_of s.names.now c.args.name.now =
    ap (λ ns. slice_get ns c.place.result) c.as_slice.ensures ∙ ap (slice_get s.numbers) c.place.ensures ∙ first_at s.names.now s.index s.numbers c.self.invariant c.args.name.now in
    number_none c.args.self.now c.args.name.now (ap (λ ns. value_of ns c.args.name.now) (sym c.self.view_is) ∙ sym found ∙ sym c.in-None.ensures)
