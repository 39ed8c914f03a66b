use Rattle.std.proofs.Common.{◌≡◌, ap, ◌∙◌, subst}
use Rattle.std.specs.Prelude.{find, slice_get}
use Rattle.pe_base.specs.Names.{place_of}
use Rattle.pe_supply.specs.Keys.{NamedStates}
use Rattle.pe_supply.specs.Tables.{is_state, level_in}
use Rattle.pe_supply.proofs.Keyed.{found_by}
use Rattle.pe_supply.proofs.levels.StateIndex.level.Goals as goal

pub returns-in-Some : goal.returns-in-Some
returns-in-Some c =
    let s = c.self.inside in
    let key = c.bytes.ensures ∙ c.in_ok-key.ensures in
    let said : NamedStates → Type 0 = λ v. slice_get c.as_slice.result.now c.place.result ≡ level_in (find (is_state v.names c.args.supply c.args.name.now) v.states) in
    let found : slice_get c.as_slice.result.now c.place.result ≡ level_in (find (is_state s.names.now c.args.supply c.args.name.now) s.states.now) =
    found_by s.names.now s.states.now s.index s.levels c.self.invariant c.args.supply c.args.name.now c.as_slice.result.now c.place.result c.as_slice.ensures (c.place.ensures ∙ ap (place_of s.index) key) in
    c.in-Some.ensures ∙ subst said c.self.view_is found

pub returns : goal.returns
returns c =
    let s = c.self.inside in
    let key = c.bytes.ensures ∙ c.in_ok-key.ensures in
    let said : NamedStates → Type 0 = λ v. slice_get c.as_slice.result.now c.place.result ≡ level_in (find (is_state v.names c.args.supply c.args.name.now) v.states) in
    let found : slice_get c.as_slice.result.now c.place.result ≡ level_in (find (is_state s.names.now c.args.supply c.args.name.now) s.states.now) =
    found_by s.names.now s.states.now s.index s.levels c.self.invariant c.args.supply c.args.name.now c.as_slice.result.now c.place.result c.as_slice.ensures (c.place.ensures ∙ ap (place_of s.index) key) in
    c.in-None.ensures ∙ subst said c.self.view_is found
