use Rattle.std.proofs.Common.{◌≡◌, Some, None, map, ap, ◌∙◌, subst}
use Rattle.std.specs.Prelude.{find}
use Rattle.std.specs.Option.{option_map}
use Rattle.pe_base.specs.Names.{HasSameNames}
use Rattle.pe_supply.specs.Uses.{set_names, table_names, is_missing_among, is_missing, name_used}
use Rattle.pe_supply.proofs.Making.{missing_same, find_same}
use Rattle.pe_supply.proofs.uses.first_missing.Goals as goal

pub returns-in-Some : goal.returns-in-Some
returns-in-Some c =
    let p = c.args.plan.now in
    let names : HasSameNames c.in_ok-names.names p.names = subst (λ ns. HasSameNames c.in_ok-names.names ns) c.as_slice-3.ensures c.in_ok-names.ensures in
    let ports : HasSameNames c.in_ok-ports.ports p.ports = subst (λ ns. HasSameNames c.in_ok-ports.ports ns) c.as_slice-4.ensures c.in_ok-ports.ensures in
    let sets : HasSameNames c.in_ok-sets-2.sets (set_names p) = subst (λ ns. HasSameNames c.in_ok-sets-2.sets ns) (c.as_slice-5.ensures ∙ c.in_ok-sets.ensures ∙ ap (λ xs. map (λ s. s.name) xs) c.as_slice.ensures) c.in_ok-sets-2.ensures in
    let tables : HasSameNames c.in_ok-tables-2.tables (table_names p) = subst (λ ns. HasSameNames c.in_ok-tables-2.tables ns) (c.as_slice-6.ensures ∙ c.in_ok-tables.ensures ∙ ap (λ xs. map (λ t. t.name) xs) c.as_slice-2.ensures) c.in_ok-tables-2.ensures in
    let among = is_missing_among c.in_ok-names.names c.in_ok-ports.ports c.in_ok-sets-2.sets c.in_ok-tables-2.tables in
    let same = find_same among (is_missing p) p.uses (missing_same c.in_ok-names.names c.in_ok-ports.ports c.in_ok-sets-2.sets c.in_ok-tables-2.tables p.names p.ports (set_names p) (table_names p) names ports sets tables) in
    let found : Some c.in-Some.used.now ≡ find among p.uses = c.in-Some.ensures ∙ ap (find among) c.as_slice-7.ensures in
    let name : c.in_ok-name-in-Some.name ≡ name_used c.in-Some.used.now = c.in_ok-name-in-Some.ensures ∙ c.name_used.ensures in
    ap (λ n. Some n) name ∙ ap (option_map name_used) (found ∙ same)

pub returns : goal.returns
returns c =
    let p = c.args.plan.now in
    let names : HasSameNames c.in_ok-names.names p.names = subst (λ ns. HasSameNames c.in_ok-names.names ns) c.as_slice-3.ensures c.in_ok-names.ensures in
    let ports : HasSameNames c.in_ok-ports.ports p.ports = subst (λ ns. HasSameNames c.in_ok-ports.ports ns) c.as_slice-4.ensures c.in_ok-ports.ensures in
    let sets : HasSameNames c.in_ok-sets-2.sets (set_names p) = subst (λ ns. HasSameNames c.in_ok-sets-2.sets ns) (c.as_slice-5.ensures ∙ c.in_ok-sets.ensures ∙ ap (λ xs. map (λ s. s.name) xs) c.as_slice.ensures) c.in_ok-sets-2.ensures in
    let tables : HasSameNames c.in_ok-tables-2.tables (table_names p) = subst (λ ns. HasSameNames c.in_ok-tables-2.tables ns) (c.as_slice-6.ensures ∙ c.in_ok-tables.ensures ∙ ap (λ xs. map (λ t. t.name) xs) c.as_slice-2.ensures) c.in_ok-tables-2.ensures in
    let among = is_missing_among c.in_ok-names.names c.in_ok-ports.ports c.in_ok-sets-2.sets c.in_ok-tables-2.tables in
    let same = find_same among (is_missing p) p.uses (missing_same c.in_ok-names.names c.in_ok-ports.ports c.in_ok-sets-2.sets c.in_ok-tables-2.tables p.names p.ports (set_names p) (table_names p) names ports sets tables) in
    let found : None ≡ find among p.uses = c.in-None.ensures ∙ ap (find among) c.as_slice-7.ensures in
    ap (option_map name_used) (found ∙ same)
