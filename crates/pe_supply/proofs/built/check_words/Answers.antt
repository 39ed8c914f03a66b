use Rattle.std.proofs.Common.{◌≡◌, ℕ, List, Some, ap, sym, ◌∙◌}
use Rattle.std.specs.Option.{option_copied}
use Rattle.pe_supply.specs.declared.plan.Plan.{Plan}
use Rattle.pe_supply.specs.declared.plan.RowText.{RowText}
use Rattle.pe_supply.specs.Keys.{NamedStates}
use Rattle.pe_supply.specs.Tables.{first_unknown, table_in}
use Rattle.pe_supply.proofs.built.check_words.Goals as goal

-- the first unknown word of a plan's rows
same_word : (p : Plan) (names : List (List ℕ × ℕ)) (all : NamedStates) (table : List ℕ) (rows : List RowText) → all.names ≡ names → all.states ≡ p.states → table ≡ table_in names p.tables → rows ≡ p.rows
    → first_unknown all.names all.states table rows ≡ first_unknown names p.states (table_in names p.tables) p.rows
same_word p names all table rows ns ss t rs =
    ap (λ n. first_unknown n all.states table rows) ns
    ∙ ap (λ s. first_unknown names s table rows) ss
    ∙ ap (λ t. first_unknown names p.states t rows) t
    ∙ ap (λ r. first_unknown names p.states (table_in names p.tables) r) rs

pub returns-in_ok-name-in-Some : goal.returns-in_ok-name-in-Some
returns-in_ok-name-in-Some c =
    let same = same_word c.args.plan.now c.args.names.now c.args.states.now c.args.table.now c.as_slice.result.now c.requires.names c.requires.states c.requires.table c.as_slice.ensures in
    (c.args.names.now, c.requires.long, sym same ∙ sym c.in_ok-name.ensures ∙ ap option_copied c.in-Some.is ∙ ap (λ n. Some n) (sym c.in_ok-name-in-Some.ensures))

pub returns-in-None : goal.returns-in-None
returns-in-None c =
    let same = same_word c.args.plan.now c.args.names.now c.args.states.now c.args.table.now c.as_slice.result.now c.requires.names c.requires.states c.requires.table c.as_slice.ensures in
    record { long = c.requires.long; states = sym same ∙ sym c.in_ok-name.ensures ∙ ap option_copied c.in-None.is }
