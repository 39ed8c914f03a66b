use Rattle.std.proofs.Common.{◌≡◌, Some, length, ap, sym, ◌∙◌}
use Rattle.pe_supply.specs.Tables.{columns, first_unlike}
use Rattle.pe_supply.proofs.built.check_lengths.Goals as goal

pub returns-in_ok-name-in-Some : goal.returns-in_ok-name-in-Some
returns-in_ok-name-in-Some c =
    let p = c.args.plan.now in
    let width : length c.columns-width.result.now ≡ length (columns p.tables) = ap length c.columns-width.ensures ∙ ap (λ ts. length (columns ts)) c.as_slice.ensures in (
      c.args.names.now,
      c.requires,
      ap (λ n. first_unlike n p.rows) (sym width) ∙ ap (λ rows. first_unlike (length c.columns-width.result.now) rows) (sym c.as_slice-2.ensures) ∙ sym c.in-Some.ensures ∙ ap (λ n. Some n) (sym c.in_ok-name-in-Some.ensures),
    )

pub returns-in-None : goal.returns-in-None
returns-in-None c =
    let p = c.args.plan.now in
    let width : length c.columns-width.result.now ≡ length (columns p.tables) = ap length c.columns-width.ensures ∙ ap (λ ts. length (columns ts)) c.as_slice.ensures in
    record {
      table = c.requires;
      long = ap (λ n. first_unlike n p.rows) (sym width) ∙ ap (λ rows. first_unlike (length c.columns-width.result.now) rows) (sym c.as_slice-2.ensures) ∙ sym c.in-None.ensures;
    }
