use Rattle.std.proofs.Common.{◌≡◌, false, Option, None, Some, length, arith, refl, sym, ◌∙◌, inl, inr}
use Rattle.std.proofs.lemmas.List.{get_or_past, get_or_read}
use Rattle.pe_cnf.proofs.MarkLemmas.{not_both}
use Rattle.pe_cnf.specs.declared.equality.Equality.{Equality as Seen}
use Rattle.pe_refute.proofs.Numbers.{lt_or_le}
use Rattle.pe_refute.proofs.checkable.all_in.Goals as goal

pub returns-then-not-sides_in : goal.returns-then-not-sides_in
returns-then-not-sides_in c =
    let item = get_or_read c.args.seen.now c.loop-place.place-index _ c.loop-place-test.true c.place-item.is None in (
      λ t. absurd (not_both false t refl),
      λ h. absurd (not_both c.sides_in.result (c.sides_in.ensures.1 (λ e q. h c.loop-place.place-index e (sym item ∙ q))) c.if-not-sides_in.true),
    )

pub returns : goal.returns
returns c = (
  λ t i e q. elim (lt_or_le i (length c.args.seen.now)) [
    | inl lt ↦ c.loop-place.invariant i (omega arith) e q
    | inr past ↦ let none : Option Seen = None in let gone : none ≡ Some e = sym (get_or_past c.args.seen.now i None past) ∙ q in absurd cc
  ],
  λ h. refl,
)
