use Rattle.std.proofs.Common.{◌≡◌, false, ap, sym, ◌∙◌, refl, take, length, arith}
use Rattle.std.proofs.lemmas.Grind.{common_steps}
use Rattle.pe_cnf.specs.Cone.{cites}
use Rattle.pe_cnf.proofs.MarkLemmas.{cites_at, cited_within, not_both}
use Rattle.pe_cnf.proofs.askable.has_cited.Goals as goal

pub loop-e-preserved : goal.loop-e-preserved
loop-e-preserved c =
    cited_within c.args.cited.now c.loop-e.e-index (length c.args.graph.now) c.e-item.result c.loop-e-test.true (sym c.e-item.is) (c.has.ensures.0 c.if-not-has.false) (c.has-in-loop-e.ensures.0 c.if-not-has-2.false) c.loop-e.invariant

pub returns-then-not-has : goal.returns-then-not-has
returns-then-not-has c = (
  λ t. absurd (not_both false t refl),
  λ h. absurd (not_both c.has.result (c.has.ensures.1 (h _ (cites_at c.args.cited.now c.loop-e.e-index c.e-item.result c.loop-e-test.true (sym c.e-item.is)).0)) c.if-not-has.true),
)

pub returns-then-not-has-2 : goal.returns-then-not-has-2
returns-then-not-has-2 c = (
  λ t. absurd (not_both false t refl),
  λ h. absurd (not_both c.has-in-loop-e.result (c.has-in-loop-e.ensures.1 (h _ (cites_at c.args.cited.now c.loop-e.e-index c.e-item.result c.loop-e-test.true (sym c.e-item.is)).1)) c.if-not-has-2.true),
)

pub returns : goal.returns
returns c =
    let all : take c.loop-e.e-index c.args.cited.now ≡ c.args.cited.now = grind (arith, common_steps) in (
      λ t x h. c.loop-e.invariant x (ap (λ cited. cites cited x) all ∙ h),
      λ h. refl,
    )
