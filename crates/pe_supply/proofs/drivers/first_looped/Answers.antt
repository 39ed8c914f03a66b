use Rattle.std.proofs.Common.{◌<◌, ℕ, inl, inr, below_more, arith}
use Rattle.std.proofs.lemmas.Bool.{cases_lt}
use Rattle.std.proofs.lemmas.List.Elements.{All-contains}
use Rattle.pe_supply.specs.Drivers.{IsLooped}
use Rattle.pe_supply.proofs.drivers.first_looped.Goals as goal

pub loop-supply-preserved : goal.loop-supply-preserved
loop-supply-preserved c = below_more (λ j. IsLooped c.args.edges.now j → ⊥) c.loop-supply.supply c.loop-supply.invariant (c.is_looped.ensures.none c.if-is_looped.false)

pub returns : goal.returns
returns c = λ i h.
    elim (cases_lt i c.loop-supply.supply) [
      | inl l ↦ c.loop-supply.invariant i l h
      | inr l ↦
          let P : ℕ × ℕ → Type 0 = λ e. e.0 < c.args.count in
          absurd (omega (arith, All-contains P c.args.edges.now (i, h.back.0) c.requires.outputs h.back.1, c.loop-supply-test.false))
    ]
