use Rattle.std.proofs.Common.{◌+◌, sym, subst, add-one, arith}
use Rattle.pe_supply.specs.Drivers.{Reaches}
use Rattle.pe_supply.proofs.Looping.{next_some, reach_more, never, ended, not_back}
use Rattle.pe_supply.proofs.drivers.is_looped.Goals as goal

pub returns-in-None-clause-none : goal.returns-in-None-clause-none
returns-in-None-clause-none c = λ _. ended c.args.edges.now c.requires.once c.args.supply c.loop-step.at c.loop-step._step c.loop-step.invariant.here (sym c.in-None.ensures) c.loop-step.invariant.not_yet

pub returns-then-input-supply-clause-found : goal.returns-then-input-supply-clause-found
returns-then-input-supply-clause-found c = λ _.
    let edge = next_some c.args.edges.now c.loop-step.at c.in-Some.input (sym c.in-Some.ensures) in
    let way = reach_more c.args.edges.now c.loop-step._step c.args.supply c.loop-step.at c.in-Some.input c.loop-step.invariant.here edge in
    record { behind = c.loop-step._step; back = subst (λ x. Reaches c.args.edges.now x c.args.supply c.args.supply) (add-one c.loop-step._step) (subst (λ x. Reaches c.args.edges.now (c.loop-step._step + 1) c.args.supply x) c.if-input-supply.true way) }

pub loop-step-preserved : goal.loop-step-preserved
loop-step-preserved c =
    let edge = next_some c.args.edges.now c.loop-step.at c.in-Some.input (sym c.in-Some.ensures) in
    let way = reach_more c.args.edges.now c.loop-step._step c.args.supply c.loop-step.at c.in-Some.input c.loop-step.invariant.here edge in
    record { here = way; not_yet = not_back c.args.edges.now c.requires.once c.args.supply c.loop-step._step c.in-Some.input way c.if-input-supply.false c.loop-step.invariant.not_yet }

pub returns-clause-none : goal.returns-clause-none
returns-clause-none c = λ _. never c.args.edges.now c.args.count c.requires.once c.requires.inputs c.args.supply c.requires.within (λ m more within. c.loop-step.invariant.not_yet m more (omega arith))
