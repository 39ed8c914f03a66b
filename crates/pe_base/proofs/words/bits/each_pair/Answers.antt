use Rattle.std.proofs.Common.{◌≤◌, length, arith, ◌∙◌}
use Rattle.std.proofs.lemmas.List.{take_all}
use Rattle.pe_base.proofs.Pairs.{take-each_pair, length-each_pair}
use Rattle.pe_base.specs.Words.{each_pair}
use Rattle.pe_base.specs.Gates.{gate_of}
use Rattle.pe_base.specs.declared.value.Val.TheVariants.{Zero}
use Rattle.pe_base.proofs.words.bits.each_pair.Goals as goal

pub loop-i-preserved : goal.loop-i-preserved
loop-i-preserved c =
    let more = take-each_pair (gate_of c.args.gate) c.args.a.now c.args.b.now c.loop-i.i Zero c.requires c.loop-i-test.true in
    let bit = c.of.ensures in
    let push = c.in_ok-push.ensures.items in
    cc

pub returns : goal.returns
returns c =
    let whole = length-each_pair (gate_of c.args.gate) c.args.a.now c.args.b.now c.requires in
    let past = c.loop-i-test.false in
    let all : length (each_pair (gate_of c.args.gate) c.args.a.now c.args.b.now) ≤ c.loop-i.i = omega arith in
    c.from_vec.ensures ∙ c.loop-i.invariant ∙ take_all c.loop-i.i _ all
