use Rattle.std.proofs.Common.{None}
use Rattle.std.proofs.lemmas.Result.{IfOk-weaker}
use Rattle.pe_questions.specs.Answers.{IsOutputAnswer}
use Rattle.pe_questions.specs.Cases.{IsReplayed}
use Rattle.pe_questions.proofs.Judged.{placed, output_found, found_long, mismatch_replayed}
use Rattle.pe_questions.proofs.judging.output_answer.Goals as goal

pub returns-in-None : goal.returns-in-None
returns-in-None c =
    let places = placed c.args.d.now c.args.output.now c.args.places.now.rtl c.args.places.now.net c.place-rtl.result c.place-net.result c.requires.rtl c.requires.net c.place-rtl.ensures c.place-net.ensures in
    output_found c.args.d.now c.args.step c.args.output.now c.args.cases.now None c.place-rtl.result c.place-net.result c.requires.sound c.requires.cases places c.in-None.ensures

pub replayed-requires-clause-long : goal.replayed-requires-clause-long
replayed-requires-clause-long c =
    let places = placed c.args.d.now c.args.output.now c.args.places.now.rtl c.args.places.now.net c.place-rtl.result c.place-net.result c.requires.rtl c.requires.net c.place-rtl.ensures c.place-net.ensures in
    found_long c.args.d.now c.args.step c.args.output.now c.args.cases.now c.in-Some.case.now c.place-rtl.result c.place-net.result c.as_slice.result.now
    c.requires.sound c.requires.cases places c.in-Some.ensures c.as_slice.ensures

pub returns-in-Some : goal.returns-in-Some
returns-in-Some c =
    let places = placed c.args.d.now c.args.output.now c.args.places.now.rtl c.args.places.now.net c.place-rtl.result c.place-net.result c.requires.rtl c.requires.net c.place-rtl.ensures c.place-net.ensures in
    IfOk-weaker c.replayed.result (IsReplayed c.args.d.now c.place-rtl.result c.place-net.result c.as_slice.result.now) (IsOutputAnswer c.args.d.now c.args.step c.args.output.now)
    (λ answer replayed. mismatch_replayed c.args.d.now c.args.step c.args.output.now c.args.cases.now c.in-Some.case.now c.place-rtl.result c.place-net.result c.as_slice.result.now answer
    c.requires.sound c.requires.cases places c.in-Some.ensures c.as_slice.ensures replayed) c.replayed.ensures
