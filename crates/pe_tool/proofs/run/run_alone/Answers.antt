use Rattle.std.proofs.Common.{ap, ◌∙◌, inr}
use Rattle.pe_outside.specs.Outside.{grown}
use Rattle.pe_tool.specs.Run.{words_of}
use Rattle.pe_tool.proofs.Sayings.{said_accepted, said_mismatch, said_refused, said_unread, said_judged, judged_complete}
use Rattle.pe_tool.proofs.run.run_alone.Goals as goal

pub returns-in-Ok-write_all-clause-accepted : goal.returns-in-Ok-write_all-clause-accepted
returns-in-Ok-write_all-clause-accepted g c =
    said_accepted c.one_design.ensures.answer (words_of c.args.words.now) (g.F.Files.told c.args.files.now) (g.F.Files.faults c.args.files.now) (g.F.Files.faults c.say.new.files)
    c.in-Ok.ensures.saying c.in-Ok.said.status c.in-Ok.ensures.cause c.in-Ok.ensures.says.status

pub returns-in-Ok-write_all-clause-refused : goal.returns-in-Ok-write_all-clause-refused
returns-in-Ok-write_all-clause-refused g c =
    let written = c.in-Ok-write_all.ensures.whole ∙ ap (grown (g.S.Sink.written c.args.out.now)) (c.as_slice.ensures ∙ c.in-Ok.ensures.says.bytes) in
    said_refused (words_of c.args.words.now) (g.F.Files.told c.args.files.now) (g.F.Files.faults c.args.files.now) (g.F.Files.faults c.say.new.files) (g.S.Sink.written c.args.out.now) (g.S.Sink.written c.write_all.new.sink)
    c.in-Ok.ensures.saying c.in-Ok.said.status c.in-Ok.ensures.cause c.in-Ok.ensures.says.status written

pub returns-in-Ok-write_all-clause-read_fault : goal.returns-in-Ok-write_all-clause-read_fault
returns-in-Ok-write_all-clause-read_fault g c =
    let written = c.in-Ok-write_all.ensures.whole ∙ ap (grown (g.S.Sink.written c.args.out.now)) (c.as_slice.ensures ∙ c.in-Ok.ensures.says.bytes) in
    said_unread (words_of c.args.words.now) (g.F.Files.told c.args.files.now) (g.F.Files.faults c.args.files.now) (g.F.Files.faults c.say.new.files) (g.S.Sink.written c.args.out.now) (g.S.Sink.written c.write_all.new.sink)
    c.in-Ok.ensures.saying c.in-Ok.said.status c.in-Ok.ensures.cause c.in-Ok.ensures.says.status written

pub returns-in-Ok-write_all-clause-judged : goal.returns-in-Ok-write_all-clause-judged
returns-in-Ok-write_all-clause-judged g c = λ n t names_is told_is quiet sound.
    let written = c.in-Ok-write_all.ensures.whole ∙ ap (grown (g.S.Sink.written c.args.out.now)) (c.as_slice.ensures ∙ c.in-Ok.ensures.says.bytes) in
    inr (said_judged (words_of c.args.words.now) (g.F.Files.told c.args.files.now) (g.F.Files.faults c.args.files.now) (g.F.Files.faults c.say.new.files) (g.S.Sink.written c.args.out.now) (g.S.Sink.written c.write_all.new.sink)
    c.in-Ok.ensures.saying c.in-Ok.said.status c.in-Ok.ensures.cause c.in-Ok.ensures.says.status written n t names_is told_is quiet)

pub returns-in-Ok-write_all-clause-mismatch : goal.returns-in-Ok-write_all-clause-mismatch
returns-in-Ok-write_all-clause-mismatch g c =
    said_mismatch (words_of c.args.words.now) (g.F.Files.told c.args.files.now) (g.F.Files.faults c.args.files.now) (g.F.Files.faults c.say.new.files)
    c.in-Ok.ensures.saying c.in-Ok.said.status c.in-Ok.ensures.cause c.in-Ok.ensures.says.status

pub returns-in-Ok-write_all-clause-complete : goal.returns-in-Ok-write_all-clause-complete
returns-in-Ok-write_all-clause-complete g c = λ n t d names_is told_is quiet sound given.
    let written = c.in-Ok-write_all.ensures.whole ∙ ap (grown (g.S.Sink.written c.args.out.now)) (c.as_slice.ensures ∙ c.in-Ok.ensures.says.bytes) in
    let judged = said_judged (words_of c.args.words.now) (g.F.Files.told c.args.files.now) (g.F.Files.faults c.args.files.now) (g.F.Files.faults c.say.new.files) (g.S.Sink.written c.args.out.now) (g.S.Sink.written c.write_all.new.sink)
    c.in-Ok.ensures.saying c.in-Ok.said.status c.in-Ok.ensures.cause c.in-Ok.ensures.says.status written n t names_is told_is quiet in
    inr (judged_complete c.one_design.ensures.answer t d judged.0 c.in-Ok.said.status given judged.1 judged.2)
