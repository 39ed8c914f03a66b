use Rattle.std.proofs.Common.{refl, sym, map}
use Rattle.std.specs.Prelude.{string_bytes}
use Rattle.pe_tool.specs.Reads.{names_view}
use Rattle.pe_tool.specs.Run.{unread}
use Rattle.pe_tool.proofs.Sayings.{judged_said}
use Rattle.pe_tool.proofs.run.say.Goals as goal

pub returns-in-Ok : goal.returns-in-Ok
returns-in-Ok g c =
    judged_said (map string_bytes c.args.words.now) (g.F.Files.told c.args.files.now) (g.F.Files.faults c.args.files.now) (g.F.Files.faults c.read_texts.new.files) (names_view c.in-Some.names) c.in-Ok.texts c.judge.result
    (sym c.in-Some.ensures) c.in-Ok.ensures.texts c.judge.ensures

pub returns-in_ok-bytes-in-Err-Failed : goal.returns-in_ok-bytes-in-Err-Failed
returns-in_ok-bytes-in-Err-Failed g c =
    let stopped = rw c.in-Err-Failed.field-0-is at c.in-Err-Failed.ensures.stopped in
    record {
      saying = unread c.in-Err-Failed.name.now;
      cause = (names_view c.in-Some.names, sym c.in-Some.ensures, stopped.0, stopped.1);
      says = record { status = refl; bytes = c.in_ok-bytes-in-Err-Failed.ensures };
    }
