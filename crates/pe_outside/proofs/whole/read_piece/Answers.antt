use Rattle.std.proofs.Common.{rules}
use Rattle.std.proofs.lemmas.Option.{IfSome_then}
use Rattle.pe_outside.proofs.Pieces.{front_grows}
use Rattle.pe_outside.proofs.whole.read_piece.Goals as goal

pub returns-clause-front : goal.returns-clause-front
returns-clause-front g c =
    IfSome_then (g.F.Files.told c.args.files.now c.args.name.now) c.in_ok-read.ensures.bytes
    (λ whole placed is_front. rw c.in_ok-extend_from_slice.ensures.items
    (front_grows c.args.bytes.now.items whole c.read_at.new.into c.len.result c.in_ok-read.read (search rules) placed is_front))
