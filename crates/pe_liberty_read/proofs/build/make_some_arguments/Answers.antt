use Rattle.std.proofs.Common.{sym}
use Rattle.std.proofs.lemmas.List.{take_all}
use Rattle.pe_liberty_read.proofs.Names.{names_shape}
use Rattle.pe_liberty_read.proofs.build.make_some_arguments.Goals as goal

pub returns : goal.returns
returns c =
    names_shape c.args.text.now c.args.tokens.now _ _ c.number_of_argument.result _ _ _ _ _
    c.listed.ensures.is c.number_of_argument.ensures c.new-all.ensures (rw (sym c.in_ok-name.ensures) c.in_ok-push.ensures.ok) (take_all _ _ c.loop-next-test.false) c.loop-next.invariant
