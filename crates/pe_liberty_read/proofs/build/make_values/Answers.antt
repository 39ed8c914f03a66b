use Rattle.std.proofs.Common.{ap, sym}
use Rattle.std.proofs.lemmas.List.{take_all}
use Rattle.pe_liberty_read.specs.Meaning.{number_of}
use Rattle.pe_liberty_read.proofs.Names.{names_shape}
use Rattle.pe_liberty_read.proofs.build.make_values.Goals as goal

pub returns : goal.returns
returns c =
    names_shape c.args.text.now c.args.tokens.now _ _ c.token-number.result.place _ _ _ _ _
    c.listed.ensures.is (sym (ap number_of c.token-number.ensures)) c.new-all.ensures (rw (sym c.in_ok-name.ensures) c.in_ok-push.ensures.ok) (take_all _ _ c.loop-next-test.false) c.loop-next.invariant
