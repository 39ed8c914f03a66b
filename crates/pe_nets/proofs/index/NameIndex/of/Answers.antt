use Rattle.std.proofs.Common.{◌∙◌, ap}
use Rattle.pe_nets.proofs.Indexes.{are_new, new_distinct}
use Rattle.pe_nets.proofs.index.NameIndex.of.Goals as goal

pub loop-name-init : goal.loop-name-init
loop-name-init c = (c.new-index.ensures, ap (λ known. are_new known c.args.names.now) c.new-index.ensures ∙ new_distinct c.args.names.now)
