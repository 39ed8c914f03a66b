use Rattle.std.proofs.Common.{length}
use Rattle.pe_text.specs.Language.{class_of}
use Rattle.pe_text.proofs.Scans.{in_order_parts}
use Rattle.pe_text.proofs.scanning.tokens_of.Goals as goal

pub returns-in-Ok-clause-parts : goal.returns-in-Ok-clause-parts
returns-in-Ok-clause-parts c =
    in_order_parts 0 (length c.args.text.now) c.in-Ok.tokens (c.cut_order.ensures.in_order (class_of c.args.lang) c.args.text.now c.in-Ok.tokens c.in-Ok.ensures.found)
