use Rattle.std.proofs.Common.{ap, ◌∙◌}
use Rattle.std.specs.List.{position_or_len}
use Rattle.std.specs.Str.{bytes_eq}
use Rattle.pe_upf_read.specs.Terminals.{keywords, number_of}
use Rattle.pe_upf_read.proofs.terminals.number.Goals as goal

pub returns : goal.returns
unfolding number_of
returns c = c.place_among.ensures.place ∙ ap (λ word. position_or_len (λ keyword. bytes_eq keyword word) keywords) c.spelling.ensures
