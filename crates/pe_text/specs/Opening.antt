-- What the code finds at a place, without where it lies in memory.
use Rattle.pe_text.specs.declared.opening.Opening.{Opening}
use Rattle.pe_text.specs.declared.opening.Opening.TheVariants.{Gap, Token, Bad}
use Rattle.pe_text.specs.Start.{Start, gap, token, bad}

abbrev pub start_of : Opening → Start
start_of (Gap rest) = gap rest.now
start_of (Token kind rest) = token kind rest.now
start_of Bad = bad
