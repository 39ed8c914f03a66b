-- Operators on two bits, as the code names them.
use Rattle.pe_base.specs.declared.value.Val.{Val}
use Rattle.pe_base.specs.declared.words.bits.Gate.{Gate}
use Rattle.pe_base.specs.declared.words.bits.Gate.TheVariants.{And, Or, Xor, Xnor, Pick}
use Rattle.pe_base.specs.Values.{pick_of}
use Rattle.pe_base.specs.Operators.{and_of, or_of, xor_of, xnor_of}

abbrev pub gate_of : Gate → Val → Val → Val
gate_of And = and_of
gate_of Or = or_of
gate_of Xor = xor_of
gate_of Xnor = xnor_of
gate_of (Pick control) = pick_of control
