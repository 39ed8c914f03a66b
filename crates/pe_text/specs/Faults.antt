-- What a fault of the tokens is as a fault of the text.
use Rattle.pe_text.specs.declared.fault.LexFault.{LexFault}
use Rattle.pe_text.specs.declared.fault.LexFault.TheVariants as lex
use Rattle.pe_text.specs.declared.fault.ReadFault.{ReadFault}
use Rattle.pe_text.specs.declared.fault.ReadFault.TheVariants as read

-- a bad token is wrong where it starts
abbrev pub read_fault_of : LexFault → ReadFault
read_fault_of lex.Memory = read.Memory
read_fault_of (lex.Bad at) = read.Syntax at
