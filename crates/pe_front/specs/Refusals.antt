-- What a check tells of a reader's fault.
use Rattle.pe_text.specs.declared.fault.ReadFault.{ReadFault}
use Rattle.pe_text.specs.declared.fault.ReadFault.TheVariants as read
use Rattle.pe_cells.specs.declared.fault.CellFault.{CellFault}
use Rattle.pe_cells.specs.declared.fault.CellFault.TheVariants as cell
use Rattle.pe_supply.specs.declared.fault.SupplyFault.{SupplyFault}
use Rattle.pe_supply.specs.declared.fault.SupplyFault.TheVariants as supply
use Rattle.pe_front.specs.declared.fault.CheckFault.{CheckFault}
use Rattle.pe_front.specs.declared.fault.CheckFault.TheVariants.{Memory, Refused}
use Rattle.pe_front.specs.declared.fault.Fault.TheVariants.{Read, Cell, Supply}
use Rattle.pe_front.specs.declared.fault.Part.{Part}
use Rattle.pe_front.specs.declared.fault.Part.TheVariants.{Lib, Upf}

abbrev pub read_refusal : Part → ReadFault → CheckFault
read_refusal part read.Memory = Memory
read_refusal part fault = Refused part (Read fault)

abbrev pub cell_refusal : CellFault → CheckFault
cell_refusal cell.Memory = Memory
cell_refusal fault = Refused Lib (Cell fault)

abbrev pub supply_refusal : SupplyFault → CheckFault
supply_refusal supply.Memory = Memory
supply_refusal fault = Refused Upf (Supply fault)
