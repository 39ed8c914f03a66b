-- The line of a refusal: the part, the fault's name in lower case, and its fields.
use Rattle.std.specs.Prelude.{ℕ, List, [], ◌∷◌, ◌++◌, codes}
use Rattle.std.specs.Fmt.{decimal}
use Rattle.pe_text.specs.declared.fault.ReadFault.{ReadFault}
use Rattle.pe_text.specs.declared.fault.ReadFault.TheVariants as read
use Rattle.pe_text.specs.declared.fault.Which.{Which}
use Rattle.pe_text.specs.declared.fault.Which.TheVariants.{File, Nesting, Width, Inputs}
use Rattle.pe_cells.specs.declared.fault.CellFault.{CellFault}
use Rattle.pe_cells.specs.declared.fault.CellFault.TheVariants as cell
use Rattle.pe_supply.specs.declared.fault.SupplyFault.{SupplyFault}
use Rattle.pe_supply.specs.declared.fault.SupplyFault.TheVariants as supply
use Rattle.pe_front.specs.declared.fault.Part.{Part}
use Rattle.pe_front.specs.declared.fault.Part.TheVariants.{Rtl, Upf, Lib, Net, Map}
use Rattle.pe_front.specs.declared.fault.Fault.{Fault}
use Rattle.pe_front.specs.declared.fault.Fault.TheVariants.{Read, NotBuilt, Cell, Supply, TooWide}

abbrev pub part_word : Part → List ℕ
part_word Rtl = codes "rtl"
part_word Upf = codes "upf"
part_word Lib = codes "lib"
part_word Net = codes "net"
part_word Map = codes "map"

abbrev pub which_word : Which → List ℕ
which_word File = codes "file"
which_word Nesting = codes "nesting"
which_word Width = codes "width"
which_word Inputs = codes "inputs"

-- a name with a space before it
abbrev pub field : List ℕ → List ℕ
field bytes = codes " " ++ bytes

abbrev pub read_words : ReadFault → List ℕ
read_words read.Memory = []
read_words (read.Syntax at) = codes "syntax" ++ field (decimal at)
read_words (read.Unsupported at word) = codes "unsupported" ++ field (decimal at) ++ field word
read_words (read.Limit at which) = codes "limit" ++ field (decimal at) ++ field (which_word which)

abbrev pub cell_words : CellFault → List ℕ
cell_words cell.Memory = []
cell_words (cell.NoCell name) = codes "no cell" ++ field name
cell_words (cell.CellForm name attribute) = codes "cell form" ++ field name ++ field attribute
cell_words (cell.Expression name attribute) = codes "expression" ++ field name ++ field attribute

abbrev pub supply_words : SupplyFault → List ℕ
supply_words supply.Memory = []
supply_words (supply.NoSupply name) = codes "no supply" ++ field name
supply_words (supply.TwoDrivers name) = codes "two drivers" ++ field name
supply_words (supply.TwoNets port) = codes "two nets" ++ field port
supply_words (supply.SupplyLoop name) = codes "supply loop" ++ field name
supply_words (supply.Expression name) = codes "expression" ++ field name
supply_words supply.NoRows = codes "no rows"
supply_words (supply.TwoTables name) = codes "two tables" ++ field name
supply_words (supply.RowLength name) = codes "row length" ++ field name
supply_words (supply.NoState name) = codes "no state" ++ field name
supply_words (supply.TooManyRows count) = codes "too many rows" ++ field (decimal count)
supply_words (supply.TooManySupplies count) = codes "too many supplies" ++ field (decimal count)

abbrev pub fault_words : Fault → List ℕ
fault_words (Read fault) = read_words fault
fault_words NotBuilt = codes "not built"
fault_words (Cell fault) = cell_words fault
fault_words (Supply fault) = supply_words fault
fault_words (TooWide count) = codes "too wide" ++ field (decimal count)

abbrev pub refusal : Part → Fault → List ℕ
refusal part fault = codes "refused: " ++ part_word part ++ field (fault_words fault) ++ 10 ∷ []
