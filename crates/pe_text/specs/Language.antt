-- The class of tokens that each language has.
use Rattle.pe_text.specs.declared.language.Lang.{Lang}
use Rattle.pe_text.specs.declared.language.Lang.TheVariants as lang
use Rattle.pe_text.specs.declared.language.Class.{Class}
use Rattle.pe_text.specs.declared.language.Class.TheVariants as class

abbrev pub class_of : Lang → Class
class_of lang.Rtl = class.Verilog
class_of lang.Netlist = class.Verilog
class_of lang.Upf = class.Upf
class_of lang.Liberty = class.Liberty
class_of lang.Map = class.Map
