-- How an evaluation goes: it begins with inputs that have their values, and all other nets corrupt, and gives one target after
-- another its value.
use Rattle.std.specs.Prelude.{ℕ, ◌+◌, Bool, cond, List, [], ◌∷◌, ◌++◌, map, slice_set}
use Rattle.pe_base.specs.Names.{place_of}
use Rattle.pe_nets.specs.Nets.{value_in}
use Rattle.pe_verilog_ast.specs.declared.expression.Ex.{Ex}
use Rattle.pe_assigns.specs.Logic.{logic_of, value_of}
use Rattle.pe_base.specs.declared.value.Val.{Val}
use Rattle.pe_base.specs.declared.value.Val.TheVariants.{Corrupt}
use Rattle.pe_verilog_ast.specs.declared.module.HeadPort.{HeadPort}
use Rattle.pe_verilog_ast.specs.declared.module.Module.{Module}
use Rattle.pe_assigns.specs.Form.{is_input_port, wires}
use Rattle.pe_assigns.specs.Settled.{given_at}

-- of ports, before which stand k inputs
abbrev pub start_of_ports : List HeadPort → ℕ → List Bool → List Val
start_of_ports [] k inputs = []
start_of_ports (p ∷ ps) k inputs = cond (is_input_port p) (given_at inputs k ∷ start_of_ports ps (k + 1) inputs) (Corrupt ∷ start_of_ports ps k inputs)

abbrev pub start_of : Module → List Bool → List Val
start_of m inputs = start_of_ports m.ports 0 inputs ++ map (λ w. Corrupt) (wires m)

abbrev pub written : List (List ℕ) → Bool → List Val → List (List ℕ × Ex) → List Val
written nets on values [] = values
written nets on values (a ∷ more) =
    written nets on (slice_set values (place_of nets a.0) (cond on (value_of (value_in nets values) (logic_of a.1)) Corrupt)) more
