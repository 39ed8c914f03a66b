-- What an expression, an operand and a selection are, by their variants.
use Rattle.std.proofs.Common.{◌≡◌, ℕ, Bool, true, false, List, sym, ap, ◌∙◌}
use Rattle.std.specs.Prelude.{map}
use Rattle.pe_verilog_ast.specs.declared.number.Digit.{Digit}
use Rattle.pe_verilog_ast.specs.declared.operator.UnOp.{UnOp}
use Rattle.pe_verilog_ast.specs.declared.expression.Ex.{Ex, fold-Ex, fold-roll-Ex}
use Rattle.pe_verilog_ast.specs.declared.expression.Ex.TheVariants as ex
use Rattle.pe_verilog_ast.specs.declared.expression.Ex.TheOpen as layer
use Rattle.pe_verilog_ast.specs.declared.expression.Operand.{Operand, fold_out-Operand}
use Rattle.pe_verilog_ast.specs.declared.expression.Select.{Select, fold-Select, fold-roll-Select}
use Rattle.pe_verilog_ast.specs.declared.expression.Select.TheVariants as select
use Rattle.pe_assigns.specs.Logic.{Logic, other, Step, layer_of, step_layer, whole_layer, selected, applied, chained, logic_of, step_of, is_whole}

pub logic-Number : (ds : List Digit) → logic_of (ex.Number ds) ≡ other
unfolding logic_of is_whole step_of
logic-Number ds = ap (fold-Ex Logic Bool Step layer_of whole_layer step_layer) (sym (ex.rolls-Number ds)) ∙ fold-roll-Ex Logic Bool Step layer_of whole_layer step_layer (layer.Number ds)

pub logic-Net : (name : List ℕ) (s : Select) → logic_of (ex.Net name s) ≡ selected name (is_whole s)
unfolding logic_of is_whole step_of
logic-Net name s = ap (fold-Ex Logic Bool Step layer_of whole_layer step_layer) (sym (ex.rolls-Net name s)) ∙ fold-roll-Ex Logic Bool Step layer_of whole_layer step_layer (layer.Net name s)

pub logic-Join : (es : List Ex) → logic_of (ex.Join es) ≡ other
unfolding logic_of is_whole step_of
logic-Join es = ap (fold-Ex Logic Bool Step layer_of whole_layer step_layer) (sym (ex.rolls-Join es)) ∙ fold-roll-Ex Logic Bool Step layer_of whole_layer step_layer (layer.Join es)

pub logic-Repeat : (n : Ex) (es : List Ex) → logic_of (ex.Repeat n es) ≡ other
unfolding logic_of is_whole step_of
logic-Repeat n es = ap (fold-Ex Logic Bool Step layer_of whole_layer step_layer) (sym (ex.rolls-Repeat n es)) ∙ fold-roll-Ex Logic Bool Step layer_of whole_layer step_layer (layer.Repeat n es)

pub logic-Unary : (op : UnOp) (e : Ex) → logic_of (ex.Unary op e) ≡ applied op (logic_of e)
unfolding logic_of is_whole step_of
logic-Unary op e = ap (fold-Ex Logic Bool Step layer_of whole_layer step_layer) (sym (ex.rolls-Unary op e)) ∙ fold-roll-Ex Logic Bool Step layer_of whole_layer step_layer (layer.Unary op e)

pub logic-Chain : (e : Ex) (more : List Operand) → logic_of (ex.Chain e more) ≡ chained (logic_of e) (map step_of more)
unfolding logic_of is_whole step_of
logic-Chain e more = ap (fold-Ex Logic Bool Step layer_of whole_layer step_layer) (sym (ex.rolls-Chain e more)) ∙ fold-roll-Ex Logic Bool Step layer_of whole_layer step_layer (layer.Chain e more)

pub logic-Choose : (c : Ex) (a : Ex) (b : Ex) → logic_of (ex.Choose c a b) ≡ other
unfolding logic_of is_whole step_of
logic-Choose c a b = ap (fold-Ex Logic Bool Step layer_of whole_layer step_layer) (sym (ex.rolls-Choose c a b)) ∙ fold-roll-Ex Logic Bool Step layer_of whole_layer step_layer (layer.Choose c a b)

pub whole-Whole : is_whole select.Whole ≡ true
unfolding is_whole
whole-Whole = ap (fold-Select Logic Bool Step layer_of whole_layer step_layer) (sym select.rolls-Whole) ∙ fold-roll-Select Logic Bool Step layer_of whole_layer step_layer layer.Whole

pub whole-Bit : (e : Ex) → is_whole (select.Bit e) ≡ false
unfolding is_whole logic_of
whole-Bit e = ap (fold-Select Logic Bool Step layer_of whole_layer step_layer) (sym (select.rolls-Bit e)) ∙ fold-roll-Select Logic Bool Step layer_of whole_layer step_layer (layer.Bit e)

pub whole-Part : (a b : Ex) → is_whole (select.Part a b) ≡ false
unfolding is_whole logic_of
whole-Part a b = ap (fold-Select Logic Bool Step layer_of whole_layer step_layer) (sym (select.rolls-Part a b)) ∙ fold-roll-Select Logic Bool Step layer_of whole_layer step_layer (layer.Part a b)

pub step_is : (s : Operand) → step_of s ≡ record { op = s.op; value = logic_of s.value }
unfolding step_of logic_of
step_is s = fold_out-Operand Logic Bool Step layer_of whole_layer step_layer s

pub ruleset layers = (logic-Number, logic-Net, logic-Join, logic-Repeat, logic-Unary, logic-Chain, logic-Choose, whole-Whole, whole-Bit, whole-Part, step_is)
