-- Which net an expression is, by its variants.
use Rattle.std.proofs.Common.{◌≡◌, ℕ, Bool, true, false, List, cond, Option, Some, None, sym, ap, ◌∙◌}
use Rattle.pe_verilog_ast.specs.declared.number.Digit.{Digit}
use Rattle.pe_verilog_ast.specs.declared.operator.UnOp.{UnOp}
use Rattle.pe_verilog_ast.specs.declared.expression.Ex.{Ex, fold-Ex, fold-roll-Ex}
use Rattle.pe_verilog_ast.specs.declared.expression.Ex.TheVariants as ex
use Rattle.pe_verilog_ast.specs.declared.expression.Ex.TheOpen as layer
use Rattle.pe_verilog_ast.specs.declared.expression.Operand.{Operand}
use Rattle.pe_verilog_ast.specs.declared.expression.Select.{Select, fold-Select, fold-roll-Select}
use Rattle.pe_verilog_ast.specs.declared.expression.Select.TheVariants as select
use Rattle.pe_instances.specs.Form.{net_of, is_whole, net_layer, whole_layer, operand_layer}

abbrev net_fold : Ex → Option (List ℕ)
net_fold e = fold-Ex (Option (List ℕ)) Bool (Unit {0}) net_layer whole_layer operand_layer e

abbrev whole_fold : Select → Bool
whole_fold s = fold-Select (Option (List ℕ)) Bool (Unit {0}) net_layer whole_layer operand_layer s

pub net-Number : (ds : List Digit) → net_of (ex.Number ds) ≡ None
unfolding net_of is_whole
net-Number ds = ap net_fold (sym (ex.rolls-Number ds)) ∙ fold-roll-Ex (Option (List ℕ)) Bool (Unit {0}) net_layer whole_layer operand_layer (layer.Number ds)

pub net-Net : (name : List ℕ) (s : Select) → net_of (ex.Net name s) ≡ cond (is_whole s) (Some name) None
unfolding net_of is_whole
net-Net name s = ap net_fold (sym (ex.rolls-Net name s)) ∙ fold-roll-Ex (Option (List ℕ)) Bool (Unit {0}) net_layer whole_layer operand_layer (layer.Net name s)

pub net-Join : (es : List Ex) → net_of (ex.Join es) ≡ None
unfolding net_of is_whole
net-Join es = ap net_fold (sym (ex.rolls-Join es)) ∙ fold-roll-Ex (Option (List ℕ)) Bool (Unit {0}) net_layer whole_layer operand_layer (layer.Join es)

pub net-Repeat : (n : Ex) (es : List Ex) → net_of (ex.Repeat n es) ≡ None
unfolding net_of is_whole
net-Repeat n es = ap net_fold (sym (ex.rolls-Repeat n es)) ∙ fold-roll-Ex (Option (List ℕ)) Bool (Unit {0}) net_layer whole_layer operand_layer (layer.Repeat n es)

pub net-Unary : (op : UnOp) (e : Ex) → net_of (ex.Unary op e) ≡ None
unfolding net_of is_whole
net-Unary op e = ap net_fold (sym (ex.rolls-Unary op e)) ∙ fold-roll-Ex (Option (List ℕ)) Bool (Unit {0}) net_layer whole_layer operand_layer (layer.Unary op e)

pub net-Chain : (e : Ex) (more : List Operand) → net_of (ex.Chain e more) ≡ None
unfolding net_of is_whole
net-Chain e more = ap net_fold (sym (ex.rolls-Chain e more)) ∙ fold-roll-Ex (Option (List ℕ)) Bool (Unit {0}) net_layer whole_layer operand_layer (layer.Chain e more)

pub net-Choose : (c a b : Ex) → net_of (ex.Choose c a b) ≡ None
unfolding net_of is_whole
net-Choose c a b = ap net_fold (sym (ex.rolls-Choose c a b)) ∙ fold-roll-Ex (Option (List ℕ)) Bool (Unit {0}) net_layer whole_layer operand_layer (layer.Choose c a b)

pub whole-Whole : is_whole select.Whole ≡ true
unfolding net_of is_whole
whole-Whole = ap whole_fold (sym select.rolls-Whole) ∙ fold-roll-Select (Option (List ℕ)) Bool (Unit {0}) net_layer whole_layer operand_layer layer.Whole

pub whole-Bit : (e : Ex) → is_whole (select.Bit e) ≡ false
unfolding net_of is_whole
whole-Bit e = ap whole_fold (sym (select.rolls-Bit e)) ∙ fold-roll-Select (Option (List ℕ)) Bool (Unit {0}) net_layer whole_layer operand_layer (layer.Bit e)

pub whole-Part : (a b : Ex) → is_whole (select.Part a b) ≡ false
unfolding net_of is_whole
whole-Part a b = ap whole_fold (sym (select.rolls-Part a b)) ∙ fold-roll-Select (Option (List ℕ)) Bool (Unit {0}) net_layer whole_layer operand_layer (layer.Part a b)

pub ruleset layers = (net-Number, net-Net, net-Join, net-Repeat, net-Unary, net-Chain, net-Choose, whole-Whole, whole-Bit, whole-Part)
