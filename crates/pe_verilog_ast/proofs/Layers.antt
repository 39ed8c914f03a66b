-- The size and the weight of an expression, by its variant.
use Rattle.std.proofs.Common.{◌≡◌, ℕ, List, sym, ap, ◌∙◌}
use Rattle.std.specs.Prelude.{map}
use Rattle.pe_verilog_ast.specs.declared.number.Digit.{Digit}
use Rattle.pe_verilog_ast.specs.declared.operator.UnOp.{UnOp}
use Rattle.pe_verilog_ast.specs.declared.expression.Ex.{Ex, fold-Ex, fold-roll-Ex}
use Rattle.pe_verilog_ast.specs.declared.expression.Ex.TheVariants as ex
use Rattle.pe_verilog_ast.specs.declared.expression.Ex.TheOpen as layer
use Rattle.pe_verilog_ast.specs.declared.expression.Operand.{Operand, fold_out-Operand}
use Rattle.pe_verilog_ast.specs.declared.expression.Select.{Select, fold-Select, fold-roll-Select}
use Rattle.pe_verilog_ast.specs.declared.expression.Select.TheVariants as select
use Rattle.pe_verilog_ast.specs.Weights.{Sized, Step, Bits, number, net_size, selected, joined, repeated, applied, grouped, chosen, layer_of, step_layer, bits_layer, sized, step, bits, whole, bit, part}

pub sized-Number : (nets : List (List ℕ × ℕ)) (ds : List Digit) → sized nets (ex.Number ds) ≡ number ds
unfolding sized
sized-Number nets ds = ap (fold-Ex Sized Bits Step (layer_of nets) bits_layer step_layer) (sym (ex.rolls-Number ds)) ∙ fold-roll-Ex Sized Bits Step (layer_of nets) bits_layer step_layer (layer.Number ds)

pub sized-Net : (nets : List (List ℕ × ℕ)) (name : List ℕ) (s : Select) → sized nets (ex.Net name s) ≡ selected (net_size nets name) (bits nets s)
unfolding sized bits
sized-Net nets name s = ap (fold-Ex Sized Bits Step (layer_of nets) bits_layer step_layer) (sym (ex.rolls-Net name s)) ∙ fold-roll-Ex Sized Bits Step (layer_of nets) bits_layer step_layer (layer.Net name s)

pub sized-Join : (nets : List (List ℕ × ℕ)) (es : List Ex) → sized nets (ex.Join es) ≡ joined (map (sized nets) es)
unfolding sized
sized-Join nets es = ap (fold-Ex Sized Bits Step (layer_of nets) bits_layer step_layer) (sym (ex.rolls-Join es)) ∙ fold-roll-Ex Sized Bits Step (layer_of nets) bits_layer step_layer (layer.Join es)

pub sized-Repeat : (nets : List (List ℕ × ℕ)) (n : Ex) (es : List Ex) → sized nets (ex.Repeat n es) ≡ repeated (sized nets n) (map (sized nets) es)
unfolding sized
sized-Repeat nets n es = ap (fold-Ex Sized Bits Step (layer_of nets) bits_layer step_layer) (sym (ex.rolls-Repeat n es)) ∙ fold-roll-Ex Sized Bits Step (layer_of nets) bits_layer step_layer (layer.Repeat n es)

pub sized-Unary : (nets : List (List ℕ × ℕ)) (op : UnOp) (e : Ex) → sized nets (ex.Unary op e) ≡ applied op (sized nets e)
unfolding sized
sized-Unary nets op e = ap (fold-Ex Sized Bits Step (layer_of nets) bits_layer step_layer) (sym (ex.rolls-Unary op e)) ∙ fold-roll-Ex Sized Bits Step (layer_of nets) bits_layer step_layer (layer.Unary op e)

pub sized-Chain : (nets : List (List ℕ × ℕ)) (e : Ex) (more : List Operand) → sized nets (ex.Chain e more) ≡ grouped (sized nets e) (map (step nets) more)
unfolding sized step
sized-Chain nets e more = ap (fold-Ex Sized Bits Step (layer_of nets) bits_layer step_layer) (sym (ex.rolls-Chain e more)) ∙ fold-roll-Ex Sized Bits Step (layer_of nets) bits_layer step_layer (layer.Chain e more)

pub sized-Choose : (nets : List (List ℕ × ℕ)) (c a b : Ex) → sized nets (ex.Choose c a b) ≡ chosen (sized nets c) (sized nets a) (sized nets b)
unfolding sized
sized-Choose nets c a b = ap (fold-Ex Sized Bits Step (layer_of nets) bits_layer step_layer) (sym (ex.rolls-Choose c a b)) ∙ fold-roll-Ex Sized Bits Step (layer_of nets) bits_layer step_layer (layer.Choose c a b)

pub bits-Whole : (nets : List (List ℕ × ℕ)) → bits nets select.Whole ≡ whole
unfolding bits
bits-Whole nets = ap (fold-Select Sized Bits Step (layer_of nets) bits_layer step_layer) (sym select.rolls-Whole) ∙ fold-roll-Select Sized Bits Step (layer_of nets) bits_layer step_layer layer.Whole

pub bits-Bit : (nets : List (List ℕ × ℕ)) (e : Ex) → bits nets (select.Bit e) ≡ bit (sized nets e)
unfolding bits sized
bits-Bit nets e = ap (fold-Select Sized Bits Step (layer_of nets) bits_layer step_layer) (sym (select.rolls-Bit e)) ∙ fold-roll-Select Sized Bits Step (layer_of nets) bits_layer step_layer (layer.Bit e)

pub bits-Part : (nets : List (List ℕ × ℕ)) (a b : Ex) → bits nets (select.Part a b) ≡ part (sized nets a) (sized nets b)
unfolding bits sized
bits-Part nets a b = ap (fold-Select Sized Bits Step (layer_of nets) bits_layer step_layer) (sym (select.rolls-Part a b)) ∙ fold-roll-Select Sized Bits Step (layer_of nets) bits_layer step_layer (layer.Part a b)

pub step_is : (nets : List (List ℕ × ℕ)) (s : Operand) → step nets s ≡ record { op = s.op; value = sized nets s.value }
unfolding step sized
step_is nets s = fold_out-Operand Sized Bits Step (layer_of nets) bits_layer step_layer s

pub ruleset layers = (sized-Number, sized-Net, sized-Join, sized-Repeat, sized-Unary, sized-Chain, sized-Choose, bits-Whole, bits-Bit, bits-Part, step_is)
