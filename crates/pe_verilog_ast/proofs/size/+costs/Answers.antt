use Rattle.std.proofs.Common.{◌≡◌, ◌+◌, ◌*◌, Bool, true, false, cond, ap, sym, refl, ◌∙◌, arith}
use Rattle.std.specs.Prelude.{map}
use Rattle.pe_verilog_ast.specs.declared.expression.Ex.{Ex}
use Rattle.pe_verilog_ast.specs.Weights.{capped, alone_weight, number, part_size, selected, whole, bit, part, total_size, total_weight, joined, repeated, applied, grouped, chosen, sized, step, bits}
use Rattle.pe_verilog_ast.specs.Costs.{IsCost}
use Rattle.pe_verilog_ast.proofs.Caps.{capped_mul}
use Rattle.pe_verilog_ast.proofs.Layers.{sized-Number, sized-Net, sized-Join, sized-Repeat, sized-Unary, sized-Chain, sized-Choose, bits-Whole, bits-Bit, bits-Part}
use Rattle.pe_verilog_ast.proofs.Costs.{cost_as, leaf, steady, grouped_cost}
use Rattle.pe_verilog_ast.proofs.Steps.{follows_step}
use Rattle.pe_verilog_ast.proofs.size.+costs.Goals as goal

pub chain_cost-loop-operand-preserved : goal.chain_cost-loop-operand-preserved
chain_cost-loop-operand-preserved t c x p =
    follows_step c.args.nets.now c.args.more.now c.loop-operand.operand-index c.operand-item.result _ c.loop-operand.all c.expression_cost.result c.binary-all.result
    c.loop-operand-test.true c.operand-item.is c.expression_cost.ensures c.binary-all.ensures (c.loop-operand.invariant x p)

pub expression_cost-returns-in-Number : goal.expression_cost-returns-in-Number
expression_cost-returns-in-Number t c =
    cost_as _ _ _ (ap (sized c.args.nets.now) c.in-Number.is ∙ sized-Number c.args.nets.now _ ∙ ap number (sym c.as_slice.ensures))
    (leaf (number c.as_slice.result.now) 0 c.leaf.result (λ w. omega arith) (c.leaf.ensures.size ∙ c.count.ensures) c.leaf.ensures.fixed c.leaf.ensures.per_bit)

pub expression_cost-returns-in-Net : goal.expression_cost-returns-in-Net
expression_cost-returns-in-Net t c =
    cost_as _ _ _ (ap (sized c.args.nets.now) c.in-Net.is ∙ sized-Net c.args.nets.now _ _ ∙ ap (λ n. selected n (bits c.args.nets.now c.in-Net.select)) (sym c.net_size.ensures))
    c.select_cost.ensures

pub expression_cost-returns-in-Join : goal.expression_cost-returns-in-Join
expression_cost-returns-in-Join t c =
    let xs = map (sized c.args.nets.now) c.as_slice-in-Join.result.now in
    cost_as _ _ _ (ap (sized c.args.nets.now) c.in-Join.is ∙ sized-Join c.args.nets.now _ ∙ ap (λ es. joined (map (sized c.args.nets.now) es)) (sym c.as_slice-in-Join.ensures))
    (leaf (joined xs) (total_weight xs) c.leaf-in-Join.result (λ w. refl) (c.leaf-in-Join.ensures.size ∙ c.parts_cost-all.ensures.size) (c.leaf-in-Join.ensures.fixed ∙ c.parts_cost-all.ensures.weight) c.leaf-in-Join.ensures.per_bit)

pub expression_cost-returns-in-Repeat : goal.expression_cost-returns-in-Repeat
expression_cost-returns-in-Repeat t c =
    let xs = map (sized c.args.nets.now) c.as_slice-in-Repeat.result.now in
    let n = sized c.args.nets.now c.get.result.now in
    cost_as _ _ _ (ap (sized c.args.nets.now) c.in-Repeat.is ∙ sized-Repeat c.args.nets.now _ _
    ∙ ap (λ es. repeated (sized c.args.nets.now c.in-Repeat.count) (map (sized c.args.nets.now) es)) (sym c.as_slice-in-Repeat.ensures)
    ∙ ap (λ i. repeated (sized c.args.nets.now i) xs) (sym c.get.ensures))
    (leaf (repeated n xs) (total_weight xs) c.leaf-in-Repeat.result (λ w. refl)
    (c.leaf-in-Repeat.ensures.size ∙ c.saturating_mul.ensures ∙ capped_mul n.value (total_size xs) _ _ (c.value_of.ensures c.args.nets.now) c.parts_cost-all-in-Repeat.ensures.size)
    (c.leaf-in-Repeat.ensures.fixed ∙ c.parts_cost-all-in-Repeat.ensures.weight) c.leaf-in-Repeat.ensures.per_bit)

pub expression_cost-returns-in-Unary : goal.expression_cost-returns-in-Unary
expression_cost-returns-in-Unary t c =
    cost_as _ _ _ (ap (sized c.args.nets.now) c.in-Unary.is ∙ sized-Unary c.args.nets.now _ _ ∙ ap (λ a. applied c.in-Unary.op (sized c.args.nets.now a)) (sym c.get-in-Unary.ensures))
    (c.unary.ensures _ c.expression_cost.ensures)

pub expression_cost-returns-in-Chain : goal.expression_cost-returns-in-Chain
expression_cost-returns-in-Chain t c =
    cost_as _ _ _ (ap (sized c.args.nets.now) c.in-Chain.is ∙ sized-Chain c.args.nets.now _ _
    ∙ ap (λ a. grouped (sized c.args.nets.now a) (map (step c.args.nets.now) c.in-Chain.more)) (sym c.get-in-Chain.ensures)
    ∙ ap (λ s. grouped (sized c.args.nets.now c.get-in-Chain.result.now) (map (step c.args.nets.now) s)) (sym c.as_slice-in-Chain.ensures))
    (grouped_cost (sized c.args.nets.now c.get-in-Chain.result.now) (map (step c.args.nets.now) c.as_slice-in-Chain.result.now) c.chain_cost.result
    (c.chain_cost.ensures _ c.expression_cost-in-Chain.ensures))

pub expression_cost-returns-in-Choose : goal.expression_cost-returns-in-Choose
expression_cost-returns-in-Choose t c =
    cost_as _ _ _ (ap (sized c.args.nets.now) c.in-Choose.is ∙ sized-Choose c.args.nets.now _ _ _
    ∙ ap (λ i. chosen (sized c.args.nets.now i) (sized c.args.nets.now c.in-Choose.a) (sized c.args.nets.now c.in-Choose.b)) (sym c.get-in-Choose.ensures)
    ∙ ap (λ i. chosen (sized c.args.nets.now c.get-in-Choose.result.now) (sized c.args.nets.now i) (sized c.args.nets.now c.in-Choose.b)) (sym c.get-in-Choose-2.ensures)
    ∙ ap (λ i. chosen (sized c.args.nets.now c.get-in-Choose.result.now) (sized c.args.nets.now c.get-in-Choose-2.result.now) (sized c.args.nets.now i)) (sym c.get-in-Choose-3.ensures))
    (c.choose.ensures _ _ _ c.expression_cost-in-Choose.ensures c.expression_cost-in-Choose-2.ensures c.expression_cost-in-Choose-3.ensures)

pub select_cost-returns-in-Whole : goal.select_cost-returns-in-Whole
select_cost-returns-in-Whole t c =
    let s : c.leaf.result.size ≡ c.wide.result = c.leaf.ensures.size in
    let e : c.wide.result ≡ c.args.size = c.wide.ensures.same in
    let f = c.wide.ensures.fits in
    cost_as _ _ _ (ap (selected c.args.size) (ap (bits c.args.nets.now) c.in-Whole.is ∙ bits-Whole c.args.nets.now))
    (leaf (selected c.args.size whole) 0 c.leaf.result (λ w. omega arith) (omega arith) c.leaf.ensures.fixed c.leaf.ensures.per_bit)

pub select_cost-returns-then-is_number : goal.select_cost-returns-then-is_number
select_cost-returns-then-is_number t c =
    let x = sized c.args.nets.now c.in-Bit.index in
    let n : x.is_number ≡ true = ap (λ (i : Ex). (sized c.args.nets.now i).is_number) (sym c.get.ensures) ∙ sym (c.is_number.ensures c.args.nets.now) ∙ c.if-is_number.true in
    cost_as _ _ _ (ap (selected c.args.size) (ap (bits c.args.nets.now) c.in-Bit.is ∙ bits-Bit c.args.nets.now _))
    (leaf (selected c.args.size (bit x)) 0 c.leaf-then-is_number.result (λ w. ap (λ (b : Bool). cond b w (12 * c.args.size + alone_weight x)) n ∙ omega arith)
    c.leaf-then-is_number.ensures.size c.leaf-then-is_number.ensures.fixed c.leaf-then-is_number.ensures.per_bit)

pub select_cost-returns-else-is_number : goal.select_cost-returns-else-is_number
select_cost-returns-else-is_number t c =
    let x = sized c.args.nets.now c.in-Bit.index in
    let n : x.is_number ≡ false = ap (λ (i : Ex). (sized c.args.nets.now i).is_number) (sym c.get.ensures) ∙ sym (c.is_number.ensures c.args.nets.now) ∙ c.if-is_number.false in
    let p : IsCost x c.expression_cost.result = cost_as _ _ _ (ap (sized c.args.nets.now) (sym c.get-else-is_number.ensures)) c.expression_cost.ensures in
    let a : c.alone.result ≡ capped (alone_weight x) = c.alone.ensures x p in
    let f = c.one_bit.ensures.fixed in
    let e = c.wide-else-is_number.ensures.same in
    cost_as _ _ _ (ap (selected c.args.size) (ap (bits c.args.nets.now) c.in-Bit.is ∙ bits-Bit c.args.nets.now _))
    (steady (selected c.args.size (bit x)) (12 * c.args.size + alone_weight x) c.one_bit.result (λ w. ap (λ (b : Bool). cond b w (12 * c.args.size + alone_weight x)) n) refl
    c.one_bit.ensures.size (omega arith) c.one_bit.ensures.per_bit)

pub select_cost-returns-in-Part : goal.select_cost-returns-in-Part
select_cost-returns-in-Part t c =
    let l = sized c.args.nets.now c.in-Part.left in
    let r = sized c.args.nets.now c.in-Part.right in
    let a : c.value_of.result ≡ capped l.value = c.value_of.ensures c.args.nets.now ∙ ap (λ (i : Ex). capped (sized c.args.nets.now i).value) c.get-in-Part.ensures in
    let b : c.value_of-in-Part.result ≡ capped r.value = c.value_of-in-Part.ensures c.args.nets.now ∙ ap (λ (i : Ex). capped (sized c.args.nets.now i).value) c.get-in-Part-2.ensures in
    cost_as _ _ _ (ap (selected c.args.size) (ap (bits c.args.nets.now) c.in-Part.is ∙ bits-Part c.args.nets.now _ _))
    (leaf (selected c.args.size (part l r)) 0 c.leaf-in-Part.result (λ w. omega arith)
    (c.leaf-in-Part.ensures.size ∙ c.part_size.ensures ∙ ap (λ k. capped (part_size k c.value_of-in-Part.result)) a ∙ ap (λ k. capped (part_size (capped l.value) k)) b)
    c.leaf-in-Part.ensures.fixed c.leaf-in-Part.ensures.per_bit)
