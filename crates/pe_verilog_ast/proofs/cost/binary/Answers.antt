use Rattle.std.proofs.Common.{◌≡◌, ◌+◌, ◌*◌, ◌∙◌, max, sym, refl, arith}
use Rattle.pe_verilog_ast.specs.Weights.{capped, alone_weight}
use Rattle.pe_verilog_ast.proofs.Caps.{capped_add, capped_max, capped_mul}
use Rattle.pe_verilog_ast.proofs.Costs.{of_family, in_context, shifted, one_bit, weight_at}
use Rattle.pe_verilog_ast.proofs.cost.binary.Goals as goal

pub returns-in-Sum : goal.returns-in-Sum
returns-in-Sum c x y p q =
    let k = c.in_context.ensures in
    of_family _ _ x y _ (sym c.binary_family.ensures ∙ c.in-Sum.is)
    (in_context (max x.own y.own) 8 (λ w. 8 * w) x y c.args.a c.args.b c.in_context.result p q (λ w. refl) (omega arith)
    (k.size ∙ capped_max x.own y.own _ _ p.size_is q.size_is) k.fixed k.per_bit)

pub returns-in-Bitwise : goal.returns-in-Bitwise
returns-in-Bitwise c x y p q =
    let k = c.in_context-in-Bitwise.ensures in
    of_family _ _ x y _ (sym c.binary_family.ensures ∙ c.in-Bitwise.is)
    (in_context (max x.own y.own) 1 (λ w. w) x y c.args.a c.args.b c.in_context-in-Bitwise.result p q (λ w. omega arith) (omega arith)
    (k.size ∙ capped_max x.own y.own _ _ p.size_is q.size_is) k.fixed k.per_bit)

pub returns-in-Shift : goal.returns-in-Shift
returns-in-Shift c x y p q =
    let k = c.shifted.ensures in
    of_family _ _ x y _ (sym c.binary_family.ensures ∙ c.in-Shift.is)
    (shifted x.own x c.args.a c.shifted.result 12 (capped (alone_weight y)) (alone_weight y) p (omega arith) refl
    (k.size ∙ p.size_is) (k.fixed y q) k.per_bit)

pub returns-in-Order : goal.returns-in-Order
returns-in-Order c x y p q =
    let k = c.one_bit.ensures in
    let m : c.larger-size.result ≡ capped (max x.own y.own) = c.larger-size.ensures ∙ capped_max x.own y.own _ _ p.size_is q.size_is in
    let n : c.saturating_mul-node.result ≡ capped (8 * max x.own y.own) = c.saturating_mul-node.ensures ∙ capped_mul 8 (max x.own y.own) 8 _ (omega arith) m in
    let u : c.weight_at.result ≡ capped (x.weight (max x.own y.own)) = c.weight_at.ensures ∙ weight_at x _ (max x.own y.own) _ p m in
    let v : c.weight_at-in-Order.result ≡ capped (y.weight (max x.own y.own)) = c.weight_at-in-Order.ensures ∙ weight_at y _ (max x.own y.own) _ q m in
    of_family _ _ x y _ (sym c.binary_family.ensures ∙ c.in-Order.is)
    (one_bit (8 * max x.own y.own + x.weight (max x.own y.own) + y.weight (max x.own y.own)) c.one_bit.result k.size
    (k.fixed ∙ capped_add (8 * max x.own y.own + x.weight (max x.own y.own)) (y.weight (max x.own y.own)) _ _ (capped_add (8 * max x.own y.own) (x.weight (max x.own y.own)) _ _ n u) v) k.per_bit)

pub returns-in-Equality : goal.returns-in-Equality
returns-in-Equality c x y p q =
    let k = c.one_bit-in-Equality.ensures in
    let m : c.larger-size.result ≡ capped (max x.own y.own) = c.larger-size.ensures ∙ capped_max x.own y.own _ _ p.size_is q.size_is in
    let u : c.weight_at-in-Equality.result ≡ capped (x.weight (max x.own y.own)) = c.weight_at-in-Equality.ensures ∙ weight_at x _ (max x.own y.own) _ p m in
    let v : c.weight_at-in-Equality-2.result ≡ capped (y.weight (max x.own y.own)) = c.weight_at-in-Equality-2.ensures ∙ weight_at y _ (max x.own y.own) _ q m in
    of_family _ _ x y _ (sym c.binary_family.ensures ∙ c.in-Equality.is)
    (one_bit (1 + x.weight (max x.own y.own) + y.weight (max x.own y.own)) c.one_bit-in-Equality.result k.size
    (k.fixed ∙ capped_add (1 + x.weight (max x.own y.own)) (y.weight (max x.own y.own)) _ _ (capped_add 1 (x.weight (max x.own y.own)) 1 _ (omega arith) u) v) k.per_bit)

pub returns-in-Logic : goal.returns-in-Logic
returns-in-Logic c x y p q =
    let k = c.one_bit-in-Logic.ensures in
    of_family _ _ x y _ (sym c.binary_family.ensures ∙ c.in-Logic.is)
    (one_bit (1 + alone_weight x + alone_weight y) c.one_bit-in-Logic.result k.size
    (k.fixed ∙ capped_add (1 + alone_weight x) (alone_weight y) _ _ (capped_add 1 (alone_weight x) 1 _ (omega arith) (c.alone.ensures x p)) (c.alone-in-Logic.ensures y q)) k.per_bit)
