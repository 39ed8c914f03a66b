-- What operators cost, from what their operands cost.
use Rattle.std.proofs.Common.{◌≡◌, ℕ, List, ◌+◌, ◌*◌, ◌≤◌, max, ap, sym, ◌∙◌, arith}
use Rattle.pe_verilog_ast.specs.declared.cost.Cost.{Cost}
use Rattle.pe_verilog_ast.specs.declared.family.Family.{Family}
use Rattle.pe_verilog_ast.specs.Weights.{Sized, Step, capped, chained, grouped, sized_as, combined, complemented, chosen, alone_weight}
use Rattle.pe_verilog_ast.specs.Costs.{IsCost}
use Rattle.pe_verilog_ast.proofs.Caps.{capped_add, capped_max, capped_mul}

-- the weight in a context of a size that is known as far as it fits
pub weight_at : (x : Sized) (c : Cost) (n m : ℕ) → IsCost x c → m ≡ capped n → capped (c.fixed + capped (c.per_bit * m)) ≡ capped (x.weight n)
weight_at x c n m p q =
    capped_add p.fixed (p.per_bit * n) c.fixed (capped (c.per_bit * m)) p.fixed_is (capped_mul p.per_bit n c.per_bit m p.per_bit_is q) ∙ ap capped (sym (p.weight n))

-- a node that counts so much for each bit of the context, and whose operands have the size of the context
pub in_context : (own : ℕ) (k : ℕ) (node : ℕ → ℕ) (x y : Sized) (a b r : Cost) → IsCost x a → IsCost y b → ((w : ℕ) → node w ≡ k * w) → k ≤ 12
    → r.size ≡ capped own → r.fixed ≡ capped (a.fixed + b.fixed) → r.per_bit ≡ capped (capped (k + a.per_bit) + b.per_bit)
    → IsCost (sized_as own (λ w. node w + x.weight w + y.weight w)) r
in_context own k node x y a b r p q n k12 s f g = record {
  fixed = p.fixed + q.fixed;
  per_bit = k + p.per_bit + q.per_bit;
  weight = λ w. let u = p.weight w in let v = q.weight w in let t = n w in omega arith;
  size_is = s;
  fixed_is = f ∙ capped_add p.fixed q.fixed a.fixed b.fixed p.fixed_is q.fixed_is;
  per_bit_is = g ∙ capped_add (k + p.per_bit) q.per_bit _ b.per_bit (capped_add k p.per_bit k a.per_bit (omega arith) p.per_bit_is) q.per_bit_is;
}

-- a node whose left operand alone has the size of the context
pub shifted : (own : ℕ) (x : Sized) (a r : Cost) (k m n : ℕ) → IsCost x a → k ≤ 12 → m ≡ capped n
    → r.size ≡ capped own → r.fixed ≡ capped (a.fixed + m) → r.per_bit ≡ capped (k + a.per_bit)
    → IsCost (sized_as own (λ w. k * w + x.weight w + n)) r
shifted own x a r k m n p k12 e s f g = record {
  fixed = p.fixed + n;
  per_bit = k + p.per_bit;
  weight = λ w. let u = p.weight w in omega arith;
  size_is = s;
  fixed_is = f ∙ capped_add p.fixed n a.fixed m p.fixed_is e;
  per_bit_is = g ∙ capped_add k p.per_bit k a.per_bit (omega arith) p.per_bit_is;
}

-- one bit, of the same weight in each context
pub one_bit : (weight : ℕ) (r : Cost) → r.size ≡ 1 → r.fixed ≡ capped weight → r.per_bit ≡ 0 → IsCost (sized_as 1 (λ w. weight)) r
one_bit weight r s f g = record {
  fixed = weight;
  per_bit = 0;
  weight = λ w. omega arith;
  size_is = s;
  fixed_is = f;
  per_bit_is = g;
}

-- a leaf counts the size of its context
pub leaf : (x : Sized) (parts : ℕ) (r : Cost) → ((w : ℕ) → x.weight w ≡ w + parts) → r.size ≡ capped x.own → r.fixed ≡ capped parts → r.per_bit ≡ 1 → IsCost x r
leaf x parts r n s f g = record {
  fixed = parts;
  per_bit = 1;
  weight = λ w. let u = n w in omega arith;
  size_is = s;
  fixed_is = f;
  per_bit_is = g;
}

-- what is said of a family holds of each of its operators
pub of_family : (f g : Family) (x y : Sized) (r : Cost) → f ≡ g → IsCost (combined g x y) r → IsCost (combined f x y) r
of_family f g x y r e p = rw e p

pub complement : (x : Sized) (a r : Cost) → IsCost x a → r.size ≡ a.size → r.fixed ≡ a.fixed → r.per_bit ≡ capped (1 + a.per_bit) → IsCost (complemented x) r
complement x a r p s f g = record {
  fixed = p.fixed;
  per_bit = 1 + p.per_bit;
  weight = λ w. let u = p.weight w in omega arith;
  size_is = s ∙ p.size_is;
  fixed_is = f ∙ p.fixed_is;
  per_bit_is = g ∙ capped_add 1 p.per_bit 1 a.per_bit (omega arith) p.per_bit_is;
}

pub choice : (c x y : Sized) (a b i r : Cost) (n : ℕ) → IsCost x a → IsCost y b → n ≡ capped (alone_weight c)
    → i.size ≡ max a.size b.size → i.fixed ≡ capped (a.fixed + b.fixed) → i.per_bit ≡ capped (capped (1 + a.per_bit) + b.per_bit)
    → r.size ≡ i.size → r.fixed ≡ capped (n + i.fixed) → r.per_bit ≡ i.per_bit
    → IsCost (chosen c x y) r
choice c x y a b i r n p q m s f g t u v = record {
  fixed = alone_weight c + (p.fixed + q.fixed);
  per_bit = 1 + p.per_bit + q.per_bit;
  weight = λ w. let j = p.weight w in let k = q.weight w in omega arith;
  size_is = t ∙ s ∙ capped_max x.own y.own a.size b.size p.size_is q.size_is;
  fixed_is = u ∙ capped_add (alone_weight c) (p.fixed + q.fixed) n i.fixed m (f ∙ capped_add p.fixed q.fixed a.fixed b.fixed p.fixed_is q.fixed_is);
  per_bit_is = v ∙ g ∙ capped_add (1 + p.per_bit) q.per_bit _ b.per_bit (capped_add 1 p.per_bit 1 a.per_bit (omega arith) p.per_bit_is) q.per_bit_is;
}

pub cost_as : (x y : Sized) (r : Cost) → x ≡ y → IsCost y r → IsCost x r
cost_as x y r e p = rw e p

-- one bit, whose weight the context does not change
pub steady : (x : Sized) (n : ℕ) (r : Cost) → ((w : ℕ) → x.weight w ≡ n) → x.own ≡ 1 → r.size ≡ 1 → r.fixed ≡ capped n → r.per_bit ≡ 0 → IsCost x r
steady x n r e o s f g = record {
  fixed = n;
  per_bit = 0;
  weight = λ w. let u = e w in omega arith;
  size_is = omega arith;
  fixed_is = f;
  per_bit_is = g;
}

pub grouped_cost : (x : Sized) (steps : List Step) (r : Cost) → IsCost (chained x steps) r → IsCost (grouped x steps) r
grouped_cost x steps r p = record {
  fixed = p.fixed;
  per_bit = p.per_bit;
  weight = p.weight;
  size_is = p.size_is;
  fixed_is = p.fixed_is;
  per_bit_is = p.per_bit_is;
}
