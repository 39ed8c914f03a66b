use Rattle.pe_text.proofs.Order as order
use Rattle.pe_text.proofs.laws.cut_order.Goals as goal

pub returns : goal.returns
returns c = record {
  in_order = order.in_order;
  whole = λ class text tokens h. order.joined_is text 0 tokens (order.in_order class text tokens h);
}
