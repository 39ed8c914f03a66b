use Rattle.std.proofs.Common.{◌∙◌, sym, ap}
use Rattle.pe_verilog_ast.specs.Weights.{Sized, capped, number_of, sized}
use Rattle.pe_verilog_ast.proofs.Steps.{selected_value, applied_value}
use Rattle.pe_verilog_ast.proofs.Layers.{sized-Number, sized-Net, sized-Join, sized-Repeat, sized-Unary, sized-Chain, sized-Choose}
use Rattle.pe_verilog_ast.proofs.size.value_of.Goals as goal

pub returns-in-Number : goal.returns-in-Number
returns-in-Number c nets = c.number_of.ensures ∙ ap (λ ds. capped (number_of ds)) c.as_slice.ensures ∙ sym (ap (λ (x : Sized). capped x.value) (ap (sized nets) c.in-Number.is ∙ sized-Number nets _))

pub returns-in-Net : goal.returns-in-Net
returns-in-Net c nets = sym (ap (λ (x : Sized). capped x.value) (ap (sized nets) c.in-Net.is ∙ sized-Net nets _ _) ∙ ap capped (selected_value _ _))

pub returns-in-Join : goal.returns-in-Join
returns-in-Join c nets = sym (ap (λ (x : Sized). capped x.value) (ap (sized nets) c.in-Join.is ∙ sized-Join nets _))

pub returns-in-Repeat : goal.returns-in-Repeat
returns-in-Repeat c nets = sym (ap (λ (x : Sized). capped x.value) (ap (sized nets) c.in-Repeat.is ∙ sized-Repeat nets _ _))

pub returns-in-Unary : goal.returns-in-Unary
returns-in-Unary c nets = sym (ap (λ (x : Sized). capped x.value) (ap (sized nets) c.in-Unary.is ∙ sized-Unary nets _ _) ∙ ap capped (applied_value _ _))

pub returns-in-Chain : goal.returns-in-Chain
returns-in-Chain c nets = sym (ap (λ (x : Sized). capped x.value) (ap (sized nets) c.in-Chain.is ∙ sized-Chain nets _ _))

pub returns-in-Choose : goal.returns-in-Choose
returns-in-Choose c nets = sym (ap (λ (x : Sized). capped x.value) (ap (sized nets) c.in-Choose.is ∙ sized-Choose nets _ _ _))
