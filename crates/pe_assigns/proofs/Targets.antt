-- Which net a target is, by its variants.
use Rattle.std.proofs.Common.{◌≡◌, ℕ, List, cond, Option, Some, None, sym, ap, ◌∙◌}
use Rattle.pe_verilog_ast.specs.declared.expression.Select.{Select}
use Rattle.pe_verilog_ast.specs.declared.target.Target.{Target, fold-Target, fold-roll-Target}
use Rattle.pe_verilog_ast.specs.declared.target.Target.TheVariants as target
use Rattle.pe_verilog_ast.specs.declared.target.Target.TheOpen as layer
use Rattle.pe_assigns.specs.Logic.{is_whole}
use Rattle.pe_assigns.specs.Form.{target_of, target_layer}

pub target-Net : (name : List ℕ) (s : Select) → target_of (target.Net name s) ≡ cond (is_whole s) (Some name) None
unfolding target_of
target-Net name s = ap (fold-Target (Option (List ℕ)) target_layer) (sym (target.rolls-Net name s)) ∙ fold-roll-Target (Option (List ℕ)) target_layer (layer.Net name s)

pub target-Join : (ts : List Target) → target_of (target.Join ts) ≡ None
unfolding target_of
target-Join ts = ap (fold-Target (Option (List ℕ)) target_layer) (sym (target.rolls-Join ts)) ∙ fold-roll-Target (Option (List ℕ)) target_layer (layer.Join _)

pub ruleset targets = (target-Net, target-Join)
