-- The complement of a register, by its controls.
use Rattle.std.proofs.Common.{◌≡◌, refl}
use Rattle.pe_base.specs.declared.value.Val.{Val}
use Rattle.pe_base.specs.declared.value.Val.TheVariants.{Zero, One}
use Rattle.pe_base.specs.Operators.{not_of}
use Rattle.pe_base.specs.Registers.{shadow_of, main_of}
use Rattle.pe_base.specs.Values.{pick_of, merge_over}
use Rattle.pe_base.proofs.Exact.{pick_same}
use Rattle.pe_base.specs.declared.register.RegisterInputs.{RegisterInputs}
use Rattle.pe_cells.specs.Register.{complement_choice}
use Rattle.std.specs.Prelude.{[], ◌∷◌}

-- the merge over the controls is a choice by each in turn
pub complement_is : (k : RegisterInputs) (second : Val) → pick_of k.clear (pick_of k.preset (pick_of k.restore (not_of (main_of k)) (not_of (shadow_of k))) Zero) (pick_of k.preset One second) ≡ merge_over (k.clear ∷ k.preset ∷ k.restore ∷ []) (complement_choice second (shadow_of k) (main_of k))
complement_is k second = rw (pick_same k.restore One, pick_same k.restore Zero, pick_same k.restore second) refl
