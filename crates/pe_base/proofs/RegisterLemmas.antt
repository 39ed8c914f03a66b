-- The choice of a register's controls.
use Rattle.std.proofs.Common.{◌≡◌, refl}
use Rattle.pe_base.specs.declared.value.Val.{Val}
use Rattle.pe_base.specs.declared.value.Val.TheVariants.{Zero, One}
use Rattle.pe_base.specs.Values.{pick_of}
use Rattle.pe_base.proofs.Exact.{pick_same}
use Rattle.pe_base.specs.declared.register.RegisterInputs.{RegisterInputs}
use Rattle.pe_base.specs.Registers.{shadow_of, chosen_of}

-- the merge over the controls is a choice by each in turn
pub chosen_is : (k : RegisterInputs) (otherwise : Val) → pick_of k.clear (pick_of k.preset (pick_of k.restore otherwise (shadow_of k)) One) (pick_of k.preset Zero k.both) ≡ chosen_of k otherwise
chosen_is k otherwise = rw (pick_same k.restore One, pick_same k.restore Zero, pick_same k.restore k.both) refl
