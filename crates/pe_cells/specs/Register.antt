-- The register of a cell (Liberty: ff, retention_pin). IQ is the visible value of the law of registers; IQN is here.
use Rattle.std.specs.Prelude.{Bool, true, cond, List, [], ◌∷◌, Option, Some, None, slice_index_or}
use Rattle.pe_base.specs.declared.register.RegisterInputs.{RegisterInputs}
use Rattle.pe_base.specs.declared.value.Val.{Val}
use Rattle.pe_base.specs.declared.value.Val.TheVariants.{Zero, Corrupt}
use Rattle.pe_base.specs.Operators.{not_of}
use Rattle.pe_base.specs.Registers.{kept_of, main_of, shadow_of, choice}
use Rattle.pe_base.specs.Values.{merge_over}
use Rattle.pe_cells.specs.declared.cell.RetentionPin.{RetentionPin}

-- IQN at known clear, preset and restore: the second of the values while clear and preset are both active, and else the
-- complement of what IQ is
abbrev pub complement_choice : Val → Val → Val → List Bool → Val
complement_choice second shadow main (true ∷ true ∷ controls) = second
complement_choice second shadow main controls = not_of (choice second shadow main controls)

-- IQN: corrupt without power, and else the merge over what corrupt controls may be
abbrev pub complement_of : RegisterInputs → Val → Val
complement_of k second = kept_of k.powered (merge_over (k.clear ∷ k.preset ∷ k.restore ∷ []) (complement_choice second (shadow_of k) (main_of k)))

-- a pin that does nothing at its disable value is active at the other one
abbrev pub active_of : Bool → Val → Val
active_of disable x = cond disable (not_of x) x

-- how far save or restore is active; without a pin it is not
abbrev pub control_of : Option RetentionPin → List Val → Val
control_of None values = Zero
control_of (Some pin) values = active_of pin.disable (slice_index_or values pin.pin Corrupt)
