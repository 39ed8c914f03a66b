-- The law of a register with clear, preset and retention, and of isolation (IEEE 1801), over a cycle: what is seen of
-- a register before the clock's edge, and the state after it.
use Rattle.std.specs.Prelude.{Bool, true, false, cond, List, [], ◌∷◌}
use Rattle.pe_base.specs.declared.value.Val.{Val}
use Rattle.pe_base.specs.declared.value.Val.TheVariants.{Zero, One, Corrupt}
use Rattle.pe_base.specs.Values.{known_of, merge_of, pick_of, merge_over}
use Rattle.pe_base.specs.declared.register.RegisterInputs.{RegisterInputs}

-- a value where there is power, and corrupt without
abbrev pub kept_of : Bool → Val → Val
kept_of on x = cond on x Corrupt

-- what the main state and the shadow still hold
abbrev pub main_of : RegisterInputs → Val
main_of k = kept_of k.powered k.main

abbrev pub shadow_of : RegisterInputs → Val
shadow_of k = kept_of k.retained k.shadow

-- what known clear, preset and restore make of a register: both of clear and preset give the first value, clear alone
-- gives 0, preset alone 1, else restore gives the shadow, and none of the three the last value
abbrev pub choice : Val → Val → Val → List Bool → Val
choice first shadow otherwise (clear ∷ preset ∷ restore ∷ more) = cond clear (cond preset first Zero) (cond preset One (cond restore shadow otherwise))
choice first shadow otherwise _ = Corrupt

-- the same at controls that may be corrupt: the merge over what they may be
abbrev pub chosen_of : RegisterInputs → Val → Val
chosen_of k otherwise = merge_over (k.clear ∷ k.preset ∷ k.restore ∷ []) (choice k.both (shadow_of k) otherwise)

-- the visible value
abbrev pub visible_of : RegisterInputs → Val
visible_of k = kept_of k.powered (chosen_of k (main_of k))

-- the data where the clock rises, what is held where it stands, corrupt where it falls; where the clock is corrupt the
-- merge of data and what is held
abbrev pub edge_of : Val → Val → Val → Val → Val
edge_of d held Zero One = d
edge_of d held One Zero = Corrupt
edge_of d held Zero Zero = held
edge_of d held One One = held
edge_of d held _ _ = merge_of d held

-- the next main state
abbrev pub next_main_of : RegisterInputs → Val
next_main_of k = kept_of k.powered (chosen_of k (edge_of k.d (main_of k) k.before k.after))

-- the next shadow: the visible value where it is saved
abbrev pub next_shadow_of : RegisterInputs → Val
next_shadow_of k = kept_of k.retained (pick_of k.save (shadow_of k) (visible_of k))

-- Isolation: corrupt without its supply and under a corrupt enable, the clamp value where the enable is active, else
-- the data. The sense says which value of the enable is the active one.
abbrev pub isolated_of : Bool → Val → Bool → Bool → Val → Val
isolated_of false enable sense clamp x = Corrupt
isolated_of true Corrupt sense clamp x = Corrupt
isolated_of true One sense clamp x = cond sense (known_of clamp) x
isolated_of true Zero sense clamp x = cond sense x (known_of clamp)
