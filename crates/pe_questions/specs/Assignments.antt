-- The assignments of a design: the states of its roots, and then the bits of the RTL's inputs.
use Rattle.std.specs.Prelude.{ℕ, zero, suc, ◌+◌, Bool, true, false, List, [], ◌∷◌, ◌++◌, map, length, take, drop}
use Rattle.pe_assigns.specs.Form.{input_names}
use Rattle.pe_design.specs.declared.design.Design.{Design}

-- The lists of this many bits in counting order: the first bit counts most, and 0 comes before 1.
abbrev pub assignments : ℕ → List (List Bool)
assignments zero = [] ∷ []
assignments (suc n) = map (λ bits. false ∷ bits) (assignments n) ++ map (λ bits. true ∷ bits) (assignments n)

-- how many bits an assignment has
abbrev pub width : Design → ℕ
width d = length d.supplies.roots + length (input_names d.rtl)

-- its two parts
abbrev pub roots_of : Design → List Bool → List Bool
roots_of d bits = take (length d.supplies.roots) bits

abbrev pub inputs_of : Design → List Bool → List Bool
inputs_of d bits = drop (length d.supplies.roots) bits

-- those of a design
abbrev pub all_assignments : Design → List (List Bool)
all_assignments d = assignments (width d)
