-- What drives supplies, and which nets ports are on.
use Rattle.std.specs.Prelude.{◌≡◌, ℕ, zero, suc, ◌<◌, ◌==◌, nat_lt, Bool, not, ◌||◌, ◌&&◌, cond, List, [], ◌∷◌, ◌++◌, length, map, filter, find, count_by, slice_index, Option, Some, None, Contains}
use Rattle.std.specs.List.{list_any}
use Rattle.std.specs.Option.{option_map}
use Rattle.std.specs.Str.{bytes_eq}
use Rattle.pe_base.specs.Names.{has_name}
use Rattle.pe_supply.specs.declared.plan.SwitchText.{SwitchText}
use Rattle.pe_supply.specs.Plans.{output_name}
use Rattle.pe_supply.specs.Numbers.{number_of, supplies_in, first_name}

-- the supply of a switch's output, and that of its input
abbrev pub edge_of : List (List ℕ × ℕ) → SwitchText → ℕ × ℕ
edge_of names w = (number_of names (output_name w.name w.output.0), number_of names w.input.1)

abbrev pub edges_of : List (List ℕ × ℕ) → List SwitchText → List (ℕ × ℕ)
edges_of names switches = map (edge_of names) switches

abbrev pub drives : ℕ → ℕ × ℕ → Bool
drives i edge = edge.0 == i

-- two outputs of switches are names of the supply
abbrev pub is_driven_twice : List (ℕ × ℕ) → ℕ → Bool
is_driven_twice edges i = nat_lt 1 (count_by (drives i) edges)

-- how many switches drive each of so many supplies
pub record AreCounts (edges : List (ℕ × ℕ)) (count : ℕ) (counts : List ℕ) : Type 0 where
  pub long : length counts ≡ count
  pub each : (i : ℕ) → i < count → slice_index counts i ≡ count_by (drives i) edges

-- the first name of the first such supply
abbrev pub first_driven_twice : List (List ℕ × ℕ) → List (ℕ × ℕ) → Option (List ℕ)
first_driven_twice names edges = option_map (first_name names) (find (is_driven_twice edges) (supplies_in names))

-- no switch drives the supply
abbrev pub is_root : List (ℕ × ℕ) → ℕ → Bool
is_root edges i = not (list_any (drives i) edges)

abbrev pub roots_in : List (List ℕ × ℕ) → List (ℕ × ℕ) → List ℕ
roots_in names edges = filter (is_root edges) (supplies_in names)

-- both are ties of one port, to nets of two names
abbrev pub are_two : List ℕ × List ℕ → List ℕ × List ℕ → Bool
are_two tie other = bytes_eq other.0 tie.0 && not (bytes_eq other.1 tie.1)

-- the port of a tie is on another net besides: by an earlier tie, or since a net has the port's name
abbrev pub is_elsewhere : List (List ℕ) → List (List ℕ × List ℕ) → List ℕ × List ℕ → Bool
is_elsewhere nets earlier tie = list_any (are_two tie) earlier || (has_name nets tie.0 && not (bytes_eq tie.0 tie.1))

-- the port of the first such tie, behind earlier ones
abbrev pub first_elsewhere : List (List ℕ) → List (List ℕ × List ℕ) → List (List ℕ × List ℕ) → Option (List ℕ)
first_elsewhere nets earlier [] = None
first_elsewhere nets earlier (t ∷ ts) = cond (is_elsewhere nets earlier t) (Some t.0) (first_elsewhere nets (earlier ++ t ∷ []) ts)

-- the input of the first switch that drives the supply
abbrev pub next_of : List (ℕ × ℕ) → ℕ → Option ℕ
next_of edges i = option_map (λ edge. edge.1) (find (drives i) edges)

-- from a supply so many switches, each from its output to its input, lead to another
abbrev pub Reaches : List (ℕ × ℕ) → ℕ → ℕ → ℕ → Type 0
Reaches edges zero i j = i ≡ j
Reaches edges (suc n) i j = (k : ℕ) × Contains edges (i, k) × Reaches edges n k j

-- the supply reaches itself through inputs of switches
pub record IsLooped (edges : List (ℕ × ℕ)) (i : ℕ) : Type 0 where
  pub behind : ℕ
  pub back : Reaches edges (suc behind) i i

pub record IsFirstLooped (edges : List (ℕ × ℕ)) (i : ℕ) : Type 0 where
  pub looped : IsLooped edges i
  pub first : (j : ℕ) → j < i → IsLooped edges j → ⊥
