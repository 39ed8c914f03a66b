-- What makes supplies well formed.
use Rattle.std.specs.Prelude.{◌≡◌, ℕ, zero, suc, ◌+◌, ◌-◌, ◌<◌, ◌≤◌, Bool, true, false, ◌||◌, nat_lt, ◌==◌, cond, List, [], ◌∷◌, ◌++◌, length, map, slice_index}
use Rattle.std.specs.List.{All}
use Rattle.std.specs.Option.{ForSome}
use Rattle.pe_bool_expr.specs.declared.expr.Expr.{Expr}
use Rattle.pe_bool_expr.specs.Functions.{different, pins_of}
use Rattle.pe_supply.specs.declared.supplies.Supplies.{Supplies}
use Rattle.pe_supply.specs.declared.supplies.Switch.{Switch}

-- how many supplies there are: each is a root or the output of a switch
abbrev pub count_of : Supplies → ℕ
count_of s = length s.roots + length s.switches

-- the supply of each root and then of each switch's output
abbrev pub driven : Supplies → List ℕ
driven s = s.roots ++ map (λ w. w.output) s.switches

-- the first place of a number, or how many numbers there are
abbrev pub place : List ℕ → ℕ → ℕ
place [] number = 0
place (other ∷ numbers) number = cond (other == number) 0 (1 + place numbers number)

-- what drives a supply: a root by its place, or a switch by its place behind the roots
abbrev pub driver : Supplies → ℕ → ℕ
driver s i = place (driven s) i

-- the input supply of a switch
abbrev pub input_of : Supplies → ℕ → ℕ
input_of s k = slice_index (map (λ w. w.input) s.switches) k

-- from the supply at most n - 1 switches, each followed from its output to its input, lead to a root
abbrev pub is_fed : Supplies → ℕ → ℕ → Bool
is_fed s zero i = false
is_fed s (suc n) i = nat_lt (driver s i) (length s.roots) || is_fed s n (input_of s (driver s i - length s.roots))

-- the supply of each name
abbrev pub supplies_named : Supplies → List ℕ
supplies_named s = map (λ name. name.1) s.names

-- a boolean function of at most 10 different names
abbrev pub IsSmall : Expr → Type 0
IsSmall e = length (different (pins_of e)) ≤ 10

-- a switch whose functions have at most 10 different names each
pub record IsSwitch (w : Switch) : Type 0 where
  pub on : IsSmall w.on
  pub off : All IsSmall w.off

pub record IsWellFormed (s : Supplies) : Type 0 where
  pub few : count_of s ≤ 64
  pub few_rows : length s.rows ≤ 64
  -- what a root or a switch drives, and what a switch takes, are supplies
  pub below : (k : ℕ) → k < count_of s → slice_index (driven s) k < count_of s
  pub inputs : (k : ℕ) → k < length s.switches → input_of s k < count_of s
  -- the functions of switches are small
  pub switches : All IsSwitch s.switches
  -- what a root or a switch drives, no root and no switch before it drives
  pub once : (k : ℕ) → k < count_of s → driver s (slice_index (driven s) k) ≡ k
  -- each supply is driven
  pub reached : (i : ℕ) → i < count_of s → driver s i < count_of s
  -- no supply reaches itself through the inputs of switches: each comes to a root
  pub fed : (i : ℕ) → i < count_of s → is_fed s (count_of s) i ≡ true
  -- each name is that of a supply, and each supply has one
  pub names : All (λ i. i < count_of s) (supplies_named s)
  pub named : (i : ℕ) → i < count_of s → place (supplies_named s) i < length s.names
  pub sets : All (λ set. ForSome set.1 (λ i. i < count_of s) × ForSome set.2 (λ i. i < count_of s)) s.sets
  pub table : All (λ i. i < count_of s) s.table
  pub rows : All (λ row. length row.levels ≡ length s.table) s.rows
