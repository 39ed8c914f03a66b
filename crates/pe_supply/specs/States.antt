-- The states of supplies under states of the roots and values of the control ports.
use Rattle.std.specs.Prelude.{◌≡◌, ℕ, zero, suc, ◌+◌, ◌-◌, ◌<◌, Bool, true, false, ◌&&◌, cond, nat_lt, List, [], ◌∷◌, length, take, drop, sum_by, slice_index}
use Rattle.std.specs.List.{list_all}
use Rattle.pe_base.specs.declared.value.Val.{Val}
use Rattle.pe_base.specs.declared.value.Val.TheVariants.{Zero, One}
use Rattle.pe_base.specs.Values.{exact_extension}
use Rattle.pe_bool_expr.specs.declared.expr.Expr.{Expr}
use Rattle.pe_bool_expr.specs.Functions.{holds}
use Rattle.pe_supply.specs.declared.supplies.Supplies.{Supplies}
use Rattle.pe_supply.specs.declared.supplies.Switch.{Switch}
use Rattle.pe_supply.specs.Rows.{is_on}
use Rattle.pe_supply.specs.WellFormed.{count_of, driven, driver, input_of}

abbrev pub is_one : Val → Bool
is_one One = true
is_one _ = false

abbrev pub is_zero : Val → Bool
is_zero Zero = true
is_zero _ = false

-- a boolean function under values of its names, exactly extended
abbrev pub value_of : Expr → List Val → Val
value_of e values = exact_extension (holds e) values

-- the switch conducts under values of its control ports: its on expression is 1 and each of its off expressions is 0
abbrev pub conducts : Switch → List Val → Bool
conducts w values = is_one (value_of w.on values) && list_all (λ e. is_zero (value_of e values)) w.off

-- how many control ports there are
abbrev pub ports_of : List Switch → ℕ
ports_of switches = sum_by (λ w. length w.controls) switches

-- whether each switch conducts; the values are those of the control ports, by switch and then by port
abbrev pub conducting : List Switch → List Val → List Bool
conducting [] controls = []
conducting (w ∷ ws) controls = conducts w (take (length w.controls) controls) ∷ conducting ws (drop (length w.controls) controls)

-- each supply has its state: a root the given one; the output of a switch is on exactly where the switch conducts and its
-- input is on
pub record IsSettled (s : Supplies) (roots : List Bool) (controls : List Val) (states : List Bool) : Type 0 where
  pub size : length states ≡ count_of s
  pub root : (k : ℕ) → k < length s.roots → is_on states (slice_index (driven s) k) ≡ is_on roots k
  pub switch : (k : ℕ) → k < length s.switches
      → is_on states (slice_index (driven s) (length s.roots + k)) ≡ (is_on (conducting s.switches controls) k && is_on states (input_of s k))

-- the state of a supply, found by going from outputs of switches to their inputs, over fewer than n of them
abbrev pub state_of : Supplies → List Bool → List Bool → ℕ → ℕ → Bool
state_of s roots conducts zero i = false
state_of s roots conducts (suc n) i =
    let k = driver s i in
    cond (nat_lt k (length s.roots)) (is_on roots k)
    (is_on conducts (k - length s.roots) && state_of s roots conducts n (input_of s (k - length s.roots)))
