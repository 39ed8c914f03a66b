-- A token opens at most one brace.
use Rattle.std.proofs.Common.{ℕ, ◌+◌, ◌-◌, ◌≤◌, Bool, true, false, cond, ◌==◌, arith}
use Rattle.pe_text.specs.declared.language.Class.{Class}
use Rattle.pe_text.specs.declared.language.Class.TheVariants as class
use Rattle.pe_text.specs.declared.token.Kind.{Kind}
use Rattle.pe_text.specs.declared.token.Kind.TheVariants.{Word, Escaped, Number, Text, Mark, End}
use Rattle.pe_text.specs.declared.mode.Mode.{Mode}
use Rattle.pe_text.specs.declared.mode.Mode.TheVariants.{Fresh, Braces, Colon, Values}
use Rattle.pe_text.specs.Upf.{open_braces, upf_behind}
use Rattle.pe_text.specs.Liberty.{value_behind, liberty_behind}
use Rattle.pe_text.specs.Cut.{mode_behind}

count_le : (b d : Bool) (n : ℕ) → cond b (n + 1) (cond d (n - 1) n) ≤ n + 1
count_le true d n = omega arith
count_le false true n = omega arith
count_le false false n = omega arith

upf_le : (mode : Mode) (kind : Kind) (first : ℕ) → open_braces (upf_behind mode kind first) ≤ open_braces mode + 1
upf_le mode End first = omega arith
upf_le mode Word first = count_le (first == 123) (first == 125) (open_braces mode)
upf_le mode Escaped first = count_le (first == 123) (first == 125) (open_braces mode)
upf_le mode Number first = count_le (first == 123) (first == 125) (open_braces mode)
upf_le mode Text first = count_le (first == 123) (first == 125) (open_braces mode)
upf_le mode Mark first = count_le (first == 123) (first == 125) (open_braces mode)

either : (b : Bool) (m k : Mode) (n : ℕ) → open_braces m ≤ n → open_braces k ≤ n → open_braces (cond b m k) ≤ n
either true m k n p q = p
either false m k n p q = q

value_le : (mode : Mode) → open_braces (value_behind mode) ≤ open_braces mode + 1
value_le Fresh = omega arith
value_le (Braces n) = omega arith
value_le Colon = omega arith
value_le Values = omega arith

liberty_le : (mode : Mode) (kind : Kind) (first : ℕ) → open_braces (liberty_behind mode kind first) ≤ open_braces mode + 1
liberty_le mode End first = omega arith
liberty_le mode Word first = value_le mode
liberty_le mode Escaped first = value_le mode
liberty_le mode Number first = value_le mode
liberty_le mode Text first = value_le mode
liberty_le mode Mark first =
    let n = open_braces mode + 1 in
    either (first == 58) Colon (cond (first == 44) mode Fresh) n (omega arith) (either (first == 44) mode Fresh n (omega arith) (omega arith))

pub braces_le : (class : Class) (mode : Mode) (kind : Kind) (first : ℕ) → open_braces (mode_behind class mode kind first) ≤ open_braces mode + 1
braces_le class.Upf mode kind first = upf_le mode kind first
braces_le class.Liberty mode kind first = liberty_le mode kind first
braces_le class.Verilog mode kind first = omega arith
braces_le class.Map mode kind first = omega arith
braces_le class.LibertyFunction mode kind first = omega arith
braces_le class.UpfFunction mode kind first = omega arith
