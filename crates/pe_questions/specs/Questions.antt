-- The questions of a design.
use Rattle.std.specs.Prelude.{ℕ, List, [], ◌∷◌, ◌++◌, map, length, Option, Some, None, slice_get}
use Rattle.std.specs.List.{flat_map, range_with_len}
use Rattle.pe_base.specs.declared.text.Step.{Step}
use Rattle.pe_base.specs.declared.text.Step.TheVariants.{Start, Pair}
use Rattle.pe_supply.specs.declared.supplies.Level.{Level}
use Rattle.pe_supply.specs.declared.supplies.Row.{Row}
use Rattle.pe_assigns.specs.Form.{output_names}
use Rattle.pe_design.specs.declared.design.Design.{Design}
use Rattle.pe_questions.specs.declared.question.Question.{Question}
use Rattle.pe_questions.specs.declared.question.Point.TheVariants.{Output, Live}

-- whether an output refines as a run starts in a row
abbrev pub output_question : ℕ → ℕ → Question
output_question q k = record { step = Start q; point = Output k }

-- whether the row has any cycle at all
abbrev pub live_question : ℕ → Question
live_question q = record { step = Start q; point = Live }

-- the questions of a row, for so many outputs: each output's, and then the live one
abbrev pub row_questions : ℕ → ℕ → List Question
row_questions outputs q = map (output_question q) (range_with_len 0 outputs) ++ live_question q ∷ []

-- those of all rows
abbrev pub questions : Design → List Question
questions d = flat_map (row_questions (length (output_names d.rtl))) (range_with_len 0 (length d.supplies.rows))

-- the levels of a row, and none where there is no row
abbrev pub levels_of : Option Row → List Level
levels_of None = []
levels_of (Some row) = row.levels

-- the row in which a step ends
abbrev pub row_of : Step → ℕ
row_of (Start q) = q
row_of (Pair p q) = q

-- the levels that the supplies of the table have as the step ends
abbrev pub levels_after : Design → Step → List Level
levels_after d step = levels_of (slice_get d.supplies.rows (row_of step))
