-- What the program prints of a design and the answers to its questions, as bytes. Each line ends with LF.
use Rattle.std.specs.Prelude.{ℕ, ◌+◌, ◌==◌, Bool, true, false, cond, List, [], ◌∷◌, ◌++◌, map, count_by, codes, find, Option, Some, None}
use Rattle.std.specs.Fmt.{decimal}
use Rattle.pe_base.specs.declared.value.Val.{Val}
use Rattle.pe_base.specs.declared.value.Val.TheVariants.{Zero, One, Corrupt}
use Rattle.pe_base.specs.declared.text.Step.{Step}
use Rattle.pe_base.specs.declared.text.Step.TheVariants.{Start, Pair}
use Rattle.pe_nets.specs.Nets.{name_at}
use Rattle.pe_assigns.specs.Form.{input_names, output_names}
use Rattle.pe_design.specs.declared.design.Design.{Design}
use Rattle.pe_questions.specs.declared.question.Question.{Question}
use Rattle.pe_questions.specs.declared.question.Point.{Point}
use Rattle.pe_questions.specs.declared.question.Point.TheVariants.{Output, Live}
use Rattle.pe_questions.specs.declared.answer.Answer.{Answer}
use Rattle.pe_questions.specs.declared.answer.Answer.TheVariants.{Holds, Mismatch, Sample, Empty}
use Rattle.pe_questions.specs.Assignments.{roots_of, inputs_of}
use Rattle.pe_questions.specs.Answers.{mismatched}

-- the end of a line
abbrev pub line_end : List ℕ
line_end = 10 ∷ []

abbrev pub is_held : Answer → Bool
is_held Holds = true
is_held _ = false

-- how many outputs refine in their rows
abbrev pub held : List Answer → ℕ
held answers = count_by is_held answers

abbrev pub verdict_line : List Answer → List ℕ
verdict_line answers = cond (mismatched answers == 0) (codes "powereq: accepted") (codes "powereq: mismatch") ++ line_end

-- how many questions compare an output, and how many of them have each answer
abbrev pub counts_of : ℕ → ℕ → ℕ → List ℕ
counts_of total refuted mismatched =
    codes "obligations " ++ (decimal total ++ (codes " refuted " ++ (decimal refuted ++ (codes " mismatched "
    ++ (decimal mismatched ++ (codes " spent 0" ++ line_end))))))

abbrev pub counts_line : List Answer → List ℕ
counts_line answers = counts_of (held answers + mismatched answers) (held answers) (mismatched answers)

-- a line: two texts with what stands between them and before them
abbrev pub two_words : List ℕ → List ℕ → List ℕ → List ℕ → List ℕ
two_words before first between second = before ++ first ++ between ++ second ++ line_end

abbrev pub on_word : Bool → List ℕ
on_word true = codes "on"
on_word false = codes "off"

abbrev pub bit_word : Bool → List ℕ
bit_word true = codes "1"
bit_word false = codes "0"

abbrev pub value_word : Val → List ℕ
value_word Zero = codes "0"
value_word One = codes "1"
value_word Corrupt = codes "x"

-- the names of the rows, in text order
abbrev pub row_names : Design → List (List ℕ)
row_names d = map (λ row. row.name) d.supplies.rows

abbrev pub step_words : Design → Step → List ℕ
step_words d (Start q) = codes "start " ++ name_at (row_names d) q
step_words d (Pair p q) = name_at (row_names d) p ++ codes " to " ++ name_at (row_names d) q

-- the output that a point compares
abbrev pub point_name : Design → Point → List ℕ
point_name d (Output k) = name_at (output_names d.rtl) k
point_name d Live = []

abbrev pub name_in : Option (List ℕ × ℕ) → List ℕ
name_in None = []
name_in (Some name) = name.0

-- the first name of a supply
abbrev pub first_name : List (List ℕ × ℕ) → ℕ → List ℕ
first_name names supply = name_in (find (λ name. name.1 == supply) names)

-- a line for each root, in UPF order
abbrev pub supply_lines : List (List ℕ × ℕ) → List ℕ → List Bool → List ℕ
supply_lines names [] bits = []
supply_lines names (root ∷ roots) [] = []
supply_lines names (root ∷ roots) (bit ∷ bits) =
    two_words (codes "    supply ") (first_name names root) (codes " ") (on_word bit) ++ supply_lines names roots bits

-- a line for each input, in port order
abbrev pub input_lines : List (List ℕ) → List Bool → List ℕ
input_lines [] bits = []
input_lines (name ∷ names) [] = []
input_lines (name ∷ names) (bit ∷ bits) = two_words (codes "    in ") name (codes " ") (bit_word bit) ++ input_lines names bits

-- the roots and the inputs of a cycle
abbrev pub sample : Design → List Bool → List ℕ
sample d bits =
    codes "  cycle 1" ++ line_end ++ supply_lines d.supplies.names d.supplies.roots (roots_of d bits)
    ++ input_lines (input_names d.rtl) (inputs_of d bits)

abbrev pub values_line : Val → Val → List ℕ
values_line rtl net = two_words (codes "  rtl ") (value_word rtl) (codes " net ") (value_word net)

-- the block of a mismatch, and nothing for another answer
abbrev pub block : Design → Question → Answer → List ℕ
block d q (Mismatch bits rtl net) =
    two_words (codes "mismatch ") (step_words d q.step) (codes " output ") (point_name d q.point) ++ sample d bits ++ values_line rtl net
block d q _ = []

-- the block of a step that is live or empty, and nothing for another answer
abbrev pub step_block : Design → Question → Answer → List ℕ
step_block d q (Sample bits) = two_words (codes "step ") (step_words d q.step) (codes " ") (codes "live") ++ sample d bits
step_block d q Empty = two_words (codes "step ") (step_words d q.step) (codes " ") (codes "empty")
step_block d q _ = []

-- what answers are told as, in the order of the questions
abbrev pub blocks_by : (Question → Answer → List ℕ) → List Question → List Answer → List ℕ
blocks_by told [] answers = []
blocks_by told (q ∷ qs) [] = []
blocks_by told (q ∷ qs) (a ∷ answers) = told q a ++ blocks_by told qs answers

-- the verdict, the counts, a block for each mismatch and one for each step
abbrev pub report : Design → List Question → List Answer → List ℕ
report d qs answers =
    verdict_line answers ++ counts_line answers ++ blocks_by (block d) qs answers ++ blocks_by (step_block d) qs answers

-- the line of a file that can't be read
abbrev pub read_fault : List ℕ → List ℕ
read_fault name = codes "read fault: " ++ name ++ line_end

abbrev pub usage : List ℕ
usage = codes "usage: powereq check RTL UPF LIB NET MAP" ++ line_end

-- 0 where no answer is a mismatch, else 1
abbrev pub report_status : List Answer → ℕ
report_status answers = cond (mismatched answers == 0) 0 1
