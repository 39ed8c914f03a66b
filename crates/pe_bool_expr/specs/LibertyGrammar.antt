-- The grammar of LIBERTY: written by tools/grammar.py. The first rule is the start.
use Rattle.std.specs.Prelude.{List, [], ◌∷◌}
use Rattle.pe_grammar.specs.Written.{Written, rule, empty, many, word, ◌·◌, ◌∣◌}

abbrev PLUS : Written
PLUS = word 0

abbrev BAR : Written
BAR = word 1

abbrev STAR : Written
STAR = word 2

abbrev AND : Written
AND = word 3

abbrev CARET : Written
CARET = word 4

abbrev BANG : Written
BANG = word 5

abbrev PRIME : Written
PRIME = word 6

abbrev NAME : Written
NAME = word 7

abbrev ZERO : Written
ZERO = word 8

abbrev ONE : Written
ONE = word 9

abbrev OPEN : Written
OPEN = word 10

abbrev CLOSE : Written
CLOSE = word 11

abbrev sum : Written
sum = rule 0

abbrev product : Written
product = rule 1

abbrev difference : Written
difference = rule 2

abbrev marked : Written
marked = rule 3

abbrev primed : Written
primed = rule 4

abbrev primary : Written
primary = rule 5

abbrev sum-rule : Written
sum-rule = product · (many ((PLUS ∣ BAR) · product))

abbrev product-rule : Written
product-rule = difference · (many (((STAR ∣ AND) ∣ empty) · difference))

abbrev difference-rule : Written
difference-rule = marked · (many (CARET · marked))

abbrev marked-rule : Written
marked-rule = (many BANG) · primed

abbrev primed-rule : Written
primed-rule = primary · (many PRIME)

abbrev primary-rule : Written
primary-rule = NAME ∣ ZERO ∣ ONE ∣ OPEN · sum · CLOSE

abbrev pub liberty_grammar : List Written
liberty_grammar =
    sum-rule
    ∷ product-rule
    ∷ difference-rule
    ∷ marked-rule
    ∷ primed-rule
    ∷ primary-rule
    ∷ []
