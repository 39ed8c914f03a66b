-- The grammar of UPF: written by tools/grammar.py. The first rule is the start.
use Rattle.std.specs.Prelude.{List, [], ◌∷◌}
use Rattle.pe_grammar.specs.Written.{Written, rule, many, word, ◌·◌, ◌∣◌}

abbrev BANG : Written
BANG = word 0

abbrev TILDE : Written
TILDE = word 1

abbrev AND : Written
AND = word 2

abbrev CARET : Written
CARET = word 3

abbrev BAR : Written
BAR = word 4

abbrev AND_AND : Written
AND_AND = word 5

abbrev BAR_BAR : Written
BAR_BAR = word 6

abbrev NAME : Written
NAME = word 7

abbrev ZERO : Written
ZERO = word 8

abbrev ONE : Written
ONE = word 9

abbrev OPEN : Written
OPEN = word 10

abbrev CLOSE : Written
CLOSE = word 11

abbrev any : Written
any = rule 0

abbrev all : Written
all = rule 1

abbrev union : Written
union = rule 2

abbrev difference : Written
difference = rule 3

abbrev product : Written
product = rule 4

abbrev marked : Written
marked = rule 5

abbrev primary : Written
primary = rule 6

abbrev any-rule : Written
any-rule = all · (many (BAR_BAR · all))

abbrev all-rule : Written
all-rule = union · (many (AND_AND · union))

abbrev union-rule : Written
union-rule = difference · (many (BAR · difference))

abbrev difference-rule : Written
difference-rule = product · (many (CARET · product))

abbrev product-rule : Written
product-rule = marked · (many (AND · marked))

abbrev marked-rule : Written
marked-rule = (many (BANG ∣ TILDE)) · primary

abbrev primary-rule : Written
primary-rule = NAME ∣ ZERO ∣ ONE ∣ OPEN · any · CLOSE

abbrev pub upf_grammar : List Written
upf_grammar =
    any-rule
    ∷ all-rule
    ∷ union-rule
    ∷ difference-rule
    ∷ product-rule
    ∷ marked-rule
    ∷ primary-rule
    ∷ []
