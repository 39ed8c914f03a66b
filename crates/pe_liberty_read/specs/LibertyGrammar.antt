-- The grammar of LIBERTY: written by tools/grammar.py. The first rule is the start.
use Rattle.std.specs.Prelude.{List, [], ◌∷◌}
use Rattle.pe_grammar.specs.Written.{Written, rule, empty, many, word, ◌·◌, ◌∣◌}

abbrev LIBRARY : Written
LIBRARY = word 0

abbrev WORD : Written
WORD = word 1

abbrev TEXT : Written
TEXT = word 2

abbrev VALUE : Written
VALUE = word 3

abbrev OPEN : Written
OPEN = word 4

abbrev CLOSE : Written
CLOSE = word 5

abbrev BEGIN : Written
BEGIN = word 6

abbrev END : Written
END = word 7

abbrev COLON : Written
COLON = word 8

abbrev SEMI : Written
SEMI = word 9

abbrev COMMA : Written
COMMA = word 10

abbrev LINE : Written
LINE = word 11

abbrev library : Written
library = rule 0

abbrev braced : Written
braced = rule 1

abbrev statements : Written
statements = rule 2

abbrev statement : Written
statement = rule 3

abbrev meaning : Written
meaning = rule 4

abbrev values : Written
values = rule 5

abbrev stop : Written
stop = rule 6

abbrev body : Written
body = rule 7

abbrev ending : Written
ending = rule 8

abbrev arguments : Written
arguments = rule 9

abbrev next : Written
next = rule 10

abbrev argument : Written
argument = rule 11

abbrev name : Written
name = rule 12

abbrev library-rule : Written
library-rule = LIBRARY · OPEN · arguments · CLOSE · braced

abbrev braced-rule : Written
braced-rule = BEGIN · statements · END · ending

abbrev statements-rule : Written
statements-rule = many statement

abbrev statement-rule : Written
statement-rule = name · meaning

abbrev meaning-rule : Written
meaning-rule = COLON · values · stop ∣ OPEN · arguments · CLOSE · body

abbrev values-rule : Written
values-rule = VALUE · (many VALUE)

abbrev stop-rule : Written
stop-rule = (SEMI ∣ LINE) ∣ empty

abbrev body-rule : Written
body-rule = braced ∣ ending

abbrev ending-rule : Written
ending-rule = SEMI ∣ empty

abbrev arguments-rule : Written
arguments-rule = argument · (many next) ∣ empty

abbrev next-rule : Written
next-rule = (COMMA ∣ empty) · argument

abbrev argument-rule : Written
argument-rule = name ∣ TEXT

abbrev name-rule : Written
name-rule = LIBRARY ∣ WORD

abbrev pub liberty_grammar : List Written
liberty_grammar =
    library-rule
    ∷ braced-rule
    ∷ statements-rule
    ∷ statement-rule
    ∷ meaning-rule
    ∷ values-rule
    ∷ stop-rule
    ∷ body-rule
    ∷ ending-rule
    ∷ arguments-rule
    ∷ next-rule
    ∷ argument-rule
    ∷ name-rule
    ∷ []
