-- The grammar of STATEMENT: written by tools/grammar.py. The first rule is the start.
use Rattle.std.specs.Prelude.{List, [], ◌∷◌}
use Rattle.pe_grammar.specs.Written.{Written, rule, bounds_of, each_once, many, nearest, set_of, word, ◌·◌, ◌∣◌}

abbrev BEGIN : Written
BEGIN = word 0

abbrev END : Written
END = word 1

abbrev IF : Written
IF = word 2

abbrev OPEN : Written
OPEN = word 3

abbrev CLOSE : Written
CLOSE = word 4

abbrev ELSE : Written
ELSE = word 5

abbrev NAME : Written
NAME = word 6

abbrev EQUALS : Written
EQUALS = word 7

abbrev COMMA : Written
COMMA = word 8

abbrev SEMI : Written
SEMI = word 9

abbrev DECLARE : Written
DECLARE = word 10

abbrev SIZE : Written
SIZE = word 11

abbrev SIGNED : Written
SIGNED = word 12

abbrev NOTE : Written
NOTE = word 13

abbrev statement : Written
statement = rule 0

abbrev block : Written
block = rule 1

abbrev test : Written
test = rule 2

abbrev otherwise : Written
otherwise = rule 3

abbrev assignment : Written
assignment = rule 4

abbrev names : Written
names = rule 5

abbrev declaration : Written
declaration = rule 6

abbrev options : Written
options = rule 7

abbrev option : Written
option = rule 8

abbrev statement-rule : Written
statement-rule = block ∣ test ∣ assignment ∣ declaration ∣ SEMI

abbrev block-rule : Written
block-rule = BEGIN · (many statement) · END

abbrev test-rule : Written
test-rule = IF · OPEN · NAME · CLOSE · statement · otherwise

abbrev otherwise-rule : Written
otherwise-rule = nearest (set_of (ELSE ∷ [])) statement

abbrev assignment-rule : Written
assignment-rule = NAME · EQUALS · names · SEMI

abbrev names-rule : Written
names-rule = NAME · (many (COMMA · NAME))

abbrev declaration-rule : Written
declaration-rule = DECLARE · NAME · options · SEMI

abbrev options-rule : Written
options-rule = each_once (bounds_of (SIZE ∷ SIGNED ∷ []) (SIZE ∷ [])) option

abbrev option-rule : Written
option-rule = SIZE · NAME ∣ SIGNED ∣ NOTE · NAME

abbrev pub statement_grammar : List Written
statement_grammar =
    statement-rule
    ∷ block-rule
    ∷ test-rule
    ∷ otherwise-rule
    ∷ assignment-rule
    ∷ names-rule
    ∷ declaration-rule
    ∷ options-rule
    ∷ option-rule
    ∷ []
