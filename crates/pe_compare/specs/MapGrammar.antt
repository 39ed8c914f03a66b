-- The grammar of MAP: written by tools/grammar.py. The first rule is the start.
use Rattle.std.specs.Prelude.{List, [], ◌∷◌}
use Rattle.pe_grammar.specs.Written.{Written, rule, bounds_of, each_once, empty, word, ◌·◌, ◌∣◌}

abbrev TOP : Written
TOP = word 0

abbrev CLOCK : Written
CLOCK = word 1

abbrev SUPPLY : Written
SUPPLY = word 2

abbrev PORT : Written
PORT = word 3

abbrev TIE : Written
TIE = word 4

abbrev REG : Written
REG = word 5

abbrev DROP : Written
DROP = word 6

abbrev START : Written
START = word 7

abbrev STEP : Written
STEP = word 8

abbrev INV : Written
INV = word 9

abbrev ZERO : Written
ZERO = word 10

abbrev ONE : Written
ONE = word 11

abbrev WORD : Written
WORD = word 12

abbrev LINE : Written
LINE = word 13

abbrev map : Written
map = rule 0

abbrev line : Written
line = rule 1

abbrev design : Written
design = rule 2

abbrev port : Written
port = rule 3

abbrev register : Written
register = rule 4

abbrev row : Written
row = rule 5

abbrev one : Written
one = rule 6

abbrev two : Written
two = rule 7

abbrev bit : Written
bit = rule 8

abbrev inverted : Written
inverted = rule 9

abbrev name : Written
name = rule 10

abbrev map-rule : Written
map-rule = each_once (bounds_of (TOP ∷ CLOCK ∷ []) []) line

abbrev line-rule : Written
line-rule = design ∣ port ∣ register ∣ row ∣ LINE

abbrev design-rule : Written
design-rule = TOP · two ∣ CLOCK · one

abbrev port-rule : Written
port-rule = SUPPLY · two ∣ PORT · two ∣ TIE · name · bit · LINE

abbrev register-rule : Written
register-rule = REG · name · name · inverted · LINE ∣ DROP · one

abbrev row-rule : Written
row-rule = START · one ∣ STEP · two

abbrev one-rule : Written
one-rule = name · LINE

abbrev two-rule : Written
two-rule = name · name · LINE

abbrev bit-rule : Written
bit-rule = ZERO ∣ ONE

abbrev inverted-rule : Written
inverted-rule = INV ∣ empty

abbrev name-rule : Written
name-rule = WORD ∣ INV ∣ ZERO ∣ ONE

abbrev pub map_grammar : List Written
map_grammar =
    map-rule
    ∷ line-rule
    ∷ design-rule
    ∷ port-rule
    ∷ register-rule
    ∷ row-rule
    ∷ one-rule
    ∷ two-rule
    ∷ bit-rule
    ∷ inverted-rule
    ∷ name-rule
    ∷ []
