-- The grammar of UPF: written by tools/grammar.py. The first rule is the start.
use Rattle.std.specs.Prelude.{List, [], ◌∷◌}
use Rattle.pe_grammar.specs.Written.{Written, rule, bounds_of, each_once, empty, many, word, ◌·◌, ◌∣◌}

abbrev UPF_VERSION : Written
UPF_VERSION = word 0

abbrev SET_DESIGN_TOP : Written
SET_DESIGN_TOP = word 1

abbrev CREATE_POWER_DOMAIN : Written
CREATE_POWER_DOMAIN = word 2

abbrev CREATE_SUPPLY_PORT : Written
CREATE_SUPPLY_PORT = word 3

abbrev CREATE_SUPPLY_NET : Written
CREATE_SUPPLY_NET = word 4

abbrev CONNECT_SUPPLY_NET : Written
CONNECT_SUPPLY_NET = word 5

abbrev CREATE_SUPPLY_SET : Written
CREATE_SUPPLY_SET = word 6

abbrev SET_DOMAIN_SUPPLY_NET : Written
SET_DOMAIN_SUPPLY_NET = word 7

abbrev CREATE_POWER_SWITCH : Written
CREATE_POWER_SWITCH = word 8

abbrev ADD_PORT_STATE : Written
ADD_PORT_STATE = word 9

abbrev CREATE_PST : Written
CREATE_PST = word 10

abbrev ADD_PST_STATE : Written
ADD_PST_STATE = word 11

abbrev SET_ISOLATION : Written
SET_ISOLATION = word 12

abbrev SET_RETENTION : Written
SET_RETENTION = word 13

abbrev SET_LEVEL_SHIFTER : Written
SET_LEVEL_SHIFTER = word 14

abbrev MAP_RETENTION_CELL : Written
MAP_RETENTION_CELL = word 15

abbrev MAP_POWER_SWITCH : Written
MAP_POWER_SWITCH = word 16

abbrev ELEMENTS : Written
ELEMENTS = word 17

abbrev INCLUDE_SCOPE : Written
INCLUDE_SCOPE = word 18

abbrev SUPPLY : Written
SUPPLY = word 19

abbrev DIRECTION : Written
DIRECTION = word 20

abbrev DOMAIN : Written
DOMAIN = word 21

abbrev REUSE : Written
REUSE = word 22

abbrev PORTS : Written
PORTS = word 23

abbrev FUNCTION : Written
FUNCTION = word 24

abbrev PRIMARY_POWER_NET : Written
PRIMARY_POWER_NET = word 25

abbrev PRIMARY_GROUND_NET : Written
PRIMARY_GROUND_NET = word 26

abbrev OUTPUT_SUPPLY_PORT : Written
OUTPUT_SUPPLY_PORT = word 27

abbrev INPUT_SUPPLY_PORT : Written
INPUT_SUPPLY_PORT = word 28

abbrev CONTROL_PORT : Written
CONTROL_PORT = word 29

abbrev ON_STATE : Written
ON_STATE = word 30

abbrev OFF_STATE : Written
OFF_STATE = word 31

abbrev STATE : Written
STATE = word 32

abbrev SUPPLIES : Written
SUPPLIES = word 33

abbrev PST : Written
PST = word 34

abbrev APPLIES_TO : Written
APPLIES_TO = word 35

abbrev CLAMP_VALUE : Written
CLAMP_VALUE = word 36

abbrev ISOLATION_SIGNAL : Written
ISOLATION_SIGNAL = word 37

abbrev ISOLATION_SENSE : Written
ISOLATION_SENSE = word 38

abbrev ISOLATION_SUPPLY : Written
ISOLATION_SUPPLY = word 39

abbrev LOCATION : Written
LOCATION = word 40

abbrev NO_ISOLATION : Written
NO_ISOLATION = word 41

abbrev RETENTION_SUPPLY : Written
RETENTION_SUPPLY = word 42

abbrev SAVE_SIGNAL : Written
SAVE_SIGNAL = word 43

abbrev RESTORE_SIGNAL : Written
RESTORE_SIGNAL = word 44

abbrev IN : Written
IN = word 45

abbrev OUT : Written
OUT = word 46

abbrev INPUTS : Written
INPUTS = word 47

abbrev OUTPUTS : Written
OUTPUTS = word 48

abbrev BOTH : Written
BOTH = word 49

abbrev HIGH : Written
HIGH = word 50

abbrev LOW : Written
LOW = word 51

abbrev POSEDGE : Written
POSEDGE = word 52

abbrev NEGEDGE : Written
NEGEDGE = word 53

abbrev POWER : Written
POWER = word 54

abbrev GROUND : Written
GROUND = word 55

abbrev PRIMARY : Written
PRIMARY = word 56

abbrev WORD : Written
WORD = word 57

abbrev TEXT : Written
TEXT = word 58

abbrev OPEN : Written
OPEN = word 59

abbrev CLOSE : Written
CLOSE = word 60

abbrev END : Written
END = word 61

abbrev OTHER : Written
OTHER = word 62

abbrev file : Written
file = rule 0

abbrev line : Written
line = rule 1

abbrev command : Written
command = rule 2

abbrev domain_options : Written
domain_options = rule 3

abbrev domain_option : Written
domain_option = rule 4

abbrev port_options : Written
port_options = rule 5

abbrev port_option : Written
port_option = rule 6

abbrev net_options : Written
net_options = rule 7

abbrev net_option : Written
net_option = rule 8

abbrev functions : Written
functions = rule 9

abbrev role : Written
role = rule 10

abbrev primary_options : Written
primary_options = rule 11

abbrev primary_option : Written
primary_option = rule 12

abbrev switch_options : Written
switch_options = rule 13

abbrev switch_option : Written
switch_option = rule 14

abbrev port_state : Written
port_state = rule 15

abbrev values : Written
values = rule 16

abbrev row_options : Written
row_options = rule 17

abbrev row_option : Written
row_option = rule 18

abbrev isolation_options : Written
isolation_options = rule 19

abbrev isolation_option : Written
isolation_option = rule 20

abbrev retention_options : Written
retention_options = rule 21

abbrev retention_option : Written
retention_option = rule 22

abbrev control : Written
control = rule 23

abbrev two_names : Written
two_names = rule 24

abbrev list : Written
list = rule 25

abbrev name : Written
name = rule 26

abbrev group : Written
group = rule 27

abbrev piece : Written
piece = rule 28

abbrev plain : Written
plain = rule 29

abbrev file-rule : Written
file-rule = (many END) · (many line)

abbrev line-rule : Written
line-rule = command · END · (many END)

abbrev command-rule : Written
command-rule = UPF_VERSION · name ∣ SET_DESIGN_TOP · name ∣ CREATE_POWER_DOMAIN · name · domain_options ∣ CREATE_SUPPLY_PORT · name · port_options ∣ CREATE_SUPPLY_NET · name · net_options ∣ CONNECT_SUPPLY_NET · name · PORTS · list ∣ CREATE_SUPPLY_SET · name · functions ∣ SET_DOMAIN_SUPPLY_NET · name · primary_options ∣ CREATE_POWER_SWITCH · name · switch_options ∣ ADD_PORT_STATE · name · (many port_state) ∣ CREATE_PST · name · SUPPLIES · list ∣ ADD_PST_STATE · name · row_options ∣ SET_ISOLATION · name · isolation_options ∣ SET_RETENTION · name · retention_options ∣ SET_LEVEL_SHIFTER · (many piece) ∣ MAP_RETENTION_CELL · (many piece) ∣ MAP_POWER_SWITCH · (many piece)

abbrev domain_options-rule : Written
domain_options-rule = each_once (bounds_of (ELEMENTS ∷ INCLUDE_SCOPE ∷ SUPPLY ∷ []) []) domain_option

abbrev domain_option-rule : Written
domain_option-rule = ELEMENTS · list ∣ INCLUDE_SCOPE ∣ SUPPLY · OPEN · PRIMARY · name · CLOSE

abbrev port_options-rule : Written
port_options-rule = each_once (bounds_of (DIRECTION ∷ DOMAIN ∷ []) []) port_option

abbrev port_option-rule : Written
port_option-rule = DIRECTION · (IN ∣ OUT) ∣ DOMAIN · name

abbrev net_options-rule : Written
net_options-rule = each_once (bounds_of (DOMAIN ∷ REUSE ∷ []) []) net_option

abbrev net_option-rule : Written
net_option-rule = DOMAIN · name ∣ REUSE

abbrev functions-rule : Written
functions-rule = FUNCTION · OPEN · role ∣ empty

abbrev role-rule : Written
role-rule = POWER · name · CLOSE · (FUNCTION · OPEN · GROUND · name · CLOSE ∣ empty) ∣ GROUND · name · CLOSE · (FUNCTION · OPEN · POWER · name · CLOSE ∣ empty)

abbrev primary_options-rule : Written
primary_options-rule = each_once (bounds_of (PRIMARY_POWER_NET ∷ PRIMARY_GROUND_NET ∷ []) []) primary_option

abbrev primary_option-rule : Written
primary_option-rule = PRIMARY_POWER_NET · name ∣ PRIMARY_GROUND_NET · name

abbrev switch_options-rule : Written
switch_options-rule = each_once (bounds_of (DOMAIN ∷ OUTPUT_SUPPLY_PORT ∷ INPUT_SUPPLY_PORT ∷ ON_STATE ∷ []) (OUTPUT_SUPPLY_PORT ∷ INPUT_SUPPLY_PORT ∷ ON_STATE ∷ [])) switch_option

abbrev switch_option-rule : Written
switch_option-rule = DOMAIN · name ∣ OUTPUT_SUPPLY_PORT · two_names ∣ INPUT_SUPPLY_PORT · two_names ∣ CONTROL_PORT · two_names ∣ ON_STATE · OPEN · name · name · group · CLOSE ∣ OFF_STATE · OPEN · name · group · CLOSE

abbrev port_state-rule : Written
port_state-rule = STATE · OPEN · name · values · CLOSE

abbrev values-rule : Written
values-rule = name · (name · (name ∣ empty) ∣ empty)

abbrev row_options-rule : Written
row_options-rule = each_once (bounds_of (PST ∷ STATE ∷ []) (PST ∷ STATE ∷ [])) row_option

abbrev row_option-rule : Written
row_option-rule = PST · name ∣ STATE · list

abbrev isolation_options-rule : Written
isolation_options-rule = each_once (bounds_of (DOMAIN ∷ APPLIES_TO ∷ ELEMENTS ∷ CLAMP_VALUE ∷ ISOLATION_SIGNAL ∷ ISOLATION_SENSE ∷ ISOLATION_SUPPLY ∷ LOCATION ∷ NO_ISOLATION ∷ []) (DOMAIN ∷ [])) isolation_option

abbrev isolation_option-rule : Written
isolation_option-rule = DOMAIN · name ∣ APPLIES_TO · (INPUTS ∣ OUTPUTS ∣ BOTH) ∣ ELEMENTS · list ∣ CLAMP_VALUE · name ∣ ISOLATION_SIGNAL · name ∣ ISOLATION_SENSE · (HIGH ∣ LOW) ∣ ISOLATION_SUPPLY · name ∣ LOCATION · name ∣ NO_ISOLATION

abbrev retention_options-rule : Written
retention_options-rule = each_once (bounds_of (DOMAIN ∷ ELEMENTS ∷ RETENTION_SUPPLY ∷ SAVE_SIGNAL ∷ RESTORE_SIGNAL ∷ []) (DOMAIN ∷ [])) retention_option

abbrev retention_option-rule : Written
retention_option-rule = DOMAIN · name ∣ ELEMENTS · list ∣ RETENTION_SUPPLY · name ∣ SAVE_SIGNAL · control ∣ RESTORE_SIGNAL · control

abbrev control-rule : Written
control-rule = OPEN · name · (HIGH ∣ LOW ∣ POSEDGE ∣ NEGEDGE) · CLOSE

abbrev two_names-rule : Written
two_names-rule = OPEN · name · name · CLOSE

abbrev list-rule : Written
list-rule = plain ∣ OPEN · (many name) · CLOSE

abbrev name-rule : Written
name-rule = plain ∣ OPEN · plain · CLOSE

abbrev group-rule : Written
group-rule = OPEN · (many piece) · CLOSE

abbrev piece-rule : Written
piece-rule = plain ∣ group

abbrev plain-rule : Written
plain-rule = WORD ∣ TEXT ∣ ((UPF_VERSION ∣ SET_DESIGN_TOP ∣ CREATE_POWER_DOMAIN ∣ CREATE_SUPPLY_PORT) ∣ (CREATE_SUPPLY_NET ∣ CONNECT_SUPPLY_NET ∣ CREATE_SUPPLY_SET ∣ SET_DOMAIN_SUPPLY_NET) ∣ (CREATE_POWER_SWITCH ∣ ADD_PORT_STATE ∣ CREATE_PST ∣ ADD_PST_STATE) ∣ (SET_ISOLATION ∣ SET_RETENTION ∣ SET_LEVEL_SHIFTER ∣ MAP_RETENTION_CELL)) ∣ ((MAP_POWER_SWITCH ∣ ELEMENTS ∣ INCLUDE_SCOPE ∣ SUPPLY) ∣ (DIRECTION ∣ DOMAIN ∣ REUSE ∣ PORTS) ∣ (FUNCTION ∣ PRIMARY_POWER_NET ∣ PRIMARY_GROUND_NET ∣ OUTPUT_SUPPLY_PORT) ∣ (INPUT_SUPPLY_PORT ∣ CONTROL_PORT ∣ ON_STATE ∣ OFF_STATE)) ∣ ((STATE ∣ SUPPLIES ∣ PST ∣ APPLIES_TO) ∣ (CLAMP_VALUE ∣ ISOLATION_SIGNAL ∣ ISOLATION_SENSE ∣ ISOLATION_SUPPLY) ∣ (LOCATION ∣ NO_ISOLATION ∣ RETENTION_SUPPLY ∣ SAVE_SIGNAL) ∣ (RESTORE_SIGNAL ∣ IN ∣ OUT ∣ INPUTS)) ∣ ((OUTPUTS ∣ BOTH ∣ HIGH ∣ LOW) ∣ (POSEDGE ∣ NEGEDGE ∣ POWER ∣ GROUND) ∣ PRIMARY)

abbrev pub upf_grammar : List Written
upf_grammar =
    file-rule
    ∷ line-rule
    ∷ command-rule
    ∷ domain_options-rule
    ∷ domain_option-rule
    ∷ port_options-rule
    ∷ port_option-rule
    ∷ net_options-rule
    ∷ net_option-rule
    ∷ functions-rule
    ∷ role-rule
    ∷ primary_options-rule
    ∷ primary_option-rule
    ∷ switch_options-rule
    ∷ switch_option-rule
    ∷ port_state-rule
    ∷ values-rule
    ∷ row_options-rule
    ∷ row_option-rule
    ∷ isolation_options-rule
    ∷ isolation_option-rule
    ∷ retention_options-rule
    ∷ retention_option-rule
    ∷ control-rule
    ∷ two_names-rule
    ∷ list-rule
    ∷ name-rule
    ∷ group-rule
    ∷ piece-rule
    ∷ plain-rule
    ∷ []
