-- The grammar of VERILOG: written by tools/grammar.py. The first rule is the start.
use Rattle.std.specs.Prelude.{List, [], ◌∷◌}
use Rattle.pe_grammar.specs.Written.{Written, rule, empty, many, nearest, set_of, word, ◌·◌, ◌∣◌}

abbrev MODULE : Written
MODULE = word 0

abbrev ENDMODULE : Written
ENDMODULE = word 1

abbrev PARAMETER : Written
PARAMETER = word 2

abbrev LOCALPARAM : Written
LOCALPARAM = word 3

abbrev WIRE : Written
WIRE = word 4

abbrev REG : Written
REG = word 5

abbrev INPUT : Written
INPUT = word 6

abbrev OUTPUT : Written
OUTPUT = word 7

abbrev INOUT : Written
INOUT = word 8

abbrev ASSIGN : Written
ASSIGN = word 9

abbrev ALWAYS : Written
ALWAYS = word 10

abbrev POSEDGE : Written
POSEDGE = word 11

abbrev NEGEDGE : Written
NEGEDGE = word 12

abbrev OR : Written
OR = word 13

abbrev BEGIN : Written
BEGIN = word 14

abbrev END : Written
END = word 15

abbrev IF : Written
IF = word 16

abbrev ELSE : Written
ELSE = word 17

abbrev CASE : Written
CASE = word 18

abbrev CASEZ : Written
CASEZ = word 19

abbrev ENDCASE : Written
ENDCASE = word 20

abbrev DEFAULT : Written
DEFAULT = word 21

abbrev HASH : Written
HASH = word 22

abbrev OPEN : Written
OPEN = word 23

abbrev CLOSE : Written
CLOSE = word 24

abbrev COMMA : Written
COMMA = word 25

abbrev SEMI : Written
SEMI = word 26

abbrev DOT : Written
DOT = word 27

abbrev EQUALS : Written
EQUALS = word 28

abbrev LBRACKET : Written
LBRACKET = word 29

abbrev RBRACKET : Written
RBRACKET = word 30

abbrev COLON : Written
COLON = word 31

abbrev AT : Written
AT = word 32

abbrev STAR : Written
STAR = word 33

abbrev LBRACE : Written
LBRACE = word 34

abbrev RBRACE : Written
RBRACE = word 35

abbrev QUESTION : Written
QUESTION = word 36

abbrev BANG : Written
BANG = word 37

abbrev TILDE : Written
TILDE = word 38

abbrev AND : Written
AND = word 39

abbrev NAND : Written
NAND = word 40

abbrev BAR : Written
BAR = word 41

abbrev NOR : Written
NOR = word 42

abbrev CARET : Written
CARET = word 43

abbrev XNOR : Written
XNOR = word 44

abbrev PLUS : Written
PLUS = word 45

abbrev MINUS : Written
MINUS = word 46

abbrev LEFT : Written
LEFT = word 47

abbrev RIGHT : Written
RIGHT = word 48

abbrev LESS : Written
LESS = word 49

abbrev LESS_EQUAL : Written
LESS_EQUAL = word 50

abbrev GREATER : Written
GREATER = word 51

abbrev GREATER_EQUAL : Written
GREATER_EQUAL = word 52

abbrev EQUAL : Written
EQUAL = word 53

abbrev NOT_EQUAL : Written
NOT_EQUAL = word 54

abbrev AND_AND : Written
AND_AND = word 55

abbrev BAR_BAR : Written
BAR_BAR = word 56

abbrev NAME : Written
NAME = word 57

abbrev NUMBER : Written
NUMBER = word 58

abbrev WILD : Written
WILD = word 59

abbrev OTHER : Written
OTHER = word 60

abbrev rtl : Written
rtl = rule 0

abbrev netlist : Written
netlist = rule 1

abbrev «module» : Written
«module» = rule 2

abbrev net_module : Written
net_module = rule 3

abbrev heading : Written
heading = rule 4

abbrev parameter_head : Written
parameter_head = rule 5

abbrev head_parameters : Written
head_parameters = rule 6

abbrev head_parameter : Written
head_parameter = rule 7

abbrev setting : Written
setting = rule 8

abbrev port_head : Written
port_head = rule 9

abbrev ports : Written
ports = rule 10

abbrev names : Written
names = rule 11

abbrev head_ports : Written
head_ports = rule 12

abbrev head_port : Written
head_port = rule 13

abbrev port : Written
port = rule 14

abbrev direction : Written
direction = rule 15

abbrev range : Written
range = rule 16

abbrev item : Written
item = rule 17

abbrev regs : Written
regs = rule 18

abbrev parameters : Written
parameters = rule 19

abbrev settings : Written
settings = rule 20

abbrev port_item : Written
port_item = rule 21

abbrev parameter_pins : Written
parameter_pins = rule 22

abbrev always : Written
always = rule 23

abbrev events : Written
events = rule 24

abbrev listened : Written
listened = rule 25

abbrev event_list : Written
event_list = rule 26

abbrev event : Written
event = rule 27

abbrev statement : Written
statement = rule 28

abbrev block : Written
block = rule 29

abbrev test : Written
test = rule 30

abbrev otherwise : Written
otherwise = rule 31

abbrev cases : Written
cases = rule 32

abbrev arms : Written
arms = rule 33

abbrev arm : Written
arm = rule 34

abbrev labelled : Written
labelled = rule 35

abbrev default : Written
default = rule 36

abbrev wild_cases : Written
wild_cases = rule 37

abbrev wild_arms : Written
wild_arms = rule 38

abbrev wild_arm : Written
wild_arm = rule 39

abbrev wild_labelled : Written
wild_labelled = rule 40

abbrev assignment : Written
assignment = rule 41

abbrev target : Written
target = rule 42

abbrev target_join : Written
target_join = rule 43

abbrev targets : Written
targets = rule 44

abbrev named_target : Written
named_target = rule 45

abbrev sign : Written
sign = rule 46

abbrev ex : Written
ex = rule 47

abbrev any : Written
any = rule 48

abbrev all : Written
all = rule 49

abbrev union : Written
union = rule 50

abbrev difference : Written
difference = rule 51

abbrev product : Written
product = rule 52

abbrev equality : Written
equality = rule 53

abbrev order : Written
order = rule 54

abbrev shift : Written
shift = rule 55

abbrev sum : Written
sum = rule 56

abbrev unary : Written
unary = rule 57

abbrev primary : Written
primary = rule 58

abbrev group : Written
group = rule 59

abbrev braces : Written
braces = rule 60

abbrev inner : Written
inner = rule 61

abbrev list : Written
list = rule 62

abbrev sides : Written
sides = rule 63

abbrev select : Written
select = rule 64

abbrev operand : Written
operand = rule 65

abbrev label_ex : Written
label_ex = rule 66

abbrev label_any : Written
label_any = rule 67

abbrev label_all : Written
label_all = rule 68

abbrev label_union : Written
label_union = rule 69

abbrev label_difference : Written
label_difference = rule 70

abbrev label_product : Written
label_product = rule 71

abbrev label_equality : Written
label_equality = rule 72

abbrev label_order : Written
label_order = rule 73

abbrev label_shift : Written
label_shift = rule 74

abbrev label_sum : Written
label_sum = rule 75

abbrev label_unary : Written
label_unary = rule 76

abbrev label_primary : Written
label_primary = rule 77

abbrev label_group : Written
label_group = rule 78

abbrev label_braces : Written
label_braces = rule 79

abbrev label_inner : Written
label_inner = rule 80

abbrev label_list : Written
label_list = rule 81

abbrev label_sides : Written
label_sides = rule 82

abbrev label_select : Written
label_select = rule 83

abbrev label_operand : Written
label_operand = rule 84

abbrev constant_ex : Written
constant_ex = rule 85

abbrev constant_any : Written
constant_any = rule 86

abbrev constant_all : Written
constant_all = rule 87

abbrev constant_union : Written
constant_union = rule 88

abbrev constant_difference : Written
constant_difference = rule 89

abbrev constant_product : Written
constant_product = rule 90

abbrev constant_equality : Written
constant_equality = rule 91

abbrev constant_order : Written
constant_order = rule 92

abbrev constant_shift : Written
constant_shift = rule 93

abbrev constant_sum : Written
constant_sum = rule 94

abbrev constant_unary : Written
constant_unary = rule 95

abbrev constant_primary : Written
constant_primary = rule 96

abbrev constant_group : Written
constant_group = rule 97

abbrev constant_braces : Written
constant_braces = rule 98

abbrev constant_inner : Written
constant_inner = rule 99

abbrev constant_list : Written
constant_list = rule 100

abbrev constant_sides : Written
constant_sides = rule 101

abbrev constant_select : Written
constant_select = rule 102

abbrev constant_operand : Written
constant_operand = rule 103

abbrev simple : Written
simple = rule 104

abbrev simple_join : Written
simple_join = rule 105

abbrev simple_list : Written
simple_list = rule 106

abbrev simple_operand : Written
simple_operand = rule 107

abbrev plain : Written
plain = rule 108

abbrev wires : Written
wires = rule 109

abbrev wire_list : Written
wire_list = rule 110

abbrev wire : Written
wire = rule 111

abbrev assigns : Written
assigns = rule 112

abbrev assign_list : Written
assign_list = rule 113

abbrev assign : Written
assign = rule 114

abbrev instances : Written
instances = rule 115

abbrev instance_list : Written
instance_list = rule 116

abbrev instance : Written
instance = rule 117

abbrev pins : Written
pins = rule 118

abbrev named_list : Written
named_list = rule 119

abbrev named : Written
named = rule 120

abbrev net_plain : Written
net_plain = rule 121

abbrev net_wires : Written
net_wires = rule 122

abbrev net_wire_list : Written
net_wire_list = rule 123

abbrev net_wire : Written
net_wire = rule 124

abbrev net_assigns : Written
net_assigns = rule 125

abbrev net_assign_list : Written
net_assign_list = rule 126

abbrev net_assign : Written
net_assign = rule 127

abbrev net_instances : Written
net_instances = rule 128

abbrev net_instance_list : Written
net_instance_list = rule 129

abbrev net_instance : Written
net_instance = rule 130

abbrev net_pins : Written
net_pins = rule 131

abbrev net_named_list : Written
net_named_list = rule 132

abbrev net_named : Written
net_named = rule 133

abbrev rtl-rule : Written
rtl-rule = many «module»

abbrev netlist-rule : Written
netlist-rule = many net_module

abbrev module-rule : Written
module-rule = MODULE · heading · (many item) · ENDMODULE

abbrev net_module-rule : Written
net_module-rule = MODULE · heading · (many net_plain) · ENDMODULE

abbrev heading-rule : Written
heading-rule = NAME · (parameter_head ∣ empty) · (port_head ∣ empty) · SEMI

abbrev parameter_head-rule : Written
parameter_head-rule = HASH · OPEN · head_parameters · CLOSE

abbrev head_parameters-rule : Written
head_parameters-rule = head_parameter · (many (COMMA · head_parameter))

abbrev head_parameter-rule : Written
head_parameter-rule = (PARAMETER ∣ empty) · (range ∣ empty) · setting

abbrev setting-rule : Written
setting-rule = NAME · EQUALS · ex

abbrev port_head-rule : Written
port_head-rule = OPEN · (ports ∣ empty) · CLOSE

abbrev ports-rule : Written
ports-rule = names ∣ head_ports

abbrev names-rule : Written
names-rule = NAME · (many (COMMA · NAME))

abbrev head_ports-rule : Written
head_ports-rule = port · (many (COMMA · head_port))

abbrev head_port-rule : Written
head_port-rule = port ∣ NAME

abbrev port-rule : Written
port-rule = direction · ((WIRE ∣ REG) ∣ empty) · (range ∣ empty) · NAME

abbrev direction-rule : Written
direction-rule = INPUT ∣ OUTPUT ∣ INOUT

abbrev range-rule : Written
range-rule = LBRACKET · sides · RBRACKET

abbrev item-rule : Written
item-rule = plain ∣ regs ∣ parameters ∣ always

abbrev regs-rule : Written
regs-rule = REG · (range ∣ empty) · names · SEMI

abbrev parameters-rule : Written
parameters-rule = (PARAMETER ∣ LOCALPARAM) · (range ∣ empty) · settings · SEMI

abbrev settings-rule : Written
settings-rule = setting · (many (COMMA · setting))

abbrev port_item-rule : Written
port_item-rule = port · (many (COMMA · NAME)) · SEMI

abbrev parameter_pins-rule : Written
parameter_pins-rule = HASH · OPEN · pins · CLOSE

abbrev always-rule : Written
always-rule = ALWAYS · AT · events · statement

abbrev events-rule : Written
events-rule = STAR ∣ OPEN · listened · CLOSE

abbrev listened-rule : Written
listened-rule = STAR ∣ event_list

abbrev event_list-rule : Written
event_list-rule = event · (many ((OR ∣ COMMA) · event))

abbrev event-rule : Written
event-rule = ((POSEDGE ∣ NEGEDGE) ∣ empty) · NAME

abbrev statement-rule : Written
statement-rule = block ∣ test ∣ cases ∣ wild_cases ∣ assignment ∣ SEMI

abbrev block-rule : Written
block-rule = BEGIN · (COLON · NAME ∣ empty) · (many statement) · END

abbrev test-rule : Written
test-rule = IF · group · statement · otherwise

abbrev otherwise-rule : Written
otherwise-rule = nearest (set_of (ELSE ∷ [])) statement

abbrev cases-rule : Written
cases-rule = CASE · group · arms · ENDCASE

abbrev arms-rule : Written
arms-rule = arm · (many arm)

abbrev arm-rule : Written
arm-rule = labelled ∣ default

abbrev labelled-rule : Written
labelled-rule = list · COLON · statement

abbrev default-rule : Written
default-rule = DEFAULT · (COLON ∣ empty) · statement

abbrev wild_cases-rule : Written
wild_cases-rule = CASEZ · group · wild_arms · ENDCASE

abbrev wild_arms-rule : Written
wild_arms-rule = wild_arm · (many wild_arm)

abbrev wild_arm-rule : Written
wild_arm-rule = wild_labelled ∣ default

abbrev wild_labelled-rule : Written
wild_labelled-rule = label_list · COLON · statement

abbrev assignment-rule : Written
assignment-rule = target · (EQUALS ∣ LESS_EQUAL) · ex · SEMI

abbrev target-rule : Written
target-rule = target_join ∣ named_target

abbrev target_join-rule : Written
target_join-rule = LBRACE · targets · RBRACE

abbrev targets-rule : Written
targets-rule = target · (many (COMMA · target))

abbrev named_target-rule : Written
named_target-rule = NAME · (select ∣ empty)

abbrev sign-rule : Written
sign-rule = BANG ∣ TILDE ∣ AND ∣ NAND ∣ BAR ∣ NOR ∣ CARET ∣ XNOR

abbrev ex-rule : Written
ex-rule = any · (QUESTION · sides ∣ empty)

abbrev any-rule : Written
any-rule = all · (many (BAR_BAR · all))

abbrev all-rule : Written
all-rule = union · (many (AND_AND · union))

abbrev union-rule : Written
union-rule = difference · (many (BAR · difference))

abbrev difference-rule : Written
difference-rule = product · (many ((CARET ∣ XNOR) · product))

abbrev product-rule : Written
product-rule = equality · (many (AND · equality))

abbrev equality-rule : Written
equality-rule = order · (many ((EQUAL ∣ NOT_EQUAL) · order))

abbrev order-rule : Written
order-rule = shift · (many ((LESS ∣ LESS_EQUAL ∣ GREATER ∣ GREATER_EQUAL) · shift))

abbrev shift-rule : Written
shift-rule = sum · (many ((LEFT ∣ RIGHT) · sum))

abbrev sum-rule : Written
sum-rule = unary · (many ((PLUS ∣ MINUS) · unary))

abbrev unary-rule : Written
unary-rule = sign · unary ∣ primary

abbrev primary-rule : Written
primary-rule = group ∣ braces ∣ operand

abbrev group-rule : Written
group-rule = OPEN · ex · CLOSE

abbrev braces-rule : Written
braces-rule = LBRACE · ex · (many (COMMA · ex) ∣ inner) · RBRACE

abbrev inner-rule : Written
inner-rule = LBRACE · list · RBRACE

abbrev list-rule : Written
list-rule = ex · (many (COMMA · ex))

abbrev sides-rule : Written
sides-rule = ex · COLON · ex

abbrev select-rule : Written
select-rule = LBRACKET · ex · (COLON · ex ∣ empty) · RBRACKET

abbrev operand-rule : Written
operand-rule = NUMBER ∣ NAME · (select ∣ empty)

abbrev label_ex-rule : Written
label_ex-rule = label_any · (QUESTION · label_sides ∣ empty)

abbrev label_any-rule : Written
label_any-rule = label_all · (many (BAR_BAR · label_all))

abbrev label_all-rule : Written
label_all-rule = label_union · (many (AND_AND · label_union))

abbrev label_union-rule : Written
label_union-rule = label_difference · (many (BAR · label_difference))

abbrev label_difference-rule : Written
label_difference-rule = label_product · (many ((CARET ∣ XNOR) · label_product))

abbrev label_product-rule : Written
label_product-rule = label_equality · (many (AND · label_equality))

abbrev label_equality-rule : Written
label_equality-rule = label_order · (many ((EQUAL ∣ NOT_EQUAL) · label_order))

abbrev label_order-rule : Written
label_order-rule = label_shift · (many ((LESS ∣ LESS_EQUAL ∣ GREATER ∣ GREATER_EQUAL) · label_shift))

abbrev label_shift-rule : Written
label_shift-rule = label_sum · (many ((LEFT ∣ RIGHT) · label_sum))

abbrev label_sum-rule : Written
label_sum-rule = label_unary · (many ((PLUS ∣ MINUS) · label_unary))

abbrev label_unary-rule : Written
label_unary-rule = sign · label_unary ∣ label_primary

abbrev label_primary-rule : Written
label_primary-rule = label_group ∣ label_braces ∣ label_operand

abbrev label_group-rule : Written
label_group-rule = OPEN · label_ex · CLOSE

abbrev label_braces-rule : Written
label_braces-rule = LBRACE · label_ex · (many (COMMA · label_ex) ∣ label_inner) · RBRACE

abbrev label_inner-rule : Written
label_inner-rule = LBRACE · label_list · RBRACE

abbrev label_list-rule : Written
label_list-rule = label_ex · (many (COMMA · label_ex))

abbrev label_sides-rule : Written
label_sides-rule = label_ex · COLON · label_ex

abbrev label_select-rule : Written
label_select-rule = LBRACKET · label_ex · (COLON · label_ex ∣ empty) · RBRACKET

abbrev label_operand-rule : Written
label_operand-rule = (NUMBER ∣ WILD) ∣ NAME · (label_select ∣ empty)

abbrev constant_ex-rule : Written
constant_ex-rule = constant_any · (QUESTION · constant_sides ∣ empty)

abbrev constant_any-rule : Written
constant_any-rule = constant_all · (many (BAR_BAR · constant_all))

abbrev constant_all-rule : Written
constant_all-rule = constant_union · (many (AND_AND · constant_union))

abbrev constant_union-rule : Written
constant_union-rule = constant_difference · (many (BAR · constant_difference))

abbrev constant_difference-rule : Written
constant_difference-rule = constant_product · (many ((CARET ∣ XNOR) · constant_product))

abbrev constant_product-rule : Written
constant_product-rule = constant_equality · (many (AND · constant_equality))

abbrev constant_equality-rule : Written
constant_equality-rule = constant_order · (many ((EQUAL ∣ NOT_EQUAL) · constant_order))

abbrev constant_order-rule : Written
constant_order-rule = constant_shift · (many ((LESS ∣ LESS_EQUAL ∣ GREATER ∣ GREATER_EQUAL) · constant_shift))

abbrev constant_shift-rule : Written
constant_shift-rule = constant_sum · (many ((LEFT ∣ RIGHT) · constant_sum))

abbrev constant_sum-rule : Written
constant_sum-rule = constant_unary · (many ((PLUS ∣ MINUS) · constant_unary))

abbrev constant_unary-rule : Written
constant_unary-rule = sign · constant_unary ∣ constant_primary

abbrev constant_primary-rule : Written
constant_primary-rule = constant_group ∣ constant_braces ∣ constant_operand

abbrev constant_group-rule : Written
constant_group-rule = OPEN · constant_ex · CLOSE

abbrev constant_braces-rule : Written
constant_braces-rule = LBRACE · constant_ex · (many (COMMA · constant_ex) ∣ constant_inner) · RBRACE

abbrev constant_inner-rule : Written
constant_inner-rule = LBRACE · constant_list · RBRACE

abbrev constant_list-rule : Written
constant_list-rule = constant_ex · (many (COMMA · constant_ex))

abbrev constant_sides-rule : Written
constant_sides-rule = constant_ex · COLON · constant_ex

abbrev constant_select-rule : Written
constant_select-rule = LBRACKET · constant_ex · (COLON · constant_ex ∣ empty) · RBRACKET

abbrev constant_operand-rule : Written
constant_operand-rule = NUMBER

abbrev simple-rule : Written
simple-rule = simple_join ∣ simple_operand

abbrev simple_join-rule : Written
simple_join-rule = LBRACE · simple_list · RBRACE

abbrev simple_list-rule : Written
simple_list-rule = simple · (many (COMMA · simple))

abbrev simple_operand-rule : Written
simple_operand-rule = NUMBER ∣ NAME · (constant_select ∣ empty)

abbrev plain-rule : Written
plain-rule = port_item ∣ wires ∣ assigns ∣ instances

abbrev wires-rule : Written
wires-rule = WIRE · (range ∣ empty) · wire_list · SEMI

abbrev wire_list-rule : Written
wire_list-rule = wire · (many (COMMA · wire))

abbrev wire-rule : Written
wire-rule = NAME · (EQUALS · ex ∣ empty)

abbrev assigns-rule : Written
assigns-rule = ASSIGN · assign_list · SEMI

abbrev assign_list-rule : Written
assign_list-rule = assign · (many (COMMA · assign))

abbrev assign-rule : Written
assign-rule = target · EQUALS · ex

abbrev instances-rule : Written
instances-rule = NAME · (parameter_pins ∣ empty) · instance_list · SEMI

abbrev instance_list-rule : Written
instance_list-rule = instance · (many (COMMA · instance))

abbrev instance-rule : Written
instance-rule = NAME · OPEN · (pins ∣ empty) · CLOSE

abbrev pins-rule : Written
pins-rule = named_list ∣ list

abbrev named_list-rule : Written
named_list-rule = named · (many (COMMA · named))

abbrev named-rule : Written
named-rule = DOT · NAME · OPEN · (ex ∣ empty) · CLOSE

abbrev net_plain-rule : Written
net_plain-rule = port_item ∣ net_wires ∣ net_assigns ∣ net_instances

abbrev net_wires-rule : Written
net_wires-rule = WIRE · (range ∣ empty) · net_wire_list · SEMI

abbrev net_wire_list-rule : Written
net_wire_list-rule = net_wire · (many (COMMA · net_wire))

abbrev net_wire-rule : Written
net_wire-rule = NAME · (EQUALS · simple ∣ empty)

abbrev net_assigns-rule : Written
net_assigns-rule = ASSIGN · net_assign_list · SEMI

abbrev net_assign_list-rule : Written
net_assign_list-rule = net_assign · (many (COMMA · net_assign))

abbrev net_assign-rule : Written
net_assign-rule = target · EQUALS · simple

abbrev net_instances-rule : Written
net_instances-rule = NAME · (parameter_pins ∣ empty) · net_instance_list · SEMI

abbrev net_instance_list-rule : Written
net_instance_list-rule = net_instance · (many (COMMA · net_instance))

abbrev net_instance-rule : Written
net_instance-rule = NAME · OPEN · (net_pins ∣ empty) · CLOSE

abbrev net_pins-rule : Written
net_pins-rule = net_named_list ∣ simple_list

abbrev net_named_list-rule : Written
net_named_list-rule = net_named · (many (COMMA · net_named))

abbrev net_named-rule : Written
net_named-rule = DOT · NAME · OPEN · (simple ∣ empty) · CLOSE

abbrev pub verilog_grammar : List Written
verilog_grammar =
    rtl-rule
    ∷ netlist-rule
    ∷ module-rule
    ∷ net_module-rule
    ∷ heading-rule
    ∷ parameter_head-rule
    ∷ head_parameters-rule
    ∷ head_parameter-rule
    ∷ setting-rule
    ∷ port_head-rule
    ∷ ports-rule
    ∷ names-rule
    ∷ head_ports-rule
    ∷ head_port-rule
    ∷ port-rule
    ∷ direction-rule
    ∷ range-rule
    ∷ item-rule
    ∷ regs-rule
    ∷ parameters-rule
    ∷ settings-rule
    ∷ port_item-rule
    ∷ parameter_pins-rule
    ∷ always-rule
    ∷ events-rule
    ∷ listened-rule
    ∷ event_list-rule
    ∷ event-rule
    ∷ statement-rule
    ∷ block-rule
    ∷ test-rule
    ∷ otherwise-rule
    ∷ cases-rule
    ∷ arms-rule
    ∷ arm-rule
    ∷ labelled-rule
    ∷ default-rule
    ∷ wild_cases-rule
    ∷ wild_arms-rule
    ∷ wild_arm-rule
    ∷ wild_labelled-rule
    ∷ assignment-rule
    ∷ target-rule
    ∷ target_join-rule
    ∷ targets-rule
    ∷ named_target-rule
    ∷ sign-rule
    ∷ ex-rule
    ∷ any-rule
    ∷ all-rule
    ∷ union-rule
    ∷ difference-rule
    ∷ product-rule
    ∷ equality-rule
    ∷ order-rule
    ∷ shift-rule
    ∷ sum-rule
    ∷ unary-rule
    ∷ primary-rule
    ∷ group-rule
    ∷ braces-rule
    ∷ inner-rule
    ∷ list-rule
    ∷ sides-rule
    ∷ select-rule
    ∷ operand-rule
    ∷ label_ex-rule
    ∷ label_any-rule
    ∷ label_all-rule
    ∷ label_union-rule
    ∷ label_difference-rule
    ∷ label_product-rule
    ∷ label_equality-rule
    ∷ label_order-rule
    ∷ label_shift-rule
    ∷ label_sum-rule
    ∷ label_unary-rule
    ∷ label_primary-rule
    ∷ label_group-rule
    ∷ label_braces-rule
    ∷ label_inner-rule
    ∷ label_list-rule
    ∷ label_sides-rule
    ∷ label_select-rule
    ∷ label_operand-rule
    ∷ constant_ex-rule
    ∷ constant_any-rule
    ∷ constant_all-rule
    ∷ constant_union-rule
    ∷ constant_difference-rule
    ∷ constant_product-rule
    ∷ constant_equality-rule
    ∷ constant_order-rule
    ∷ constant_shift-rule
    ∷ constant_sum-rule
    ∷ constant_unary-rule
    ∷ constant_primary-rule
    ∷ constant_group-rule
    ∷ constant_braces-rule
    ∷ constant_inner-rule
    ∷ constant_list-rule
    ∷ constant_sides-rule
    ∷ constant_select-rule
    ∷ constant_operand-rule
    ∷ simple-rule
    ∷ simple_join-rule
    ∷ simple_list-rule
    ∷ simple_operand-rule
    ∷ plain-rule
    ∷ wires-rule
    ∷ wire_list-rule
    ∷ wire-rule
    ∷ assigns-rule
    ∷ assign_list-rule
    ∷ assign-rule
    ∷ instances-rule
    ∷ instance_list-rule
    ∷ instance-rule
    ∷ pins-rule
    ∷ named_list-rule
    ∷ named-rule
    ∷ net_plain-rule
    ∷ net_wires-rule
    ∷ net_wire_list-rule
    ∷ net_wire-rule
    ∷ net_assigns-rule
    ∷ net_assign_list-rule
    ∷ net_assign-rule
    ∷ net_instances-rule
    ∷ net_instance_list-rule
    ∷ net_instance-rule
    ∷ net_pins-rule
    ∷ net_named_list-rule
    ∷ net_named-rule
    ∷ []
