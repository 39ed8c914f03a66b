-- What the places of the items that netlists have too are, of RTL and of netlists.
use Rattle.std.specs.Prelude.{◌≡◌, ℕ, ◌<◌, Bool, true, false, List, length}
use Rattle.pe_grammar.specs.declared.form.Entry.{Entry}
use Rattle.pe_grammar.specs.Places.{first_at, second_at, IsSequenceAt, IsChoiceAt, IsRepeatAt}
use Rattle.pe_verilog_read.specs.declared.plain.Plain.{Plain}
use Rattle.pe_verilog_read.specs.declared.verilog_table.TheConstants.{AT_EX, AT_LIST, AT_SIMPLE, AT_SIMPLE_LIST, AT_HEADING, AT_PORT_ITEM, AT_PORT_PART_3, AT_TARGET, AT_INSTANCES_PART_2, AT_ITEM, AT_NET_PLAIN, AT_PLAIN}

abbrev pub value_at : Bool → ℕ
value_at true = AT_SIMPLE
value_at false = AT_EX

abbrev pub values_at : Bool → ℕ
values_at true = AT_SIMPLE_LIST
values_at false = AT_LIST

abbrev pub plain_at : Bool → ℕ
plain_at true = AT_NET_PLAIN
plain_at false = AT_PLAIN

abbrev pub item_at : Bool → ℕ
item_at true = AT_NET_PLAIN
item_at false = AT_ITEM

-- modules and their items
pub record IsTexts (g : List Entry) (p : Plain) : Type 0 where
  pub text : IsRepeatAt g p.text
  pub text_first : first_at g p.text ≡ p.module_1
  pub module_1 : IsSequenceAt g p.module_1
  pub module_1_second : second_at g p.module_1 ≡ p.module_2
  pub module_2 : IsSequenceAt g p.module_2
  pub module_2_first : first_at g p.module_2 ≡ AT_HEADING
  pub module_2_second : second_at g p.module_2 ≡ p.module_3
  pub module_3 : IsSequenceAt g p.module_3
  pub module_3_first : first_at g p.module_3 ≡ p.items
  pub items : IsRepeatAt g p.items
  pub items_first : first_at g p.items ≡ p.item

-- kinds of items
pub record IsKinds (g : List Entry) (p : Plain) : Type 0 where
  pub plain : IsChoiceAt g p.plain
  pub plain_first : first_at g p.plain ≡ AT_PORT_ITEM
  pub plain_second : second_at g p.plain ≡ p.plain_2
  pub plain_2 : IsChoiceAt g p.plain_2
  pub plain_2_first : first_at g p.plain_2 ≡ p.wires
  pub plain_2_second : second_at g p.plain_2 ≡ p.plain_3
  pub plain_3 : IsChoiceAt g p.plain_3
  pub plain_3_first : first_at g p.plain_3 ≡ p.assigns
  pub plain_3_second : second_at g p.plain_3 ≡ p.instances

-- wires
pub record IsWires (g : List Entry) (p : Plain) : Type 0 where
  pub wires : IsSequenceAt g p.wires
  pub wires_second : second_at g p.wires ≡ p.wires_2
  pub wires_2 : IsSequenceAt g p.wires_2
  pub wires_2_first : first_at g p.wires_2 ≡ AT_PORT_PART_3
  pub wires_2_second : second_at g p.wires_2 ≡ p.wires_3
  pub wires_3 : IsSequenceAt g p.wires_3
  pub wires_3_first : first_at g p.wires_3 ≡ p.wire_list
  pub wire_list : IsSequenceAt g p.wire_list
  pub wire_list_first : first_at g p.wire_list ≡ p.wire
  pub wire_list_bound : p.wire_list < length g
  pub wire_list_repeat : IsRepeatAt g (second_at g p.wire_list)
  pub wire_list_each : first_at g (second_at g p.wire_list) ≡ p.wire_each
  pub wire_each : IsSequenceAt g p.wire_each
  pub wire_each_second : second_at g p.wire_each ≡ p.wire
  pub wire : IsSequenceAt g p.wire
  pub wire_second : second_at g p.wire ≡ p.initial
  pub initial : IsChoiceAt g p.initial
  pub initial_first : first_at g p.initial ≡ p.driven
  pub driven : IsSequenceAt g p.driven
  pub driven_second : second_at g p.driven ≡ p.value

-- continuous assignments
pub record IsAssigns (g : List Entry) (p : Plain) : Type 0 where
  pub assigns : IsSequenceAt g p.assigns
  pub assigns_second : second_at g p.assigns ≡ p.assigns_2
  pub assigns_2 : IsSequenceAt g p.assigns_2
  pub assigns_2_first : first_at g p.assigns_2 ≡ p.assign_list
  pub assign_list : IsSequenceAt g p.assign_list
  pub assign_list_first : first_at g p.assign_list ≡ p.assign
  pub assign_list_bound : p.assign_list < length g
  pub assign_list_repeat : IsRepeatAt g (second_at g p.assign_list)
  pub assign_list_each : first_at g (second_at g p.assign_list) ≡ p.assign_each
  pub assign_each : IsSequenceAt g p.assign_each
  pub assign_each_second : second_at g p.assign_each ≡ p.assign
  pub assign : IsSequenceAt g p.assign
  pub assign_first : first_at g p.assign ≡ AT_TARGET
  pub assign_second : second_at g p.assign ≡ p.driven
  pub driven : IsSequenceAt g p.driven
  pub driven_second : second_at g p.driven ≡ p.value

-- instances
pub record IsInstances (g : List Entry) (p : Plain) : Type 0 where
  pub instances : IsSequenceAt g p.instances
  pub instances_second : second_at g p.instances ≡ p.instances_2
  pub instances_2 : IsSequenceAt g p.instances_2
  pub instances_2_first : first_at g p.instances_2 ≡ AT_INSTANCES_PART_2
  pub instances_2_second : second_at g p.instances_2 ≡ p.instances_3
  pub instances_3 : IsSequenceAt g p.instances_3
  pub instances_3_first : first_at g p.instances_3 ≡ p.instance_list
  pub instance_list : IsSequenceAt g p.instance_list
  pub instance_list_first : first_at g p.instance_list ≡ p.instance
  pub instance_list_bound : p.instance_list < length g
  pub instance_list_repeat : IsRepeatAt g (second_at g p.instance_list)
  pub instance_list_each : first_at g (second_at g p.instance_list) ≡ p.instance_each
  pub instance_each : IsSequenceAt g p.instance_each
  pub instance_each_second : second_at g p.instance_each ≡ p.instance
  pub instance : IsSequenceAt g p.instance
  pub instance_second : second_at g p.instance ≡ p.instance_2
  pub instance_2 : IsSequenceAt g p.instance_2
  pub instance_2_second : second_at g p.instance_2 ≡ p.instance_3
  pub instance_3 : IsSequenceAt g p.instance_3
  pub instance_3_first : first_at g p.instance_3 ≡ p.instance_pins
  pub instance_pins : IsChoiceAt g p.instance_pins
  pub instance_pins_first : first_at g p.instance_pins ≡ p.pins

-- connections
pub record IsPins (g : List Entry) (p : Plain) : Type 0 where
  pub pins : IsChoiceAt g p.pins
  pub pins_first : first_at g p.pins ≡ p.named_list
  pub pins_second : second_at g p.pins ≡ p.values
  pub named_list : IsSequenceAt g p.named_list
  pub named_list_first : first_at g p.named_list ≡ p.named
  pub named_list_bound : p.named_list < length g
  pub named_list_repeat : IsRepeatAt g (second_at g p.named_list)
  pub named_list_each : first_at g (second_at g p.named_list) ≡ p.named_each
  pub named_each : IsSequenceAt g p.named_each
  pub named_each_second : second_at g p.named_each ≡ p.named
  pub named : IsSequenceAt g p.named
  pub named_second : second_at g p.named ≡ p.named_2
  pub named_2 : IsSequenceAt g p.named_2
  pub named_2_second : second_at g p.named_2 ≡ p.named_3
  pub named_3 : IsSequenceAt g p.named_3
  pub named_3_second : second_at g p.named_3 ≡ p.named_4
  pub named_4 : IsSequenceAt g p.named_4
  pub named_4_first : first_at g p.named_4 ≡ p.connection
  pub connection : IsChoiceAt g p.connection
  pub connection_first : first_at g p.connection ≡ p.value

pub record IsPlain (g : List Entry) (p : Plain) : Type 0 where
  pub texts : IsTexts g p
  pub kinds : IsKinds g p
  pub wires : IsWires g p
  pub assigns : IsAssigns g p
  pub instances : IsInstances g p
  pub pins : IsPins g p
  pub value_is : p.value ≡ value_at p.net
  pub values_is : p.values ≡ values_at p.net
  pub item_is : p.item ≡ item_at p.net
  pub plain_is : p.plain ≡ plain_at p.net
