-- The power domain of an intent that has one: its top, whether the domain holds it, and the domain's primary supplies
-- (IEEE 1801).
use Rattle.std.specs.Prelude.{ℕ, Bool, true, false, not, ◌&&◌, cond, List, [], ◌∷◌, codes, find, filter_map, Option, Some, None, is_some, option_and_then, unwrap_or}
use Rattle.std.specs.List.{list_any, list_all}
use Rattle.std.specs.Option.{option_map, option_or, option_map_or}
use Rattle.std.specs.Str.{bytes_eq}
use Rattle.pe_upf_read.specs.declared.intent.Intent.{Intent}
use Rattle.pe_upf_read.specs.declared.intent.Command.{Command}
use Rattle.pe_upf_read.specs.declared.intent.Command.TheVariants.{SetDesignTop, CreatePowerDomain, CreateSupplySet, SetDomainSupplyNet, CreatePowerSwitch, SetIsolation, SetRetention}
use Rattle.pe_supply.specs.Numbers.{number_of}
use Rattle.pe_intent.specs.declared.domain.DomainText.{DomainText}
use Rattle.pe_intent.specs.declared.function.Function.{Function}
use Rattle.pe_intent.specs.declared.function.Function.TheVariants.{Power, Ground}

-- a power domain, as it is written
pub record Domain : Type 0 where
  pub name : List ℕ
  pub elements : Option (List (List ℕ))
  pub include_scope : Bool
  pub primary : Option (List ℕ)

-- what the code holds, as these definitions see it
abbrev pub seen : DomainText → Domain
seen d = record { name = d.name.now; elements = d.elements.now; include_scope = d.include_scope; primary = d.primary.now }

-- a command of a switch, of isolation or of retention
abbrev pub is_left_out : Command → Bool
is_left_out (CreatePowerSwitch name domain output input controls on off) = true
is_left_out (SetIsolation name domain applies elements clamp signal sense supply location none) = true
is_left_out (SetRetention name domain elements supply save restore) = true
is_left_out _ = false

-- the module that a command names as the design's top
abbrev pub top_in : Command → Option (List ℕ)
top_in (SetDesignTop top) = Some top
top_in _ = None

-- the first such module
abbrev pub top_of : List Command → Option (List ℕ)
top_of [] = None
top_of (c ∷ cs) = option_or (top_in c) (top_of cs)

-- the domain that a command makes
abbrev pub domain_in : Command → Option Domain
domain_in (CreatePowerDomain name elements scope primary) = Some (record { name = name; elements = elements; include_scope = scope; primary = primary })
domain_in _ = None

abbrev pub domains : List Command → List Domain
domains cs = filter_map domain_in cs

abbrev pub the_one : {A : Type 0} → List A → Option A
the_one [] = None
the_one (x ∷ []) = Some x
the_one (x ∷ y ∷ more) = None

-- the domain, where there is just one
abbrev pub domain_of : List Command → Option Domain
domain_of cs = the_one (domains cs)

-- an element that is the scope itself, and so the top
abbrev pub is_top_element : List ℕ → Bool
is_top_element name = bytes_eq name (codes ".")

-- the domain names the top: by its scope, or as an element
abbrev pub has_top : Domain → Bool
has_top d = cond d.include_scope true (option_map_or (list_any is_top_element) d.elements false)

-- it names no other element
abbrev pub are_top : Domain → Bool
are_top d = option_map_or (list_all is_top_element) d.elements true

abbrev pub holds_top : List Command → Bool
holds_top cs = option_map_or has_top (domain_of cs) false

-- the net of a function, of a power net and a ground net
abbrev pub chosen : Function → Option (List ℕ) → Option (List ℕ) → Option (List ℕ)
chosen Power power other = power
chosen Ground power other = other

abbrev pub is_set : List ℕ → Command → Bool
is_set name (CreateSupplySet set power other) = bytes_eq set name
is_set name _ = false

abbrev pub net_in : Function → Command → Option (List ℕ)
net_in function (CreateSupplySet set power other) = chosen function power other
net_in function _ = None

-- the net of the function of the first supply set of this name
abbrev pub net_of_set : List Command → Function → List ℕ → Option (List ℕ)
net_of_set cs function name = option_and_then (net_in function) (find (is_set name) cs)

-- the net that a command gives the domain of this name for its primary supply of the function, where the commands make the
-- supply sets: by a supply set, or directly
abbrev pub net_given : List Command → Function → List ℕ → Command → Option (List ℕ)
net_given cs function domain (CreatePowerDomain name elements scope primary) =
    cond (bytes_eq name domain) (option_and_then (net_of_set cs function) primary) None
net_given cs function domain (SetDomainSupplyNet name power other) = cond (bytes_eq name domain) (chosen function power other) None
net_given cs function domain _ = None

-- the last that commands give
abbrev pub last_given : (Command → Option (List ℕ)) → List Command → Option (List ℕ)
last_given given [] = None
last_given given (c ∷ cs) = option_or (last_given given cs) (given c)

-- the net of the one domain's primary supply: where several commands give one, the last of them counts
abbrev pub primary_net : List Command → Function → Option (List ℕ)
primary_net cs function = option_and_then (λ d. last_given (net_given cs function d.name) cs) (domain_of cs)

-- the intent has one domain, which holds the top and has a primary power and a primary ground, and nothing is left out
abbrev pub is_one_domain : Intent → Bool
is_one_domain intent =
    let cs = intent.commands in
    not (list_any is_left_out cs) && (holds_top cs && (is_some (primary_net cs Power) && is_some (primary_net cs Ground)))

-- the one domain holds the top, and names no other element
abbrev pub has_top_alone : Intent → Bool
has_top_alone intent = option_map_or (λ d. has_top d && are_top d) (domain_of intent.commands) false

-- the number of that net's supply, where names have these numbers
abbrev pub primary_supply : List Command → List (List ℕ × ℕ) → Function → ℕ
primary_supply cs names function = unwrap_or (option_map (number_of names) (primary_net cs function)) 0
