-- What commands speak of and no command makes.
use Rattle.std.specs.Prelude.{ℕ, Bool, not, List, map, Option, find}
use Rattle.std.specs.Option.{option_map}
use Rattle.std.specs.Str.{bytes_eq}
use Rattle.pe_base.specs.Names.{has_name}
use Rattle.pe_supply.specs.declared.plan.Plan.{Plan}
use Rattle.pe_supply.specs.declared.plan.Use.{Use}
use Rattle.pe_supply.specs.declared.plan.Use.TheVariants.{Supply, Port, Set, Table, Input}

abbrev pub set_names : Plan → List (List ℕ)
set_names p = map (λ s. s.name) p.sets

abbrev pub table_names : Plan → List (List ℕ)
table_names p = map (λ t. t.name) p.tables

-- it is not among the names of supplies, of ports, of sets and of tables
abbrev pub is_missing_among : List (List ℕ) → List (List ℕ) → List (List ℕ) → List (List ℕ) → Use → Bool
is_missing_among names ports sets tables (Supply name) = not (has_name names name)
is_missing_among names ports sets tables (Port name) = not (has_name ports name)
is_missing_among names ports sets tables (Set name) = not (has_name sets name)
is_missing_among names ports sets tables (Table name) = not (has_name tables name)
is_missing_among names ports sets tables (Input name own) = not (bytes_eq name own)

-- no command makes it
abbrev pub is_missing : Plan → Use → Bool
is_missing p = is_missing_among p.names p.ports (set_names p) (table_names p)

-- the name that is used
abbrev pub name_used : Use → List ℕ
name_used (Supply name) = name
name_used (Port name) = name
name_used (Set name) = name
name_used (Table name) = name
name_used (Input name own) = name

-- the first name that no command makes
abbrev pub first_missing : Plan → Option (List ℕ)
first_missing p = option_map name_used (find (is_missing p) p.uses)
