-- A design whose parts fit is sound.
use Rattle.std.proofs.Common.{◌≡◌, true, false, not, ◌&&◌, List, [], ◌∷◌, refl, sym, subst, ap, ◌∙◌}
use Rattle.std.specs.List.{All}
use Rattle.std.specs.Option.{option_map_or}
use Rattle.std.specs.Str.{bytes_eq}
use Rattle.std.proofs.lemmas.Bool.{and_parts}
use Rattle.pe_base.specs.Names.{are_distinct}
use Rattle.pe_verilog_ast.specs.declared.module.Module.{Module}
use Rattle.pe_upf_read.specs.declared.intent.Intent.{Intent}
use Rattle.pe_supply.specs.declared.supplies.Supplies.{Supplies}
use Rattle.pe_supply.specs.WellFormed.{IsWellFormed as IsSupplied}
use Rattle.pe_cells.specs.WellFormed.{IsWellFormed as IsView}
use Rattle.pe_assigns.specs.Form.{is_form, is_some_of, input_names}
use Rattle.pe_intent.specs.Domain.{top_of, has_top_alone}
use Rattle.pe_instances.specs.declared.parts.Circuit.{Circuit}
use Rattle.pe_instances.specs.Fit.{is_fit, are_same_ports, are_apart, are_root_ports}
use Rattle.pe_instances.specs.Wired.{is_wired}
use Rattle.pe_design.specs.declared.design.Design.{Design}
use Rattle.pe_design.specs.Sound.{IsSound}
use Rattle.pe_front.specs.Given.{IsDesignOf, is_fitting}

none_of : {A : Type 0} (xs : List A) → not (is_some_of xs) ≡ true → xs ≡ []
none_of [] e = refl
none_of (x ∷ xs) e = absurd (let f : false ≡ true = e in cc)

module _ (m : Module) (intent : Intent) (s : Supplies) (c : Circuit) (fits : is_fitting m intent s c ≡ true) where
  behind_top : (has_top_alone intent && (not (is_some_of s.switches) && is_fit m s.names s.roots c)) ≡ true
  behind_top = (and_parts (option_map_or (λ top. bytes_eq top m.name) (top_of intent.commands) false) (has_top_alone intent && (not (is_some_of s.switches) && is_fit m s.names s.roots c)) fits).1

  behind_domain : (not (is_some_of s.switches) && is_fit m s.names s.roots c) ≡ true
  behind_domain = (and_parts (has_top_alone intent) (not (is_some_of s.switches) && is_fit m s.names s.roots c) behind_top).1

  pub no_switches : s.switches ≡ []
  no_switches = none_of s.switches (and_parts (not (is_some_of s.switches)) (is_fit m s.names s.roots c) behind_domain).0

  behind_switches : is_fit m s.names s.roots c ≡ true
  behind_switches = (and_parts (not (is_some_of s.switches)) (is_fit m s.names s.roots c) behind_domain).1

  behind_name : (are_same_ports m c.netlist && (are_apart m s.names && (are_root_ports s.names s.roots c.supplies && is_wired c))) ≡ true
  behind_name = (and_parts (bytes_eq c.netlist.name m.name) (are_same_ports m c.netlist && (are_apart m s.names && (are_root_ports s.names s.roots c.supplies && is_wired c))) behind_switches).1

  behind_ports : (are_apart m s.names && (are_root_ports s.names s.roots c.supplies && is_wired c)) ≡ true
  behind_ports = (and_parts (are_same_ports m c.netlist) (are_apart m s.names && (are_root_ports s.names s.roots c.supplies && is_wired c)) behind_name).1

  behind_apart : (are_root_ports s.names s.roots c.supplies && is_wired c) ≡ true
  behind_apart = (and_parts (are_apart m s.names) (are_root_ports s.names s.roots c.supplies && is_wired c) behind_ports).1

  pub wired : is_wired c ≡ true
  wired = (and_parts (are_root_ports s.names s.roots c.supplies) (is_wired c) behind_apart).1

pub sound_of : (m : Module) (intent : Intent) (s : Supplies) (c : Circuit) (d : Design) → IsDesignOf m intent s c d → is_fitting m intent s c ≡ true → is_form m ≡ true → IsSupplied s → are_distinct c.cells ≡ true → All IsView c.views → c.given ≡ input_names m
    → IsSound d
sound_of m intent s c d parts fits form supplied distinct views given = record {
  rtl = ap is_form parts.rtl ∙ form;
  supplies = subst IsSupplied (sym parts.supplies) supplied;
  switches = ap (λ x. x.switches) parts.supplies ∙ no_switches m intent s c fits;
  circuit = ap is_wired parts.circuit ∙ wired m intent s c fits;
  cells = ap (λ x. are_distinct x.cells) parts.circuit ∙ distinct;
  views = subst (λ x. All IsView x.views) (sym parts.circuit) views;
  given = ap (λ x. x.given) parts.circuit ∙ given ∙ ap input_names (sym parts.rtl);
}
