use Rattle.std.proofs.Common.{◌≡◌, Result, Ok}
use Rattle.pe_design.specs.declared.design.Design.{Design}
use Rattle.pe_front.specs.declared.fault.CheckFault.{CheckFault}
use Rattle.pe_front.proofs.Unique.{Laws, one_given}
use Rattle.pe_front.proofs.front.one_design.Goals as goal

same_design : (d e : Design) → ◌≡◌ {A = Result Design CheckFault} (Ok d) (Ok e) → d ≡ e
same_design d e p = cc

pub returns-clause-answer : goal.returns-clause-answer
returns-clause-answer c =
    let laws : Laws = record {
      source = c.one_source.ensures.one;
      source_both = c.one_source.ensures.not_both;
      source_fault = c.one_source.ensures.one_fault;
      upf = c.one_upf.ensures.one;
      upf_both = c.one_upf.ensures.not_both;
      upf_fault = c.one_upf.ensures.one_fault;
      liberty = c.one_liberty.ensures.one;
      liberty_both = c.one_liberty.ensures.not_both;
      liberty_fault = c.one_liberty.ensures.one_fault;
      map_file = c.one_map.ensures.one;
      map_both = c.one_map.ensures.not_both;
      map_fault = c.one_map.ensures.one_fault;
      views = c.one_view.ensures.outcome;
      supplies = c.one_supplies.ensures.outcome;
    } in
    one_given laws

pub returns-clause-one : goal.returns-clause-one
returns-clause-one c =
    let laws : Laws = record {
      source = c.one_source.ensures.one;
      source_both = c.one_source.ensures.not_both;
      source_fault = c.one_source.ensures.one_fault;
      upf = c.one_upf.ensures.one;
      upf_both = c.one_upf.ensures.not_both;
      upf_fault = c.one_upf.ensures.one_fault;
      liberty = c.one_liberty.ensures.one;
      liberty_both = c.one_liberty.ensures.not_both;
      liberty_fault = c.one_liberty.ensures.one_fault;
      map_file = c.one_map.ensures.one;
      map_both = c.one_map.ensures.not_both;
      map_fault = c.one_map.ensures.one_fault;
      views = c.one_view.ensures.outcome;
      supplies = c.one_supplies.ensures.outcome;
    } in
    λ t d e p q. same_design d e (one_given laws t (Ok d) (Ok e) p q)
