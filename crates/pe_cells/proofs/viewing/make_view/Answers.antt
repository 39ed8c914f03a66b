use Rattle.std.proofs.Common.{List, refl, ap, ◌∙◌}
use Rattle.pe_liberty_read.specs.declared.tree.Group.{Group, out-Group}
use Rattle.pe_cells.specs.Naming.{all_names, pin_names}
use Rattle.pe_cells.proofs.Whole.{all_judged, all_viewed, signals_moved, switches_moved, register_moved, signals_are, switches_are, register_is}
use Rattle.pe_cells.proofs.viewing.make_view.Goals as goal

pub returns-clause-judged : goal.returns-clause-judged
returns-clause-judged c =
    let groups : List Group = (out-Group c.args.group.now).groups in
    let gs = c.as_slice-groups.ensures in
    let names = c.in_ok-names.ensures ∙ ap all_names gs in
    let pins = c.in_ok-pins.ensures ∙ ap pin_names gs in
    all_judged groups (all_names groups) (pin_names groups) c.args.faults.now c.make_signals.new.faults c.make_register.new.faults c.make_switches.new.faults refl refl c.requires.none
    (signals_moved groups _ _ _ _ _ gs (c.as_slice-3.ensures ∙ names) c.in_ok-signals.ensures.judged)
    (register_moved groups _ _ _ _ _ _ _ gs (c.as_slice-5.ensures ∙ names) (c.as_slice-6.ensures ∙ pins) c.in_ok-register.ensures.judged)
    (switches_moved groups _ _ _ _ _ gs (c.as_slice-7.ensures ∙ names) c.in_ok-switches.ensures.judged)

pub returns-clause-view : goal.returns-clause-view
returns-clause-view c =
    let groups : List Group = (out-Group c.args.group.now).groups in
    let gs = c.as_slice-groups.ensures in
    let names = c.in_ok-names.ensures ∙ ap all_names gs in
    let pins = c.in_ok-pins.ensures ∙ ap pin_names gs in
    all_viewed c.args.group.now (all_names groups) (pin_names groups) c.args.pgs c.in_ok-signals.signals c.in_ok-register.register c.in_ok-retention.retention c.in_ok-switches.switches
    c.args.faults.now c.make_signals.new.faults c.make_register.new.faults c.make_switches.new.faults refl refl c.requires.pgs c.requires.formed (returns-clause-judged c)
    (register_moved groups _ _ _ _ _ _ _ gs (c.as_slice-5.ensures ∙ names) (c.as_slice-6.ensures ∙ pins) c.in_ok-register.ensures.judged)
    (switches_moved groups _ _ _ _ _ gs (c.as_slice-7.ensures ∙ names) c.in_ok-switches.ensures.judged)
    (λ none. signals_are groups _ _ _ _ _ _ gs (c.as_slice-3.ensures ∙ names) c.as_slice-4.ensures (c.in_ok-signals.ensures.signals none))
    (λ none. register_is groups _ _ _ _ _ _ gs (c.as_slice-5.ensures ∙ names) (c.as_slice-6.ensures ∙ pins) (c.in_ok-register.ensures.register none))
    (λ none. switches_are groups _ _ _ _ _ _ gs (c.as_slice-7.ensures ∙ names) c.as_slice-8.ensures (c.in_ok-switches.ensures.switches none))
    c.in_ok-retention.ensures
