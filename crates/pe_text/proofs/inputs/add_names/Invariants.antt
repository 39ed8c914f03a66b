use Rattle.std.proofs.Common.{◌≡◌, ◌≤◌, ◌+◌, ℕ, List, length, ◌++◌}
use Rattle.pe_text.specs.Inputs.{names_of, names_from, Added}
use Rattle.pe_text.proofs.inputs.add_names.Given as goal

abbrev pub invariant-loop-steps : goal.invariant-loop-steps
invariant-loop-steps l = record {
  few : l.count + l.steps ≤ length l.bytes;
  found : (before : List (List ℕ)) × Added l.initial.names l.names l.count before × (names_of l.bytes ≡ before ++ names_from l.steps l.rest);
}

abbrev pub decreases-loop-steps : goal.decreases-loop-steps
decreases-loop-steps l = l.steps
