-- Steps that are counted, and kept while they are few.
use Rattle.std.specs.Prelude.{◌≡◌, ◌≤◌, Bool, List, ◌++◌, length, filter}
use Rattle.pe_base.specs.declared.text.Step.{Step}
use Rattle.pe_supply.specs.declared.permitted.Gathered.{Gathered}
use Rattle.pe_supply.specs.Steps.{told}

-- these steps were counted
pub record IsGathered (steps : List Step) (g : Gathered) : Type 0 where
  pub count : g.count ≡ told (length steps)
  pub kept : length steps ≤ 1024 → g.steps ≡ steps

-- those of further steps that pass were counted, behind what was counted before
pub record Offers (rule : Step → Bool) (more : List Step) (old new : Gathered) : Type 0 where
  pub each : (steps : List Step) → IsGathered (filter rule steps) old → IsGathered (filter rule (steps ++ more)) new
