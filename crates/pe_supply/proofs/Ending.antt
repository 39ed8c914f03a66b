-- What is answered to a plan, in the words of the intent.
use Rattle.std.proofs.Common.{◌≡◌, ◌⊎◌, inl, inr, Result, Ok, Err, refl, subst}
use Rattle.std.specs.Prelude.{IfOk, IfErr, MatchResult}
use Rattle.pe_supply.specs.declared.fault.SupplyFault.{SupplyFault}
use Rattle.pe_supply.specs.declared.fault.SupplyFault.TheVariants.{Memory, NoSupply, TwoDrivers, TwoNets, SupplyLoop, Expression, NoRows, TwoTables, RowLength, NoState, TooManyRows, TooManySupplies}
use Rattle.pe_supply.specs.declared.plan.Plan.{Plan}
use Rattle.pe_supply.specs.declared.supplies.Supplies.{Supplies}
use Rattle.pe_supply.specs.Building.{AreSupplies, IsRefusal, Says}
use Rattle.pe_supply.specs.Whole.{IsWhole}
use Rattle.pe_supply.specs.WellFormed.{IsWellFormed}
use Rattle.pe_supply.proofs.Formed.{formed}
use Rattle.pe_supply.proofs.Outcomes.{one_said}

abbrev Answer : Type 0
Answer = Result Supplies SupplyFault

-- an answer to a plan
pub record IsAnswerTo (p : Plan) (r : Answer) : Type 0 where
  pub says : MatchResult r (AreSupplies p) (IsRefusal p)

pub answer_to : (p q : Plan) (r : Answer) → q ≡ p → MatchResult r (AreSupplies q) (IsRefusal q) → IsAnswerTo p r
answer_to p q r e h = subst (λ x. IsAnswerTo x r) e (record { says = h })

pub found_by : (p : Plan) (r : Answer) → IsAnswerTo p r → IfOk r (AreSupplies p)
found_by p (Ok s) h = h.says
found_by p (Err f) h = tt

pub formed_by : (p : Plan) (r : Answer) → IsWhole p → IsAnswerTo p r → IfOk r IsWellFormed
formed_by p (Ok s) w h = formed p s w h.says
formed_by p (Err f) w h = tt

pub refused_by : (p : Plan) (r : Answer) → IsAnswerTo p r → IfErr r (IsRefusal p)
refused_by p (Ok s) h = tt
refused_by p (Err f) h = h.says

pub exact_by : (p : Plan) (r outcome : Answer) → IsAnswerTo p r → Says p outcome → (r ≡ outcome) ⊎ (r ≡ Err Memory)
exact_by p (Ok s) outcome h k = inl (one_said p (Ok s) outcome h.says k)
exact_by p (Err Memory) outcome h k = inr refl
exact_by p (Err (NoSupply name)) outcome h k = inl (one_said p (Err (NoSupply name)) outcome h.says k)
exact_by p (Err (TwoDrivers name)) outcome h k = inl (one_said p (Err (TwoDrivers name)) outcome h.says k)
exact_by p (Err (TwoNets name)) outcome h k = inl (one_said p (Err (TwoNets name)) outcome h.says k)
exact_by p (Err (SupplyLoop name)) outcome h k = inl (one_said p (Err (SupplyLoop name)) outcome h.says k)
exact_by p (Err (Expression name)) outcome h k = inl (one_said p (Err (Expression name)) outcome h.says k)
exact_by p (Err NoRows) outcome h k = inl (one_said p (Err NoRows) outcome h.says k)
exact_by p (Err (TwoTables name)) outcome h k = inl (one_said p (Err (TwoTables name)) outcome h.says k)
exact_by p (Err (RowLength name)) outcome h k = inl (one_said p (Err (RowLength name)) outcome h.says k)
exact_by p (Err (NoState name)) outcome h k = inl (one_said p (Err (NoState name)) outcome h.says k)
exact_by p (Err (TooManyRows count)) outcome h k = inl (one_said p (Err (TooManyRows count)) outcome h.says k)
exact_by p (Err (TooManySupplies count)) outcome h k = inl (one_said p (Err (TooManySupplies count)) outcome h.says k)
