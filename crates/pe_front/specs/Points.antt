-- Points at which texts are refused, or go on to the next point.
use Rattle.std.specs.Prelude.{◌≡◌, Bool, true, false, Option, Some, None, Result, Ok, Err}
use Rattle.pe_design.specs.declared.design.Design.{Design}
use Rattle.pe_front.specs.declared.fault.CheckFault.{CheckFault}
use Rattle.pe_front.specs.declared.fault.CheckFault.TheVariants.{Memory, Refused}
use Rattle.pe_front.specs.declared.fault.Fault.TheVariants.{NotBuilt}
use Rattle.pe_front.specs.declared.fault.Part.{Part}

-- what texts are answered: a design, or a refusal
abbrev pub Answer : Type 0
Answer = Result Design CheckFault

-- Something is so, and the next point holds of it; or for some reason nothing is so, and that is told.
pub data FoundThen (A F : Type 0) (Is : A → Type 0) (IsNot : F → Type 0) (told : F → CheckFault) (Next : A → Answer → Type 0) (answer : Answer) : Type 0 where
  found : (x : A) → Is x → Next x answer → FoundThen A F Is IsNot told Next answer
  refused : (f : F) → IsNot f → answer ≡ Err (told f) → FoundThen A F Is IsNot told Next answer

-- A tree has the form, and the next point holds of what is taken of it; or the part is not built.
pub data TakenThen (A : Type 0) (taken : Option A) (part : Part) (Next : A → Answer → Type 0) (answer : Answer) : Type 0 where
  formed : (x : A) → taken ≡ Some x → Next x answer → TakenThen A taken part Next answer
  unformed : taken ≡ None → answer ≡ Err (Refused part NotBuilt) → TakenThen A taken part Next answer

-- A test holds, and the next point; or the part is not built.
pub data BuiltThen (test : Bool) (part : Part) (Next : Answer → Type 0) (answer : Answer) : Type 0 where
  built : test ≡ true → Next answer → BuiltThen test part Next answer
  unbuilt : test ≡ false → answer ≡ Err (Refused part NotBuilt) → BuiltThen test part Next answer

-- the answer is given, unless memory ran out
abbrev pub Answers : (Answer → Type 0) → Answer → Type 0
Answers Given (Ok d) = Given (Ok d)
Answers Given (Err Memory) = Unit {0}
Answers Given (Err (Refused part fault)) = Given (Err (Refused part fault))
