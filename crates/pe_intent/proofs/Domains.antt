-- Domains, one after the other.
use Rattle.std.proofs.Common.{◌≡◌, true, List, ◌∷◌, ◌++◌, Option, Some, None, refl}
use Rattle.std.specs.Prelude.{is_some, option_to_list}
use Rattle.pe_intent.specs.Domain.{the_one}

-- one and another are not just one
pub two_are_not_one : {A : Type 0} (found : Option A) (x : A) (more : List A) → is_some found ≡ true → the_one (option_to_list found ++ (x ∷ more)) ≡ None
two_are_not_one None x more h = cc
two_are_not_one (Some y) x more h = refl
