-- From what an evaluation begins.
use Rattle.std.proofs.Common.{◌≡◌, ℕ, ◌≤◌, Bool, true, false, cond, List, length, refl, arith}
use Rattle.std.specs.Prelude.{map}
use Rattle.std.proofs.lemmas.List.{get_or_past, length-map}
use Rattle.pe_base.specs.declared.value.Val.TheVariants.{Corrupt}
use Rattle.pe_base.specs.Values.{known_of}
use Rattle.pe_base.specs.Names.{has_name, place_of}
use Rattle.pe_nets.proofs.Names.{place_past}
use Rattle.pe_assigns.specs.Settled.{given_at}
use Rattle.pe_instances.specs.Begin.{first_value}

-- behind the values that are given it is corrupt
past : (inputs : List Bool) (k : ℕ) → length inputs ≤ k → given_at inputs k ≡ Corrupt
past inputs k le = let short : length (map known_of inputs) ≤ k = omega (arith, length-map inputs known_of) in get_or_past (map known_of inputs) k Corrupt short

-- where there is a value for each name, what stands at the place of a name is the name's
pub started : (given : List (List ℕ)) (inputs : List Bool) (name : List ℕ) → length inputs ≡ length given → given_at inputs (place_of given name) ≡ first_value given inputs name
started given inputs name e = at_name (has_name given name) refl
  where
    at_name : (b : Bool) → has_name given name ≡ b → given_at inputs (place_of given name) ≡ cond b (given_at inputs (place_of given name)) Corrupt
    at_name true h = refl
    at_name false h = past inputs (place_of given name) (let p = place_past given name h in omega (arith, p, e))
