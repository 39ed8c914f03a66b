-- The assignments in counting order: all lists of so many bits, by their first bit.
use Rattle.std.proofs.Common.{◌≡◌, ℕ, zero, suc, Bool, true, false, List, [], ◌∷◌, ◌++◌, map, length, refl, sym, ap, ◌∙◌, arith, append_assoc}
use Rattle.std.specs.List.{Contains}
use Rattle.std.proofs.lemmas.List.{map-append}
use Rattle.std.proofs.lemmas.List.Elements.{Contains-append_left, Contains-append_right}
use Rattle.pe_questions.specs.Assignments.{assignments}

contains_map : {X Y : Type 0} (f : X → Y) (xs : List X) (x : X) → Contains xs x → Contains (map f xs) (f x)
contains_map f [] x (k, l, e) = absurd (omega arith)
contains_map f (y ∷ ys) x (zero, l, e) = (zero, omega arith, ap f e)
contains_map f (y ∷ ys) x (suc k, l, e) =
    let more = contains_map f ys x (k, omega arith, e) in
    (suc more.0, omega (arith, more.1), more.2)

-- each list of so many bits is an assignment
pub is_assignment : (n : ℕ) (bits : List Bool) → length bits ≡ n → Contains (assignments n) bits
is_assignment zero [] e = (zero, omega arith, refl)
is_assignment zero (b ∷ bits) e = absurd (omega (arith, e))
is_assignment (suc n) [] e = absurd (omega (arith, e))
is_assignment (suc n) (false ∷ bits) e =
    Contains-append_left (map (λ r. false ∷ r) (assignments n)) (map (λ r. true ∷ r) (assignments n)) (false ∷ bits)
    (contains_map (λ r. false ∷ r) (assignments n) bits (is_assignment n bits (omega (arith, e))))
is_assignment (suc n) (true ∷ bits) e =
    Contains-append_right (map (λ r. false ∷ r) (assignments n)) (map (λ r. true ∷ r) (assignments n)) (true ∷ bits)
    (contains_map (λ r. true ∷ r) (assignments n) bits (is_assignment n bits (omega (arith, e))))

map_twice : (f g h : List Bool → List Bool) (xs : List (List Bool)) → ((x : List Bool) → f (g x) ≡ h x) → map f (map g xs) ≡ map h xs
map_twice f g h [] e = refl
map_twice f g h (x ∷ xs) e = ap (λ y. y ∷ map f (map g xs)) (e x) ∙ ap (λ ys. h x ∷ ys) (map_twice f g h xs e)

-- behind some bits come those that go on with 0, and then those that go on with 1
pub by_first : (bits : List Bool) (n : ℕ) → map (λ more. bits ++ more) (assignments (suc n)) ≡ map (λ more. (bits ++ false ∷ []) ++ more) (assignments n) ++ map (λ more. (bits ++ true ∷ []) ++ more) (assignments n)
by_first bits n =
    map-append (λ more. bits ++ more) (map (λ r. false ∷ r) (assignments n)) (map (λ r. true ∷ r) (assignments n))
    ∙ ap (λ xs. xs ++ map (λ more. bits ++ more) (map (λ r. true ∷ r) (assignments n))) (map_twice (λ more. bits ++ more) (λ r. false ∷ r) (λ more. (bits ++ false ∷ []) ++ more) (assignments n) (λ r. sym (append_assoc bits (false ∷ []) r)))
    ∙ ap (λ ys. map (λ more. (bits ++ false ∷ []) ++ more) (assignments n) ++ ys) (map_twice (λ more. bits ++ more) (λ r. true ∷ r) (λ more. (bits ++ true ∷ []) ++ more) (assignments n) (λ r. sym (append_assoc bits (true ∷ []) r)))

-- behind no bits come all
pub behind_none : (xs : List (List Bool)) → map (λ more. [] ++ more) xs ≡ xs
behind_none [] = refl
behind_none (x ∷ xs) = ap (λ ys. x ∷ ys) (behind_none xs)
