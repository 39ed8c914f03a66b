-- Steps that are counted one after the other.
use Rattle.std.proofs.Common.{◌≡◌, ℕ, suc, ◌+◌, ◌-◌, ◌<◌, Bool, cond, Some, List, [], ◌∷◌, ◌++◌, map, refl, ap, sym, ◌∙◌, subst, arith, append-nil, append_assoc}
use Rattle.std.specs.Prelude.{filter, find}
use Rattle.std.proofs.lemmas.List.Elements.{filter-append}
use Rattle.std.specs.List.{flat_map, range_with_len, zip}
use Rattle.std.proofs.lemmas.List.FromFn.{map-range_with_len_more}
use Rattle.std.proofs.lemmas.Grind.{flat_map-append}
use Rattle.pe_base.specs.declared.text.Step.{Step}
use Rattle.pe_supply.specs.declared.permitted.Gathered.{Gathered}
use Rattle.pe_supply.specs.Gathering.{Offers}

-- nothing is offered
pub offers_none : (rule : Step → Bool) (g : Gathered) → Offers rule [] g g
offers_none rule g = record { each = λ steps h. rw append-nil h }

-- one offer after the other
pub offers_both : (rule : Step → Bool) (first second : List Step) (g h k : Gathered) → Offers rule first g h → Offers rule second h k → Offers rule (first ++ second) g k
offers_both rule first second g h k a b = record { each = λ steps x. rw (← append_assoc) (b.each (steps ++ first) (a.each steps x)) }

-- one number more
pub range_more : (a n j : ℕ) → a + n ≡ j → range_with_len a (n + 1) ≡ range_with_len a n ++ j ∷ []
range_more a n j e = sym (map_same (range_with_len a (n + 1))) ∙ map-range_with_len_more (λ x. x) a n j e ∙ ap (λ xs. xs ++ j ∷ []) (map_same (range_with_len a n))
  where
    map_same : (xs : List ℕ) → map (λ x. x) xs ≡ xs
    map_same [] = refl
    map_same (x ∷ xs) = ap (λ ys. x ∷ ys) (map_same xs)

-- an element more in a flat map over numbers
pub flat_more : {A : Type 0} (f : ℕ → List A) (n : ℕ) → flat_map f (range_with_len 0 (n + 1)) ≡ flat_map f (range_with_len 0 n) ++ f n
flat_more f n = ap (flat_map f) (range_more 0 n n (omega arith)) ∙ flat_map-append f (range_with_len 0 n) (n ∷ []) ∙ ap (λ xs. flat_map f (range_with_len 0 n) ++ xs) (append-nil (f n))

-- a number more through a filter, and one less to look through
pub filter_range : (p : ℕ → Bool) (n : ℕ) → filter p (range_with_len 0 (n + 1)) ≡ filter p (range_with_len 0 n) ++ cond (p n) (n ∷ []) []
filter_range p n = ap (filter p) (range_more 0 n n (omega arith)) ∙ filter-append p (range_with_len 0 n) (n ∷ [])

pub find_range : (p : ℕ → Bool) (n count : ℕ) → n < count → find p (range_with_len n (count - n)) ≡ cond (p n) (Some n) (find p (range_with_len (n + 1) (count - (n + 1))))
find_range p n count l = let e : count - n ≡ suc (count - (n + 1)) = omega arith in ap (λ m. find p (range_with_len n m)) e

-- nothing stands beside nothing
pub zip_nil : {A B : Type 0} (xs : List A) (ys : List B) → ys ≡ [] → zip xs ys ≡ []
zip_nil [] ys e = refl
zip_nil {A} {B} (x ∷ xs) ys e = let P : List B → Type 0 = λ zs. zip (x ∷ xs) zs ≡ [] in subst P (sym e) refl
