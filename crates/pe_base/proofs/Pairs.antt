-- Operators on each pair of bits.
use Rattle.std.proofs.Common.{◌≡◌, ℕ, zero, suc, ◌+◌, ◌<◌, List, [], ◌∷◌, ◌++◌, length, get_or, take, refl, sym, ap, ◌∙◌, arith}
use Rattle.std.proofs.lemmas.List.{take_more}
use Rattle.pe_base.specs.declared.value.Val.{Val}
use Rattle.pe_base.specs.Words.{each_pair}

-- as many as the operands have
pub length-each_pair : (f : Val → Val → Val) (a b : List Val) → length a ≡ length b → length (each_pair f a b) ≡ length a
length-each_pair f [] b e = refl
length-each_pair f (x ∷ a) [] e = sym e
length-each_pair f (x ∷ a) (y ∷ b) e = ap suc (length-each_pair f a b (omega arith))

-- f of the bits at the place
pub get_or-each_pair : (f : Val → Val → Val) (a b : List Val) (i : ℕ) (d : Val) → length a ≡ length b → i < length a → get_or (each_pair f a b) i d ≡ f (get_or a i d) (get_or b i d)
get_or-each_pair f [] b i d e h = absurd (omega arith)
get_or-each_pair f (x ∷ a) [] i d e h = absurd (omega arith)
get_or-each_pair f (x ∷ a) (y ∷ b) zero d e h = refl
get_or-each_pair f (x ∷ a) (y ∷ b) (suc i) d e h = get_or-each_pair f a b i d (omega arith) (omega arith)

-- one more bit of each is one more of the result
pub take-each_pair : (f : Val → Val → Val) (a b : List Val) (i : ℕ) (d : Val) → length a ≡ length b → i < length a → take (i + 1) (each_pair f a b) ≡ take i (each_pair f a b) ++ f (get_or a i d) (get_or b i d) ∷ []
take-each_pair f a b i d e h =
    take_more (each_pair f a b) i d (rw (length-each_pair f a b e) h) ∙ ap (λ x. take i (each_pair f a b) ++ x ∷ []) (get_or-each_pair f a b i d e h)
