-- Going over spellings, one after the other.
use Rattle.std.proofs.Common.{◌≡◌, ℕ, ◌+◌, ◌<◌, Bool, true, false, cond, List, [], ◌∷◌, length, get_or, drop, drop-cons, add-one, refl, sym, ap, ◌∙◌}
use Rattle.std.specs.Prelude.{map}
use Rattle.std.specs.Str.{bytes_eq}
use Rattle.pe_verilog_read.specs.Terminals.{terminal_in}

-- what is left from a place on
pub drop-next : {A : Type 0} (i : ℕ) (xs : List A) (d : A) → i < length xs → drop i xs ≡ get_or xs i d ∷ drop (i + 1) xs
drop-next i xs d h = rw (add-one, drop-cons xs i d) refl

-- where some are left, the next is tried
next_spelling : {A : Type 0} (v : A → List ℕ × ℕ) (xs : List A) (i : ℕ) (d : A) (other : ℕ) (bytes : List ℕ) → i < length xs →
    terminal_in (map v (drop i xs)) other bytes ≡ cond (bytes_eq (v (get_or xs i d)).0 bytes) (v (get_or xs i d)).1 (terminal_in (map v (drop (i + 1) xs)) other bytes)
next_spelling v xs i d other bytes h = ap (λ ys. terminal_in (map v ys) other bytes) (drop-next i xs d h)

pub spelling_hit : {A : Type 0} (v : A → List ℕ × ℕ) (xs : List A) (i : ℕ) (d : A) (other : ℕ) (bytes : List ℕ) (r : Bool) → i < length xs →
    terminal_in (map v xs) other bytes ≡ terminal_in (map v (drop i xs)) other bytes → r ≡ bytes_eq (v (get_or xs i d)).0 bytes → r ≡ true →
    (v (get_or xs i d)).1 ≡ terminal_in (map v xs) other bytes
spelling_hit v xs i d other bytes r h p q t =
    sym (p ∙ next_spelling v xs i d other bytes h ∙ ap (λ b. cond b (v (get_or xs i d)).1 (terminal_in (map v (drop (i + 1) xs)) other bytes)) (sym q ∙ t))

pub spelling_miss : {A : Type 0} (v : A → List ℕ × ℕ) (xs : List A) (i : ℕ) (d : A) (other : ℕ) (bytes : List ℕ) (r : Bool) → i < length xs →
    terminal_in (map v xs) other bytes ≡ terminal_in (map v (drop i xs)) other bytes → r ≡ bytes_eq (v (get_or xs i d)).0 bytes → r ≡ false →
    terminal_in (map v xs) other bytes ≡ terminal_in (map v (drop (i + 1) xs)) other bytes
spelling_miss v xs i d other bytes r h p q f =
    p ∙ next_spelling v xs i d other bytes h ∙ ap (λ b. cond b (v (get_or xs i d)).1 (terminal_in (map v (drop (i + 1) xs)) other bytes)) (sym q ∙ f)

pub spelling_none : {A : Type 0} (v : A → List ℕ × ℕ) (xs ys : List A) (other : ℕ) (bytes : List ℕ) → ys ≡ [] →
    terminal_in (map v xs) other bytes ≡ terminal_in (map v ys) other bytes → other ≡ terminal_in (map v xs) other bytes
spelling_none v xs ys other bytes e p = sym (p ∙ ap (λ zs. terminal_in (map v zs) other bytes) e)
