-- Masks of clauses: 64 bits that tell clauses apart. Clauses of the same literals have the same mask.
use Rattle.std.specs.Prelude.{◌≡◌, ℕ, ◌+◌, ◌%◌, ◌^◌, ◌<◌, ◌≤◌, ◌==◌, Bool, cond, List, length, slice_index}
use Rattle.std.specs.Int.{bit_at}
use Rattle.std.specs.List.{list_any}
use Rattle.pe_cnf.specs.Clause.{clause_at}

-- the bit of a literal
abbrev pub bit_of : ℕ → ℕ
bit_of l = l % 64

-- the clause has a literal of this bit
abbrev pub has_bit : List ℕ → ℕ → Bool
has_bit clause i = list_any (λ l. bit_of l == i) clause

-- the mask of a clause has the bits of its literals
pub record IsMask (clause : List ℕ) (mask : ℕ) : Type 0 where
  pub small : mask < 2 ^ 64
  pub bits : (i : ℕ) → i < 64 → bit_at mask i ≡ cond (has_bit clause i) 1 0

-- each clause has its mask
pub record AreMasks (clauses : List (List ℕ)) (masks : List ℕ) : Type 0 where
  pub count : length masks ≡ length clauses
  pub each : (id : ℕ) → id < length clauses → IsMask (clause_at clauses id) (slice_index masks id)

-- clauses are looked up by the remainder of their mask by this number, a prime below 2 ^ 16
abbrev pub buckets : ℕ
buckets = 65521

-- the clause's mask has this remainder
pub record IsOfRest (clause : List ℕ) (r : ℕ) : Type 0 where
  pub mask : ℕ
  pub is : IsMask clause mask
  pub rest : mask % buckets ≡ r

-- x is one above the last number below n at which P holds, or 0 if there is none
pub record IsLast (P : ℕ → Type 0) (n x : ℕ) : Type 0 where
  pub within : x ≤ n
  pub own : (i : ℕ) → x ≡ i + 1 → P i
  pub none : (i : ℕ) → x ≤ i → i < n → P i → ⊥

-- x is that of the clauses whose mask has the remainder r
abbrev pub IsLastBelow : List (List ℕ) → ℕ → ℕ → ℕ → Type 0
IsLastBelow clauses n r x = IsLast (λ i. IsOfRest (clause_at clauses i) r) n x

-- the remainder of the mask of a number
abbrev pub rest_at : List ℕ → ℕ → ℕ
rest_at masks id = slice_index masks id % buckets

-- x is that of the masks that have the remainder r
abbrev pub IsLastMask : List ℕ → ℕ → ℕ → ℕ → Type 0
IsLastMask masks n r x = IsLast (λ i. rest_at masks i ≡ r) n x

-- of each remainder the last mask is known, and of each mask the one before it that has its remainder
pub record AreLinked (masks last before : List ℕ) : Type 0 where
  pub heads : length last ≡ buckets
  pub links : length before ≡ length masks
  pub head : (r : ℕ) → r < buckets → IsLastMask masks (length masks) r (slice_index last r)
  pub link : (id : ℕ) → id < length masks → IsLastMask masks id (rest_at masks id) (slice_index before id)
