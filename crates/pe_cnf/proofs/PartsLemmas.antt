-- Parts of a flat list.
use Rattle.std.proofs.Common.{◌≡◌, ℕ, ◌+◌, ◌-◌, ◌<◌, ◌≤◌, List, [], ◌∷◌, ◌++◌, length, get_or, take, drop, refl, ap, sym, ◌∙◌, arith, zero, suc, length-append}
use Rattle.std.specs.List.{slice_range, concat}
use Rattle.std.proofs.lemmas.Grind.{common_steps}
use Rattle.std.proofs.lemmas.List.{take-append-drop, drop-drop}
use native.Mathlib.Numerals.{unary_clauses}
use Rattle.pe_cnf.specs.Clause.{clause_at}
use Rattle.pe_cnf.specs.Parts.{parts_from, start_from, Rise}

pub length-parts : (flat : List ℕ) (start : ℕ) (ends : List ℕ) → length (parts_from flat start ends) ≡ length ends
length-parts flat start [] = refl
length-parts flat start (e ∷ ends) = ap suc (length-parts flat e ends)

pub part_at : (flat : List ℕ) (start : ℕ) (ends : List ℕ) (id : ℕ) → id < length ends → clause_at (parts_from flat start ends) id ≡ slice_range flat (start_from start ends id) (get_or ends id 0)
part_at flat start [] id h = absurd (omega arith)
part_at flat start (e ∷ ends) zero h = refl
part_at flat start (e ∷ ends) (suc id) h = part_at flat e ends id (omega arith)

-- a part begins where the one before it ends
pub start_is : (start : ℕ) (ends : List ℕ) (id : ℕ) → 0 < id → id < length ends → start_from start ends id ≡ get_or ends (id - 1) 0
start_is start ends zero p h = absurd (omega arith)
start_is start [] (suc id) p h = absurd (omega arith)
start_is start (e ∷ ends) (suc zero) p h = refl
start_is start (e ∷ ends) (suc (suc id)) p h = start_is e ends (suc id) (omega arith) (omega arith) ∙ simp unary_clauses

pub rise_start : (start : ℕ) (ends : List ℕ) (limit : ℕ) → Rise start ends limit → start ≤ limit
rise_start start [] limit r = omega (arith, r)
rise_start start (e ∷ ends) limit r = omega (arith, r.0, rise_start e ends limit r.1)

pub rise_at : (start : ℕ) (ends : List ℕ) (limit id : ℕ) → Rise start ends limit → id < length ends → (start_from start ends id ≤ get_or ends id 0) × (get_or ends id 0 ≤ limit)
rise_at start [] limit id r h = absurd (omega arith)
rise_at start (e ∷ ends) limit zero r h = (r.0, rise_start e ends limit r.1)
rise_at start (e ∷ ends) limit (suc id) r h = rise_at e ends limit id r.1 (omega arith)

pub rise_push : (start : ℕ) (ends : List ℕ) (limit more : ℕ) → Rise start ends limit → Rise start (ends ++ (limit + more) ∷ []) (limit + more)
rise_push start [] limit more r = (omega (arith, r), refl)
rise_push start (e ∷ ends) limit more r = (r.0, rise_push e ends limit more r.1)

range_kept : (flat clause : List ℕ) (a b : ℕ) → b ≤ length flat → slice_range (flat ++ clause) a b ≡ slice_range flat a b
range_kept flat clause a b h = grind (arith, common_steps)

range_new : (flat clause : List ℕ) → slice_range (flat ++ clause) (length flat) (length flat + length clause) ≡ clause
range_new flat clause = grind (arith, common_steps)

pub parts_push : (flat clause : List ℕ) (start : ℕ) (ends : List ℕ) → Rise start ends (length flat) → parts_from (flat ++ clause) start (ends ++ (length flat + length clause) ∷ []) ≡ parts_from flat start ends ++ clause ∷ []
parts_push flat clause start [] r = rw (r, range_new) refl
parts_push flat clause start (e ∷ ends) r =
    let le : e ≤ length flat = rise_start e ends (length flat) r.1 in
    let here : slice_range (flat ++ clause) start e ≡ slice_range flat start e = range_kept flat clause start e le in
    let rest = parts_push flat clause e ends r.1 in
    rw (here, rest) refl

-- the number is below the count of ends
pub within_ends : (flat ends : List ℕ) (view : List (List ℕ)) (id : ℕ) → parts_from flat 0 ends ≡ view → id < length view → id < length ends
within_ends flat ends view id e h = let k = length-parts flat 0 ends in let l = ap length e in omega arith

pub part_bounds : (flat ends : List ℕ) (view : List (List ℕ)) (id start end : ℕ) → parts_from flat 0 ends ≡ view → id < length view → Rise 0 ends (length flat) → start ≡ start_from 0 ends id → end ≡ get_or ends id 0 → (start ≤ end) × (end ≤ length flat)
part_bounds flat ends view id start end e h r p q = rw (p, q) (rise_at 0 ends (length flat) id r (within_ends flat ends view id e h))

pub part_is : (flat ends : List ℕ) (view : List (List ℕ)) (id start end : ℕ) → parts_from flat 0 ends ≡ view → id < length view → start ≡ start_from 0 ends id → end ≡ get_or ends id 0 → slice_range flat start end ≡ clause_at view id
part_is flat ends view id start end e h p q =
    rw (p, q) (sym (part_at flat 0 ends id (within_ends flat ends view id e h)) ∙ ap (λ v. clause_at v id) e)

-- one part more
pub pushed_parts : (flat ends clause flat2 ends2 : List ℕ) (view : List (List ℕ)) (end : ℕ) → parts_from flat 0 ends ≡ view → Rise 0 ends (length flat) → flat2 ≡ flat ++ clause → end ≡ length flat2 → ends2 ≡ ends ++ end ∷ [] → Rise 0 ends2 (length flat2) × (parts_from flat2 0 ends2 ≡ view ++ clause ∷ [])
pushed_parts flat ends clause flat2 ends2 view end e r f n g =
    let l : length flat2 ≡ length flat + length clause = ap length f ∙ length-append flat clause in
    let m : end ≡ length flat + length clause = n ∙ l in (
      rw (l, g, m) (rise_push 0 ends (length flat) (length clause) r),
      rw (f, g, m) (parts_push flat clause 0 ends r ∙ ap (λ v. v ++ clause ∷ []) e),
    )

range_seam : (flat : List ℕ) (a b : ℕ) → a ≤ b → b ≤ length flat → slice_range flat a b ++ drop b flat ≡ drop a flat
range_seam flat a b h l =
    let e : a + (b - a) ≡ b = omega arith in
    ap (λ xs. take (b - a) (drop a flat) ++ xs) (ap (λ n. drop n flat) (sym e) ∙ sym (drop-drop (b - a) a flat)) ∙ take-append-drop (b - a) (drop a flat)

-- the parts one behind the other are the flat list
concat-parts_from : (flat : List ℕ) (start : ℕ) (ends : List ℕ) → Rise start ends (length flat) → concat (parts_from flat start ends) ≡ drop start flat
concat-parts_from flat start [] r = grind (arith, common_steps, r)
concat-parts_from flat start (e ∷ ends) r =
    ap (λ xs. slice_range flat start e ++ xs) (concat-parts_from flat e ends r.1) ∙ range_seam flat start e r.0 (rise_start e ends (length flat) r.1)

pub concat-parts : (flat ends : List ℕ) (view : List (List ℕ)) → parts_from flat 0 ends ≡ view → Rise 0 ends (length flat) → flat ≡ concat view
concat-parts flat ends view e r = sym (concat-parts_from flat 0 ends r) ∙ ap concat e
