-- What is written in pieces, and what is read in pieces.
use Rattle.std.proofs.Common.{◌≡◌, ℕ, ◌+◌, ◌-◌, List, ◌++◌, length, take, drop, Option, Some, None, refl, ap, ◌∙◌, arith, append_assoc, length-append, length-drop}
use Rattle.std.proofs.lemmas.List.{length-take, take_all}
use Rattle.std.proofs.Math.Seq.{take-add}
use Rattle.pe_outside.specs.Outside.{IsPlaced, IsFront, grown}

-- Two pieces are one.
pub grown-grown : (told : Option (List ℕ)) (bytes : List ℕ) (at more : ℕ) → grown (grown told (take at bytes)) (take more (drop at bytes)) ≡ grown told (take (at + more) bytes)
grown-grown None bytes at more = refl
grown-grown (Some written) bytes at more = ap Some (rw take-add (append_assoc written (take at bytes) (take more (drop at bytes))))

pub grown-rest : (told : Option (List ℕ)) (bytes : List ℕ) (at more : ℕ) → grown (grown told (take at bytes)) (take more (take (length bytes - at) (drop at bytes))) ≡ grown told (take (at + more) bytes)
grown-rest told bytes at more =
    let all : take (length bytes - at) (drop at bytes) ≡ drop at bytes = take_all (length bytes - at) (drop at bytes) (omega (arith, length-drop at bytes)) in
    rw all (grown-grown told bytes at more)

-- A piece behind the front of a text is a longer front.
pub front_grows : (front whole buffer : List ℕ) (at n : ℕ) → at ≡ length front → IsPlaced whole at n buffer → IsFront front whole → IsFront (front ++ take n buffer) whole
front_grows front whole buffer at n is_at placed is_front =
    let cut : length (take n (drop at whole)) ≡ n = omega (arith, length-take n (drop at whole), length-drop at whole, placed.left) in
    let long : length (front ++ take n (drop at whole)) ≡ at + n = omega (arith, length-append front (take n (drop at whole))) in
    let first : take at whole ≡ front = ap (λ k. take k whole) is_at ∙ is_front in
    rw placed.same (rw long (rw take-add (ap (λ l. l ++ take n (drop at whole)) first)))
