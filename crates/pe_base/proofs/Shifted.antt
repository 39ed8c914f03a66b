-- Shifts by at most the width.
use Rattle.std.proofs.Common.{◌≡◌, ℕ, ◌+◌, ◌-◌, ◌≤◌, List, [], ◌++◌, length, take, drop, refl, sym, ap, ◌∙◌, arith, inl, inr}
use Rattle.std.specs.Prelude.{min, replicate}
use Rattle.std.proofs.Math.Seq.{take-append-add}
use Rattle.std.proofs.lemmas.List.{take-append-le, take-replicate, take_all, drop_all, length-replicate, length-drop, length-append, append-nil}
use Rattle.std.proofs.lemmas.Bool.{cases_lt}
use Rattle.pe_base.specs.declared.value.Val.{Val}
use Rattle.pe_base.specs.declared.value.Val.TheVariants.{Zero}
use Rattle.pe_base.specs.Words.{shifted_left, shifted_right}

-- by the number or by the width, whichever is less
pub left_by : (a : List Val) (n k : ℕ) → k ≡ min n (length a) → replicate k Zero ++ take (length a - k) a ≡ shifted_left a n
left_by a n k e = elim (cases_lt (length a) n) [
  | inl past ↦
      let is : k ≡ length a = omega arith in
      let none : length a - length a ≡ 0 = omega arith in
      rw (is, none, take-append-le (length a) (replicate n Zero) a (let size = length-replicate n Zero in omega arith), take-replicate (length a) n Zero (omega arith))
      (append-nil (replicate (length a) Zero))
  | inr within ↦
      let is : k ≡ n = omega arith in
      let parts : length a ≡ length (replicate n Zero) + (length a - n) = let size = length-replicate n Zero in omega arith in
      rw is (sym (ap (λ w. take w (replicate n Zero ++ a)) parts ∙ take-append-add (replicate n Zero) a (length a - n)))
]

pub right_by : (a : List Val) (n k : ℕ) → k ≡ min n (length a) → take (length a) (drop k a) ++ replicate (length a - length (drop k a)) Zero ≡ shifted_right a n
right_by a n k e = elim (cases_lt (length a) n) [
  | inl past ↦
      let is : k ≡ length a = omega arith in
      let all : length a - 0 ≡ length a = omega arith in
      let nothing : take {A = Val} (length a) [] ≡ [] = take_all (length a) [] (omega arith) in
      rw (is, drop_all (length a) a (omega arith), drop_all n a (omega arith), all, nothing, take-replicate (length a) n Zero (omega arith)) refl
  | inr within ↦
      let is : k ≡ n = omega arith in
      let rest = length-drop n a in
      let gap : length a - length (drop n a) ≡ n = omega arith in
      let all : length (drop n a ++ replicate n Zero) ≤ length a = let zeros = length-replicate n Zero in let both = length-append (drop n a) (replicate n Zero) in omega arith in
      rw (is, gap, take_all (length a) (drop n a) (omega arith)) (sym (take_all (length a) (drop n a ++ replicate n Zero) all))
]
