-- Lists that are added one behind the other.
use Rattle.std.proofs.Common.{◌≡◌, List, ◌++◌, ◌∙◌, ap, append_assoc}

pub append_two : {A : Type 0} (a b c x y : List A) → b ≡ a ++ x → c ≡ b ++ y → c ≡ a ++ (x ++ y)
append_two a b c x y e f = f ∙ ap (λ l. l ++ y) e ∙ append_assoc a x y
