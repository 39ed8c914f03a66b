-- Lists of tokens that have a derivation, made from shorter ones.
use Rattle.std.proofs.Common.{◌≡◌, ℕ, zero, suc, ◌+◌, ◌<◌, ◌≤◌, List, [], ◌∷◌, ◌++◌, Some, refl, sym, ap, ◌∙◌, subst, append_assoc, arith}
use Rattle.std.proofs.lemmas.List.{append-nil}
use Rattle.pe_grammar.specs.declared.terminal.Token.{Token}
use Rattle.pe_grammar.specs.declared.form.Form.TheVariants.{Terminal, Empty, Sequence, Choice, Repeat}
use Rattle.pe_grammar.specs.Derivation.{Derivation, leaf, nothing, pair, left, right, done, more, present, absent, once, text}
use Rattle.pe_grammar.specs.Grammar.{form_at, Derives, Spells}
use Rattle.pe_bool_expr.specs.declared.style.Style.{Style}
use Rattle.pe_bool_expr.specs.declared.style.Style.TheVariants.{Liberty, Upf}
use Rattle.pe_bool_expr.specs.Styles.{table_of}
use Rattle.pe_bool_expr.proofs.Ways.{near}

-- the tokens have a derivation of the form n
abbrev pub Is : Style → ℕ → List Token → Type 0
Is style n tokens = (d : Derivation) × Spells (table_of style) n tokens d

pub is_same : (style : Style) (n : ℕ) (xs ys : List Token) → xs ≡ ys → Is style n xs → Is style n ys
is_same style n xs ys e h = (h.0, record { derives = h.1.derives; spelled = h.1.spelled ∙ e })

pub is_word : (style : Style) (n k : ℕ) (t : Token) → form_at (table_of style) n ≡ Some (Terminal k) → t.kind ≡ k → Is style n (t ∷ [])
is_word style n k t f e = (leaf t, record { derives = f ∙ ap (λ v. Some (Terminal v)) (sym e); spelled = refl })

pub is_empty : (style : Style) (n : ℕ) → form_at (table_of style) n ≡ Some Empty → Is style n []
is_empty style n f = (nothing, record { derives = f; spelled = refl })

pub is_two : (style : Style) (n a b : ℕ) (xs ys : List Token) → form_at (table_of style) n ≡ Some (Sequence a b) → Is style a xs → Is style b ys → Is style n (xs ++ ys)
is_two style n a b xs ys f p q = (
  pair p.0 q.0,
  record {
    derives = (a, b, f, p.1.derives, q.1.derives, near style p.0 a (text q.0) p.1.derives);
    spelled = ap (λ v. v ++ text q.0) p.1.spelled ∙ ap (λ v. xs ++ v) q.1.spelled;
  },
)

pub is_first : (style : Style) (n a b : ℕ) (xs : List Token) → form_at (table_of style) n ≡ Some (Choice a b) → Is style a xs → Is style n xs
is_first style n a b xs f p = (left p.0, record { derives = (a, b, f, p.1.derives); spelled = p.1.spelled })

pub is_second : (style : Style) (n a b : ℕ) (xs : List Token) → form_at (table_of style) n ≡ Some (Choice a b) → Is style b xs → Is style n xs
is_second style n a b xs f p = (right p.0, record { derives = (a, b, f, p.1.derives); spelled = p.1.spelled })

is_none : (style : Style) (n a : ℕ) → form_at (table_of style) n ≡ Some (Repeat a) → Is style n []
is_none style n a f = (done, record { derives = (a, f); spelled = refl })

is_more : (style : Style) (n a : ℕ) (xs ys : List Token) → form_at (table_of style) n ≡ Some (Repeat a) → Is style a xs → Is style n ys → Is style n (xs ++ ys)
is_more style n a xs ys f p q = (
  more p.0 q.0,
  record {
    derives = (a, f, p.1.derives, q.1.derives, near style p.0 a (text q.0) p.1.derives);
    spelled = ap (λ v. v ++ text q.0) p.1.spelled ∙ ap (λ v. xs ++ v) q.1.spelled;
  },
)

-- the first part alone, where the second may be empty
pub is_alone : (style : Style) (n a b c : ℕ) (xs : List Token) → form_at (table_of style) n ≡ Some (Sequence a b) → form_at (table_of style) b ≡ Some (Repeat c) → Is style a xs → Is style n xs
is_alone style n a b c xs f r p = is_same style n (xs ++ []) xs (append-nil xs) (is_two style n a b xs [] f p (is_none style b c r))

-- what was made of two parts
pub record Parts (style : Style) (a b : ℕ) (tokens : List Token) : Type 0 where
  pub first : List Token
  pub second : List Token
  pub is : tokens ≡ first ++ second
  pub has_first : Is style a first
  pub has_second : Is style b second

parts_of : (style : Style) (n a b : ℕ) (d : Derivation) → form_at (table_of style) n ≡ Some (Sequence a b) → Derives (table_of style) n d → Parts style a b (text d)
parts_of style n a b (leaf t) f h = cc
parts_of style n a b nothing f h = cc
parts_of style n a b (pair c e) f h =
    let s = h.2 in
    let p : h.0 ≡ a = cc in
    let q : h.1 ≡ b = cc in
    record {
      first = text c;
      second = text e;
      is = refl;
      has_first = (c, record { derives = subst (λ v. Derives (table_of style) v c) p h.3; spelled = refl });
      has_second = (e, record { derives = subst (λ v. Derives (table_of style) v e) q h.4; spelled = refl });
    }
parts_of style n a b (left d) f h = let s = h.2 in cc
parts_of style n a b (right d) f h = let s = h.2 in cc
parts_of style n a b done f h = let s = h.1 in cc
parts_of style n a b (more c e) f h = let s = h.1 in cc
parts_of style n a b (present t d) f h = let s = h.2 in cc
parts_of style n a b (absent k) f h = let s = h.1 in cc
parts_of style n a b (once d) f h = let s = h.2 in cc

pub parts : (style : Style) (n a b : ℕ) (tokens : List Token) → form_at (table_of style) n ≡ Some (Sequence a b) → Is style n tokens → Parts style a b tokens
parts style n a b tokens f h = subst (λ v. Parts style a b v) h.1.spelled (parts_of style n a b h.0 f h.1.derives)

-- one more at the end of what is repeated
pub is_further : (style : Style) (n a : ℕ) (d : Derivation) (xs : List Token) → form_at (table_of style) n ≡ Some (Repeat a) → Derives (table_of style) n d → Is style a xs → Is style n (text d ++ xs)
is_further style n a (leaf t) xs f h i = cc
is_further style n a nothing xs f h i = cc
is_further style n a (pair c e) xs f h i = let s = h.2 in cc
is_further style n a (left d) xs f h i = let s = h.2 in cc
is_further style n a (right d) xs f h i = let s = h.2 in cc
is_further style n a done xs f h i = is_same style n (xs ++ []) xs (append-nil xs) (is_more style n a xs [] f i (is_none style n a f))
is_further style n a (more c e) xs f h i =
    let s = h.1 in
    let p : h.0 ≡ a = cc in
    is_same style n (text c ++ (text e ++ xs)) (text c ++ text e ++ xs) (sym (append_assoc (text c) (text e) xs))
    (is_more style n a (text c) (text e ++ xs) f (c, record { derives = subst (λ v. Derives (table_of style) v c) p h.2; spelled = refl }) (is_further style n a e xs f h.3 i))
is_further style n a (present t d) xs f h i = let s = h.2 in cc
is_further style n a (absent k) xs f h i = let s = h.1 in cc
is_further style n a (once d) xs f h i = let s = h.2 in cc

-- before each text of the form these tokens may be put
abbrev pub Grows : Style → ℕ → List Token → Type 0
Grows style n xs = (ys : List Token) → Is style n ys → Is style n (xs ++ ys)

grows_first : (style : Style) (n a b : ℕ) (xs : List Token) → form_at (table_of style) n ≡ Some (Sequence a b) → Grows style a xs → Grows style n xs
grows_first style n a b xs f g ys i =
    let p = parts style n a b ys f i in
    is_same style n ((xs ++ p.first) ++ p.second) (xs ++ ys) (append_assoc xs p.first p.second ∙ ap (λ v. xs ++ v) (sym p.is))
    (is_two style n a b (xs ++ p.first) p.second f (g p.first p.has_first) p.has_second)

-- how many levels of operators there are; behind them stands an operand with its marks, and then the operand
abbrev pub levels : Style → ℕ
levels Liberty = 3
levels Upf = 5

pub record Level (style : Style) (n : ℕ) : Type 0 where
  pub rest : ℕ
  pub each : ℕ
  pub operator : ℕ
  pub sequence : form_at (table_of style) n ≡ Some (Sequence (suc n) rest)
  pub repeats : form_at (table_of style) rest ≡ Some (Repeat each)
  pub joins : form_at (table_of style) each ≡ Some (Sequence operator (suc n))

abbrev pub liberty_sum : Level Liberty 0
liberty_sum = record { rest = 6; each = 7; operator = 8; sequence = refl; repeats = refl; joins = refl }

abbrev pub liberty_product : Level Liberty 1
liberty_product = record { rest = 11; each = 12; operator = 13; sequence = refl; repeats = refl; joins = refl }

abbrev pub liberty_difference : Level Liberty 2
liberty_difference = record { rest = 18; each = 19; operator = 20; sequence = refl; repeats = refl; joins = refl }

abbrev pub upf_any : Level Upf 0
upf_any = record { rest = 7; each = 8; operator = 9; sequence = refl; repeats = refl; joins = refl }

abbrev pub upf_all : Level Upf 1
upf_all = record { rest = 10; each = 11; operator = 12; sequence = refl; repeats = refl; joins = refl }

abbrev pub upf_union : Level Upf 2
upf_union = record { rest = 13; each = 14; operator = 15; sequence = refl; repeats = refl; joins = refl }

abbrev pub upf_difference : Level Upf 3
upf_difference = record { rest = 16; each = 17; operator = 18; sequence = refl; repeats = refl; joins = refl }

abbrev pub upf_product : Level Upf 4
upf_product = record { rest = 19; each = 20; operator = 21; sequence = refl; repeats = refl; joins = refl }

level : (style : Style) (n : ℕ) → n < levels style → Level style n
level Liberty zero h = liberty_sum
level Liberty (suc zero) h = liberty_product
level Liberty (suc (suc zero)) h = liberty_difference
level Liberty (suc (suc (suc n))) h = absurd (omega arith)
level Upf zero h = upf_any
level Upf (suc zero) h = upf_all
level Upf (suc (suc zero)) h = upf_union
level Upf (suc (suc (suc zero))) h = upf_difference
level Upf (suc (suc (suc (suc zero)))) h = upf_product
level Upf (suc (suc (suc (suc (suc n))))) h = absurd (omega arith)

pub record Marked (style : Style) : Type 0 where
  pub marks : ℕ
  pub each : ℕ
  pub sequence : form_at (table_of style) (levels style) ≡ Some (Sequence marks (suc (levels style)))
  pub repeats : form_at (table_of style) marks ≡ Some (Repeat each)

abbrev pub marked : (style : Style) → Marked style
marked Liberty = record { marks = 21; each = 22; sequence = refl; repeats = refl }
marked Upf = record { marks = 22; each = 23; sequence = refl; repeats = refl }

-- an operand without leading marks
abbrev pub IsOperand : Style → List Token → Type 0
IsOperand style xs = Is style (suc (levels style)) xs

-- an operand is a text of each level
raised : (style : Style) (k n : ℕ) (xs : List Token) → n + k ≡ levels style → Is style (levels style) xs → Is style n xs
raised style zero n xs e h = let p : levels style ≡ n = omega arith in subst (λ v. Is style v xs) p h
raised style (suc k) n xs e h =
    let l = level style n (omega arith) in
    is_alone style n (suc n) l.rest l.each xs l.sequence l.repeats (raised style k (suc n) xs (omega arith) h)

unmarked : (style : Style) (xs : List Token) → IsOperand style xs → Is style (levels style) xs
unmarked style xs h = let m = marked style in is_two style (levels style) m.marks (suc (levels style)) [] xs m.sequence (is_none style m.marks m.each m.repeats) h

pub is_whole : (style : Style) (xs : List Token) → IsOperand style xs → Is style 0 xs
is_whole style xs h = raised style (levels style) 0 xs (omega arith) (unmarked style xs h)

-- what may be put before the texts of a level may be put before whole texts
grows_whole : (style : Style) (n : ℕ) (xs : List Token) → n ≤ levels style → Grows style n xs → Grows style 0 xs
grows_whole style zero xs h g = g
grows_whole style (suc n) xs h g =
    let l = level style n (omega arith) in
    grows_whole style n xs (omega arith) (grows_first style n (suc n) l.rest xs l.sequence g)

-- an operand and an operator
pub grows_joined : (style : Style) (n k : ℕ) (xs os : List Token) → (l : Level style n) → suc n + k ≡ levels style → IsOperand style xs → Is style l.operator os → Grows style 0 (xs ++ os)
grows_joined style n k xs os l e p o = grows_whole style n (xs ++ os) (omega arith) (λ ys i.
    let s = parts style n (suc n) l.rest ys l.sequence i in
    let joined : Is style l.each (os ++ s.first) = is_two style l.each l.operator (suc n) os s.first l.joins o s.has_first in
    let rest : Is style l.rest (os ++ s.first ++ s.second) = is_more style l.rest l.each (os ++ s.first) s.second l.repeats joined s.has_second in
    let whole = is_two style n (suc n) l.rest xs (os ++ s.first ++ s.second) l.sequence (raised style k (suc n) xs e (unmarked style xs p)) rest in
    let same : xs ++ (os ++ s.first ++ s.second) ≡ xs ++ os ++ ys = ap (λ v. xs ++ v) (append_assoc os s.first s.second ∙ ap (λ v. os ++ v) (sym s.is)) ∙ sym (append_assoc xs os ys) in
    is_same style n (xs ++ (os ++ s.first ++ s.second)) (xs ++ os ++ ys) same whole)

-- a leading mark
pub grows_marked : (style : Style) (t : Token) → Is style (marked style).each (t ∷ []) → Grows style 0 (t ∷ [])
grows_marked style t h = grows_whole style (levels style) (t ∷ []) (omega arith) (λ ys i.
    let m = marked style in
    let s = parts style (levels style) m.marks (suc (levels style)) ys m.sequence i in
    let longer = is_more style m.marks m.each (t ∷ []) s.first m.repeats h s.has_first in
    is_same style (levels style) ((t ∷ s.first) ++ s.second) (t ∷ ys) (ap (λ v. t ∷ v) (sym s.is))
    (is_two style (levels style) m.marks (suc (levels style)) (t ∷ s.first) s.second m.sequence longer s.has_second))
