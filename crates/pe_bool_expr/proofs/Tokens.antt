-- What the terminals do in the two grammars.
use Rattle.std.proofs.Common.{◌≡◌, ℕ, zero, suc, ◌+◌, ◌<◌, List, [], ◌∷◌, ◌++◌, refl, sym, ap, ◌∙◌, append_assoc, arith}
use Rattle.std.proofs.lemmas.List.{append-nil}
use Rattle.pe_grammar.specs.declared.terminal.Token.{Token}
use Rattle.pe_grammar.specs.Derivation.{text}
use Rattle.pe_bool_expr.specs.declared.style.Style.{Style}
use Rattle.pe_bool_expr.specs.declared.style.Style.TheVariants.{Liberty, Upf}
use Rattle.pe_bool_expr.specs.declared.terminal.Role.{Role}
use Rattle.pe_bool_expr.specs.declared.terminal.Role.TheVariants.{Leading, Opening, Closing, Operand, Trailing, Joining}
use Rattle.pe_bool_expr.specs.Terminals.{role_of, liberty_role, upf_role}
use Rattle.pe_bool_expr.proofs.Spelling.{Is, is_same, is_word, is_empty, is_two, is_first, is_second, is_alone, is_further, parts, Grows, IsOperand, grows_marked, grows_joined, Level, levels, liberty_sum, liberty_product, liberty_difference, upf_any, upf_all, upf_union, upf_difference, upf_product}

-- a token by what it does
abbrev pub Means : Style → Role → Token → Type 0
Means style Leading t = Grows style 0 (t ∷ [])
Means style Opening t = t.kind ≡ 10
Means style Closing t = t.kind ≡ 11
Means style Operand t = IsOperand style (t ∷ [])
Means style Trailing t = (ps : List Token) → IsOperand style ps → IsOperand style (ps ++ t ∷ [])
Means style Joining t = (ps : List Token) → IsOperand style ps → Grows style 0 (ps ++ t ∷ [])

-- a primary is an operand
unprimed : (xs : List Token) → Is Liberty 5 xs → IsOperand Liberty xs
unprimed xs h = is_alone Liberty 4 5 23 24 xs refl refl h

liberty_marked : (t : Token) → t.kind ≡ 5 → Grows Liberty 0 (t ∷ [])
liberty_marked t e = grows_marked Liberty t (is_word Liberty 22 5 t refl e)

liberty_primed : (t : Token) → t.kind ≡ 6 → (ps : List Token) → IsOperand Liberty ps → IsOperand Liberty (ps ++ t ∷ [])
liberty_primed t e ps p =
    let s = parts Liberty 4 5 23 ps refl p in
    let primes = is_further Liberty 23 24 s.has_second.0 (t ∷ []) refl s.has_second.1.derives (is_word Liberty 24 6 t refl e) in
    let same : s.first ++ (text s.has_second.0 ++ t ∷ []) ≡ ps ++ t ∷ [] =
    sym (append_assoc s.first (text s.has_second.0) (t ∷ [])) ∙ ap (λ v. s.first ++ v ++ t ∷ []) s.has_second.1.spelled ∙ ap (λ v. v ++ t ∷ []) (sym s.is) in
    is_same Liberty 4 (s.first ++ (text s.has_second.0 ++ t ∷ [])) (ps ++ t ∷ []) same (is_two Liberty 4 5 23 s.first (text s.has_second.0 ++ t ∷ []) refl s.has_first primes)

-- an operator of a level, with so many levels below it
joins : (style : Style) (n k : ℕ) (t : Token) (l : Level style n) → suc n + k ≡ levels style → Is style l.operator (t ∷ []) → (ps : List Token) → IsOperand style ps → Grows style 0 (ps ++ t ∷ [])
joins style n k t l e o ps p = grows_joined style n k ps (t ∷ []) l e p o

liberty_or : (t : Token) → Is Liberty 8 (t ∷ []) → (ps : List Token) → IsOperand Liberty ps → Grows Liberty 0 (ps ++ t ∷ [])
liberty_or t o = joins Liberty 0 2 t liberty_sum refl o

liberty_and : (t : Token) → Is Liberty 14 (t ∷ []) → (ps : List Token) → IsOperand Liberty ps → Grows Liberty 0 (ps ++ t ∷ [])
liberty_and t o = joins Liberty 1 1 t liberty_product refl (is_first Liberty 13 14 17 (t ∷ []) refl o)

-- in Liberty two operands may stand side by side
pub side_by_side : (ps ys : List Token) → IsOperand Liberty ps → Is Liberty 0 ys → Is Liberty 0 (ps ++ ys)
side_by_side ps ys p i =
    is_same Liberty 0 (ps ++ [] ++ ys) (ps ++ ys) (ap (λ v. v ++ ys) (append-nil ps))
    (grows_joined Liberty 1 1 ps [] liberty_product refl p (is_second Liberty 13 14 17 [] refl (is_empty Liberty 17 refl)) ys i)

liberty_bracketed : (o c : Token) (xs : List Token) → o.kind ≡ 10 → c.kind ≡ 11 → Is Liberty 0 xs → IsOperand Liberty ((o ∷ xs) ++ c ∷ [])
liberty_bracketed o c xs e f h =
    let ts : List Token = (o ∷ xs) ++ c ∷ [] in
    let all = is_two Liberty 30 31 32 (o ∷ []) (xs ++ c ∷ []) refl (is_word Liberty 31 10 o refl e) (is_two Liberty 32 0 33 xs (c ∷ []) refl h (is_word Liberty 33 11 c refl f)) in
    unprimed ts (is_second Liberty 5 25 26 ts refl (is_second Liberty 26 27 28 ts refl (is_second Liberty 28 29 30 ts refl all)))

upf_bracketed : (o c : Token) (xs : List Token) → o.kind ≡ 10 → c.kind ≡ 11 → Is Upf 0 xs → IsOperand Upf ((o ∷ xs) ++ c ∷ [])
upf_bracketed o c xs e f h =
    let ts : List Token = (o ∷ xs) ++ c ∷ [] in
    let all = is_two Upf 31 32 33 (o ∷ []) (xs ++ c ∷ []) refl (is_word Upf 32 10 o refl e) (is_two Upf 33 0 34 xs (c ∷ []) refl h (is_word Upf 34 11 c refl f)) in
    is_second Upf 6 26 27 ts refl (is_second Upf 27 28 29 ts refl (is_second Upf 29 30 31 ts refl all))

pub bracketed : (style : Style) (o c : Token) (xs : List Token) → o.kind ≡ 10 → c.kind ≡ 11 → Is style 0 xs → IsOperand style ((o ∷ xs) ++ c ∷ [])
bracketed Liberty o c xs e f h = liberty_bracketed o c xs e f h
bracketed Upf o c xs e f h = upf_bracketed o c xs e f h

-- one case for each terminal
each_terminal : (P : ℕ → Type 0) → P 0 → P 1 → P 2 → P 3 → P 4 → P 5 → P 6 → P 7 → P 8 → P 9 → P 10 → P 11 → (k : ℕ) → k < 12 → P k
each_terminal P p0 p1 p2 p3 p4 p5 p6 p7 p8 p9 p10 p11 zero h = p0
each_terminal P p0 p1 p2 p3 p4 p5 p6 p7 p8 p9 p10 p11 (suc zero) h = p1
each_terminal P p0 p1 p2 p3 p4 p5 p6 p7 p8 p9 p10 p11 (suc (suc zero)) h = p2
each_terminal P p0 p1 p2 p3 p4 p5 p6 p7 p8 p9 p10 p11 (suc (suc (suc zero))) h = p3
each_terminal P p0 p1 p2 p3 p4 p5 p6 p7 p8 p9 p10 p11 (suc (suc (suc (suc zero)))) h = p4
each_terminal P p0 p1 p2 p3 p4 p5 p6 p7 p8 p9 p10 p11 (suc (suc (suc (suc (suc zero))))) h = p5
each_terminal P p0 p1 p2 p3 p4 p5 p6 p7 p8 p9 p10 p11 (suc (suc (suc (suc (suc (suc zero)))))) h = p6
each_terminal P p0 p1 p2 p3 p4 p5 p6 p7 p8 p9 p10 p11 (suc (suc (suc (suc (suc (suc (suc zero))))))) h = p7
each_terminal P p0 p1 p2 p3 p4 p5 p6 p7 p8 p9 p10 p11 (suc (suc (suc (suc (suc (suc (suc (suc zero)))))))) h = p8
each_terminal P p0 p1 p2 p3 p4 p5 p6 p7 p8 p9 p10 p11 (suc (suc (suc (suc (suc (suc (suc (suc (suc zero))))))))) h = p9
each_terminal P p0 p1 p2 p3 p4 p5 p6 p7 p8 p9 p10 p11 (suc (suc (suc (suc (suc (suc (suc (suc (suc (suc zero)))))))))) h = p10
each_terminal P p0 p1 p2 p3 p4 p5 p6 p7 p8 p9 p10 p11 (suc (suc (suc (suc (suc (suc (suc (suc (suc (suc (suc zero))))))))))) h = p11
each_terminal P p0 p1 p2 p3 p4 p5 p6 p7 p8 p9 p10 p11 (suc (suc (suc (suc (suc (suc (suc (suc (suc (suc (suc (suc k)))))))))))) h = absurd (omega arith)

abbrev token_of : ℕ → ℕ → Token
token_of place kind = record { kind = kind; place = place }

liberty_means : (place k : ℕ) → k < 12 → Means Liberty (liberty_role k) (token_of place k)
liberty_means place k h =
    let P : ℕ → Type 0 = λ k. Means Liberty (liberty_role k) (token_of place k) in
    let t : ℕ → Token = token_of place in
    each_terminal P
    (liberty_or (t 0) (is_first Liberty 8 9 10 (t 0 ∷ []) refl (is_word Liberty 9 0 (t 0) refl refl)))
    (liberty_or (t 1) (is_second Liberty 8 9 10 (t 1 ∷ []) refl (is_word Liberty 10 1 (t 1) refl refl)))
    (liberty_and (t 2) (is_first Liberty 14 15 16 (t 2 ∷ []) refl (is_word Liberty 15 2 (t 2) refl refl)))
    (liberty_and (t 3) (is_second Liberty 14 15 16 (t 3 ∷ []) refl (is_word Liberty 16 3 (t 3) refl refl)))
    (joins Liberty 2 0 (t 4) liberty_difference refl (is_word Liberty 20 4 (t 4) refl refl))
    (liberty_marked (t 5) refl)
    (liberty_primed (t 6) refl)
    (unprimed (t 7 ∷ []) (is_first Liberty 5 25 26 (t 7 ∷ []) refl (is_word Liberty 25 7 (t 7) refl refl)))
    (unprimed (t 8 ∷ []) (is_second Liberty 5 25 26 (t 8 ∷ []) refl (is_first Liberty 26 27 28 (t 8 ∷ []) refl (is_word Liberty 27 8 (t 8) refl refl))))
    (unprimed (t 9 ∷ []) (is_second Liberty 5 25 26 (t 9 ∷ []) refl (is_second Liberty 26 27 28 (t 9 ∷ []) refl (is_first Liberty 28 29 30 (t 9 ∷ []) refl (is_word Liberty 29 9 (t 9) refl refl)))))
    refl refl
    k h

upf_means : (place k : ℕ) → k < 12 → Means Upf (upf_role k) (token_of place k)
upf_means place k h =
    let P : ℕ → Type 0 = λ k. Means Upf (upf_role k) (token_of place k) in
    let t : ℕ → Token = token_of place in
    each_terminal P
    (grows_marked Upf (t 0) (is_first Upf 23 24 25 (t 0 ∷ []) refl (is_word Upf 24 0 (t 0) refl refl)))
    (grows_marked Upf (t 1) (is_second Upf 23 24 25 (t 1 ∷ []) refl (is_word Upf 25 1 (t 1) refl refl)))
    (joins Upf 4 0 (t 2) upf_product refl (is_word Upf 21 2 (t 2) refl refl))
    (joins Upf 3 1 (t 3) upf_difference refl (is_word Upf 18 3 (t 3) refl refl))
    (joins Upf 2 2 (t 4) upf_union refl (is_word Upf 15 4 (t 4) refl refl))
    (joins Upf 1 3 (t 5) upf_all refl (is_word Upf 12 5 (t 5) refl refl))
    (joins Upf 0 4 (t 6) upf_any refl (is_word Upf 9 6 (t 6) refl refl))
    (is_first Upf 6 26 27 (t 7 ∷ []) refl (is_word Upf 26 7 (t 7) refl refl))
    (is_second Upf 6 26 27 (t 8 ∷ []) refl (is_first Upf 27 28 29 (t 8 ∷ []) refl (is_word Upf 28 8 (t 8) refl refl)))
    (is_second Upf 6 26 27 (t 9 ∷ []) refl (is_second Upf 27 28 29 (t 9 ∷ []) refl (is_first Upf 29 30 31 (t 9 ∷ []) refl (is_word Upf 30 9 (t 9) refl refl))))
    refl refl
    k h

-- what each terminal does is what its role says
pub means : (style : Style) (t : Token) → t.kind < 12 → Means style (role_of style t.kind) t
means Liberty t h = liberty_means t.place t.kind h
means Upf t h = upf_means t.place t.kind h
