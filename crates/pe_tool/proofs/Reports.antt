-- The lines of a report, one behind the other.
use Rattle.std.proofs.Common.{◌≡◌, ℕ, ◌+◌, ◌<◌, Bool, List, [], ◌∷◌, ◌++◌, length, drop, get_or, refl, sym, ap, ◌∙◌, append_assoc, append-nil, arith}
use Rattle.std.proofs.lemmas.List.{drop_more}
use Rattle.std.specs.Prelude.{codes}
use Rattle.pe_questions.specs.declared.question.Question.{Question}
use Rattle.pe_questions.specs.declared.answer.Answer.{Answer}
use Rattle.pe_tool.specs.Report.{two_words, on_word, first_name, supply_lines, blocks_by}

-- a root's line comes before those of the roots behind it
pub supply_step : (names : List (List ℕ × ℕ)) (out next whole : List ℕ) (roots : List ℕ) (k d : ℕ) (rest more : List Bool) (bit : Bool) → k < length roots → rest ≡ bit ∷ more →
    next ≡ out ++ two_words (codes "    supply ") (first_name names (get_or roots k d)) (codes " ") (on_word bit) → out ++ supply_lines names (drop k roots) rest ≡ whole → next ++ supply_lines names (drop (k + 1) roots) more ≡ whole
supply_step names out next whole roots k d rest more bit l r n h =
    let root = get_or roots k d in
    let line = two_words (codes "    supply ") (first_name names root) (codes " ") (on_word bit) in
    let here : drop k roots ≡ root ∷ drop (k + 1) roots = drop_more roots k d l in
    ap (λ x. x ++ supply_lines names (drop (k + 1) roots) more) n
    ∙ append_assoc out line (supply_lines names (drop (k + 1) roots) more)
    ∙ ap (λ xs. out ++ supply_lines names xs (bit ∷ more)) (sym here) ∙ ap (λ xs. out ++ supply_lines names (drop k roots) xs) (sym r) ∙ h

-- where no state is left no line is
no_states : (names : List (List ℕ × ℕ)) (roots : List ℕ) (bits : List Bool) → length bits ≡ 0 → supply_lines names roots bits ≡ []
no_states names [] bits e = refl
no_states names (root ∷ roots) [] e = refl
no_states names (root ∷ roots) (b ∷ bits) e = absurd (omega (arith, e))

pub supply_end : (names : List (List ℕ × ℕ)) (out whole : List ℕ) (roots : List ℕ) (bits : List Bool) → length bits ≡ 0 → out ++ supply_lines names roots bits ≡ whole → out ≡ whole
supply_end names out whole roots bits e h = sym (append-nil out) ∙ ap (λ xs. out ++ xs) (sym (no_states names roots bits e)) ∙ h

pub no_answers : (told : Question → Answer → List ℕ) (qs : List Question) (answers : List Answer) → length answers ≡ 0 → blocks_by told qs answers ≡ []
no_answers told [] answers e = refl
no_answers told (q ∷ qs) [] e = refl
no_answers told (q ∷ qs) (a ∷ answers) e = absurd (omega (arith, e))

-- where no answer is left no block is
pub block_end : (told : Question → Answer → List ℕ) (out whole : List ℕ) (qs : List Question) (answers : List Answer) → length answers ≡ 0 → out ++ blocks_by told qs answers ≡ whole → out ≡ whole
block_end told out whole qs answers e h = sym (append-nil out) ∙ ap (λ xs. out ++ xs) (sym (no_answers told qs answers e)) ∙ h

-- a question's block comes before those of the questions behind it
pub block_step : (told : Question → Answer → List ℕ) (out next whole : List ℕ) (qs : List Question) (k : ℕ) (q other : Question) (rest more left : List Answer) (a : Answer) → k < length qs → q ≡ get_or qs k other → rest ≡ a ∷ more → left ≡ more →
    next ≡ out ++ told q a → out ++ blocks_by told (drop k qs) rest ≡ whole → next ++ blocks_by told (drop (k + 1) qs) left ≡ whole
block_step told out next whole qs k q other rest more left a l e r same n h =
    let here : drop k qs ≡ q ∷ drop (k + 1) qs = drop_more qs k other l ∙ ap (λ x. x ∷ drop (k + 1) qs) (sym e) in
    ap (λ x. next ++ blocks_by told (drop (k + 1) qs) x) same
    ∙ ap (λ x. x ++ blocks_by told (drop (k + 1) qs) more) n
    ∙ append_assoc out (told q a) (blocks_by told (drop (k + 1) qs) more)
    ∙ ap (λ xs. out ++ blocks_by told xs (a ∷ more)) (sym here) ∙ ap (λ xs. out ++ blocks_by told (drop k qs) xs) (sym r) ∙ h
