-- The questions of a design, and answers in their order.
use Rattle.std.proofs.Common.{◌≡◌, ◌⊎◌, ℕ, zero, suc, ◌+◌, ◌<◌, ◌≤◌, List, [], ◌∷◌, ◌++◌, map, length, drop, Some, refl, sym, ap, ◌∙◌, subst, arith, append-nil, inl, inr}
use Rattle.std.specs.Prelude.{slice_get, slice_index_or}
use Rattle.std.specs.List.{Contains, flat_map, range_with_len}
use Rattle.std.proofs.lemmas.List.Elements.{Contains-append_left, Contains-append_right, Contains-append_cases}
use Rattle.std.proofs.lemmas.List.{drop_all}
use Rattle.std.proofs.lemmas.List.Folds.{flat_map-map}
use Rattle.std.proofs.lemmas.List.Concat.{flat_map-append}
use Rattle.std.proofs.lemmas.List.FromFn.{map-range_with_len_more}
use Rattle.pe_design.specs.declared.design.Design.{Design}
use Rattle.pe_questions.specs.declared.question.Question.{Question}
use Rattle.pe_questions.specs.declared.answer.Answer.{Answer}
use Rattle.pe_questions.specs.Questions.{output_question, live_question, row_questions}
use Rattle.pe_questions.specs.Answers.{IsAnswer, AreAnswers}

-- one more answer
pub answers_more : (d : Design) (qs : List Question) (answers more : List Answer) (q : Question) (a : Answer) → IsAnswer d q a → AreAnswers d qs more → AreAnswers d (q ∷ qs) (a ∷ more)
answers_more d qs answers more q a is are = (is, are)

-- an answer among some, of a question among some
pub record IsTold (d : Design) (answers : List Answer) (q : Question) : Type 0 where
  pub answer : Answer
  pub there : Contains answers answer
  pub is : IsAnswer d q answer

contains_behind : {X : Type 0} (y : X) (xs : List X) (x : X) → Contains xs x → Contains (y ∷ xs) x
contains_behind y xs x (k, l, e) = (suc k, omega arith, e)

contains_first : {X : Type 0} (x : X) (xs : List X) → Contains (x ∷ xs) x
contains_first x xs = (zero, omega arith, refl)

pub told_of : (d : Design) (qs : List Question) (answers : List Answer) (q : Question) → AreAnswers d qs answers → Contains qs q → IsTold d answers q
told_of d [] [] q are (k, l, e) = absurd (omega arith)
told_of d [] (a ∷ answers) q are there = absurd are
told_of d (p ∷ qs) [] q are there = absurd are
told_of d (p ∷ qs) (a ∷ answers) q are (zero, l, e) = record { answer = a; there = contains_first a answers; is = subst (λ x. IsAnswer d x a) e are.0 }
told_of d (p ∷ qs) (a ∷ answers) q are (suc k, l, e) =
    let more = told_of d qs answers q are.1 (k, omega arith, e) in
    record { answer = more.answer; there = contains_behind a answers more.answer more.there; is = more.is }

-- a question among some, of an answer among some
pub record IsAsked (d : Design) (qs : List Question) (a : Answer) : Type 0 where
  pub question : Question
  pub there : Contains qs question
  pub is : IsAnswer d question a

pub asked_of : (d : Design) (qs : List Question) (answers : List Answer) (a : Answer) → AreAnswers d qs answers → Contains answers a → IsAsked d qs a
asked_of d [] [] a are (k, l, e) = absurd (omega arith)
asked_of d [] (b ∷ answers) a are there = absurd are
asked_of d (p ∷ qs) [] a are there = absurd are
asked_of d (p ∷ qs) (b ∷ answers) a are (zero, l, e) = record { question = p; there = contains_first p qs; is = subst (λ x. IsAnswer d p x) e are.0 }
asked_of d (p ∷ qs) (b ∷ answers) a are (suc k, l, e) =
    let more = asked_of d qs answers a are.1 (k, omega arith, e) in
    record { question = more.question; there = contains_behind p qs more.question more.there; is = more.is }

-- members of images, of joined lists and of ranges
contains_map : {X Y : Type 0} (f : X → Y) (xs : List X) (x : X) → Contains xs x → Contains (map f xs) (f x)
contains_map f [] x (k, l, e) = absurd (omega arith)
contains_map f (y ∷ ys) x (zero, l, e) = (zero, omega arith, ap f e)
contains_map f (y ∷ ys) x (suc k, l, e) = contains_behind (f y) (map f ys) (f x) (contains_map f ys x (k, omega arith, e))

in_map : {X Y : Type 0} (f : X → Y) (xs : List X) (y : Y) → Contains (map f xs) y → (x : X) × Contains xs x × (y ≡ f x)
in_map f [] y (k, l, e) = absurd (omega arith)
in_map f (x ∷ xs) y (zero, l, e) = (x, contains_first x xs, sym e)
in_map f (x ∷ xs) y (suc k, l, e) =
    let more = in_map f xs y (k, omega arith, e) in
    (more.0, contains_behind x xs more.0 more.1, more.2)

contains_joined : {X Y : Type 0} (f : X → List Y) (xs : List X) (x : X) (y : Y) → Contains xs x → Contains (f x) y → Contains (flat_map f xs) y
contains_joined f [] x y (k, l, e) there = absurd (omega arith)
contains_joined f (z ∷ xs) x y (zero, l, e) there = Contains-append_left (f z) (flat_map f xs) y (subst (λ w. Contains (f w) y) (sym e) there)
contains_joined f (z ∷ xs) x y (suc k, l, e) there =
    Contains-append_right (f z) (flat_map f xs) y (contains_joined f xs x y (k, omega arith, e) there)

in_joined : {X Y : Type 0} (f : X → List Y) (xs : List X) (y : Y) → Contains (flat_map f xs) y → (x : X) × Contains xs x × Contains (f x) y
in_joined f [] y (k, l, e) = absurd (omega arith)
in_joined f (x ∷ xs) y there =
    elim (Contains-append_cases (f x) (flat_map f xs) y there) [
      | inl a ↦ (x, contains_first x xs, a)
      | inr b ↦ (let more = in_joined f xs y b in (more.0, contains_behind x xs more.0 more.1, more.2))
    ]

contains_range : (start n k : ℕ) → k < n → Contains (range_with_len start n) (start + k)
contains_range start zero k l = absurd (omega (arith, l))
contains_range start (suc n) zero l =
    let e : start ≡ start + 0 = omega arith in
    subst (λ k. Contains (start ∷ range_with_len (start + 1) n) k) e (contains_first start (range_with_len (start + 1) n))
contains_range start (suc n) (suc k) l =
    let e : start + 1 + k ≡ start + suc k = omega arith in
    subst (λ m. Contains (start ∷ range_with_len (start + 1) n) m) e
    (contains_behind start (range_with_len (start + 1) n) (start + 1 + k) (contains_range (start + 1) n k (omega (arith, l))))

in_range : (start n k : ℕ) → Contains (range_with_len start n) k → k < start + n
in_range start zero k (i, l, e) = absurd (omega arith)
in_range start (suc n) k (zero, l, e) = omega (arith, e)
in_range start (suc n) k (suc i, l, e) =
    let more = in_range (start + 1) n k (i, omega arith, e) in
    omega (arith, more)

below : (n k : ℕ) → k < n → Contains (range_with_len 0 n) k
below n k l =
    let e : 0 + k ≡ k = omega arith in
    subst (λ m. Contains (range_with_len 0 n) m) e (contains_range 0 n k l)

is_below : (n k : ℕ) → Contains (range_with_len 0 n) k → k < n
is_below n k there = let l = in_range 0 n k there in omega (arith, l)

-- the question of an output of a row is asked
pub is_asked : (outputs rows q k : ℕ) → q < rows → k < outputs → Contains (flat_map (row_questions outputs) (range_with_len 0 rows)) (output_question q k)
is_asked outputs rows q k l m =
    contains_joined (row_questions outputs) (range_with_len 0 rows) q (output_question q k) (below rows q l)
    (Contains-append_left (map (output_question q) (range_with_len 0 outputs)) (live_question q ∷ []) (output_question q k)
    (contains_map (output_question q) (range_with_len 0 outputs) k (below outputs k m)))

-- what is asked is of a row: of one of its outputs, or live
pub record IsOfRow (outputs rows : ℕ) (question : Question) : Type 0 where
  pub row : ℕ
  pub few : row < rows
  pub is : ((k : ℕ) × (k < outputs) × (question ≡ output_question row k)) ⊎ (question ≡ live_question row)

alone : {X : Type 0} (x y : X) → Contains (x ∷ []) y → y ≡ x
alone x y (zero, l, e) = sym e
alone x y (suc k, l, e) = absurd (omega arith)

pub asked_is : (outputs rows : ℕ) (question : Question) → Contains (flat_map (row_questions outputs) (range_with_len 0 rows)) question → IsOfRow outputs rows question
asked_is outputs rows question there =
    let r = in_joined (row_questions outputs) (range_with_len 0 rows) question there in
    let few : r.0 < rows = is_below rows r.0 r.1 in
    elim (Contains-append_cases (map (output_question r.0) (range_with_len 0 outputs)) (live_question r.0 ∷ []) question r.2) [
      | inl a ↦ (let k = in_map (output_question r.0) (range_with_len 0 outputs) question a in record { row = r.0; few = few; is = inl (k.0, is_below outputs k.0 k.1, k.2) })
      | inr b ↦ record { row = r.0; few = few; is = inr (alone (live_question r.0) question b) }
    ]

-- the element at a place
pub some_at : {X : Type 0} (xs : List X) (k : ℕ) (x : X) → k < length xs → slice_index_or xs k x ≡ x → slice_get xs k ≡ Some x
some_at [] k x l e = absurd (omega arith)
some_at (y ∷ ys) zero x l e = ap Some e
some_at (y ∷ ys) (suc k) x l e = some_at ys k x (omega arith) e

pub there_at : {X : Type 0} (xs : List X) (k : ℕ) → k < length xs → (x : X) × (slice_get xs k ≡ Some x) × Contains xs x
there_at [] k l = absurd (omega arith)
there_at (y ∷ ys) zero l = (y, refl, contains_first y ys)
there_at (y ∷ ys) (suc k) l =
    let more = there_at ys k (omega arith) in
    (more.0, more.1, contains_behind y ys more.0 more.2)

pub any_default : {X : Type 0} (xs : List X) (k : ℕ) (d e : X) → k < length xs → slice_index_or xs k d ≡ slice_index_or xs k e
any_default [] k d e l = absurd (omega arith)
any_default (y ∷ ys) zero d e l = refl
any_default (y ∷ ys) (suc k) d e l = any_default ys k d e (omega arith)

pub contains_at : {X : Type 0} (xs : List X) (k : ℕ) (d : X) → k < length xs → Contains xs (slice_index_or xs k d)
contains_at xs k d l = (k, l, any_default xs k (slice_index_or xs k d) d l)

-- the questions of one more row
pub rows_more : (outputs n : ℕ) → flat_map (row_questions outputs) (range_with_len 0 (n + 1)) ≡ flat_map (row_questions outputs) (range_with_len 0 n) ++ row_questions outputs n
rows_more outputs n =
    let f = row_questions outputs in
    let id : ℕ → ℕ = λ x. x in
    sym (flat_map-map f id (range_with_len 0 (n + 1)))
    ∙ ap (flat_map f) (map-range_with_len_more id 0 n n (omega arith))
    ∙ flat_map-append f (map id (range_with_len 0 n)) (n ∷ [])
    ∙ ap (λ xs. xs ++ (f n ++ [])) (flat_map-map f id (range_with_len 0 n))
    ∙ ap (λ xs. flat_map f (range_with_len 0 n) ++ xs) (append-nil (f n))

-- where no question is left the answers are all
pub all_told : (d : Design) (qs : List Question) (answers : List Answer) (k : ℕ) → length qs ≤ k → ((more : List Answer) → AreAnswers d (drop k qs) more → AreAnswers d qs (answers ++ more)) → AreAnswers d qs answers
all_told d qs answers k l h =
    let none : AreAnswers d (drop k qs) [] = subst (λ left. AreAnswers d left []) (sym (drop_all k qs l)) tt in
    subst (AreAnswers d qs) (append-nil answers) (h [] none)
