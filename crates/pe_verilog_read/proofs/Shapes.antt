-- From the parts of a derivation to its expression.
use Rattle.std.proofs.Common.{inl, inr, ◌≡◌, ◌⊎◌, ℕ, zero, suc, ◌+◌, ◌<◌, ◌≤◌, List, [], ◌∷◌, ◌++◌, Result, Ok, Err, Option, Some, add-one, refl, sym, ap, ◌∙◌, subst, arith}
use Rattle.std.specs.Prelude.{map, IfOk}
use Rattle.std.proofs.lemmas.Bool.{cases_lt}
use Rattle.pe_grammar.specs.declared.form.Entry.{Entry}
use Rattle.pe_grammar.specs.declared.tree.Tree.{Tree}
use Rattle.pe_grammar.specs.Derivation.{Derivation, derivation, repeated, done, leaf, pair, left, right}
use Rattle.pe_grammar.proofs.Lists.{each_value}
use Rattle.pe_verilog_ast.specs.declared.expression.Ex.{Ex}
use Rattle.pe_verilog_ast.specs.declared.expression.Ex.TheVariants.{Number, Choose, Join, Repeat, Unary}
use Rattle.pe_verilog_ast.specs.declared.expression.Operand.{Operand}
use Rattle.pe_grammar.specs.declared.terminal.Token.{Token}
use Rattle.pe_verilog_ast.specs.declared.operator.UnOp.{UnOp}
use Rattle.pe_verilog_read.specs.Leaves.{token_of, sign_of}
use Rattle.pe_verilog_read.specs.Numbers.{digits_of}
use Rattle.pe_verilog_read.specs.Copies.{IsRung, AreRungs}
use Rattle.pe_verilog_read.specs.Expressions.{ex_of, left_of, right_of, levels, level_of, operands_of, operand_of, chained, primary_of, group_of, braces_of, inner_of, list_of, others_of, behind_of, simple_of, select_of, upto_of, selected}

-- what is answered is what is wanted, since the two are equal
pub ok_as : {A E : Type 0} (r : Result A E) (x y : A) → x ≡ y → IfOk r (λ e. e ≡ x) → IfOk r (λ e. e ≡ y)
ok_as (Ok e) x y p h = h ∙ p
ok_as (Err e) x y p h = tt

-- a level among levels
pub rung_at : (g : List Entry) (base n place above : ℕ) → AreRungs g base n → base + n ≡ place + above → 0 < above → above ≤ n → IsRung g place
rung_at g base zero place above r e h k = absurd (omega arith)
rung_at g base (suc n) place above r e h k = elim (first_or_later base n place above e k) [
  | inl same ↦ subst (λ m. IsRung g m) same r.0
  | inr later ↦ rung_at g (suc base) n place above r.1 (omega arith) h later
]
  where
    first_or_later : (base n place above : ℕ) → base + suc n ≡ place + above → above ≤ suc n → (base ≡ place) ⊎ (above ≤ n)
    first_or_later base n place above e k = split base n place above e k (cases_lt n above)
      where
        split : (base n place above : ℕ) → base + suc n ≡ place + above → above ≤ suc n → (n < above) ⊎ (above ≤ n) → (base ≡ place) ⊎ (above ≤ n)
        split base n place above e k (inl l) = inl (omega arith)
        split base n place above e k (inr m) = inr m

pub chosen_shape : (w : ℕ → List ℕ) (d a b q x s : Derivation) (first second third : Ex) → d ≡ pair a b → b ≡ left q → q ≡ pair x s →
    first ≡ level_of w levels a → second ≡ left_of w s → third ≡ right_of w s → Choose first second third ≡ ex_of w d
chosen_shape w d a b q x s first second third e f g h i j =
    let shape : d ≡ pair a (left (pair x s)) = cc in
    ap (λ k. Choose k second third) h
    ∙ ap (λ k. Choose (level_of w levels a) k third) i
    ∙ ap (λ k. Choose (level_of w levels a) (left_of w s) k) j
    ∙ sym (ap (ex_of w) shape)

pub plain_shape : (w : ℕ → List ℕ) (d a b q : Derivation) (first : Ex) → d ≡ pair a b → b ≡ right q → first ≡ level_of w levels a → first ≡ ex_of w d
plain_shape w d a b q first e f h = let shape : d ≡ pair a (right q) = cc in h ∙ sym (ap (ex_of w) shape)

pub left_shape : (w : ℕ → List ℕ) (d a b : Derivation) (v : Ex) → d ≡ pair a b → v ≡ ex_of w a → v ≡ left_of w d
left_shape w d a b v e h = h ∙ sym (ap (left_of w) e)

pub right_shape : (w : ℕ → List ℕ) (d a b k x : Derivation) (v : Ex) → d ≡ pair a b → b ≡ pair k x → v ≡ ex_of w x → v ≡ right_of w d
right_shape w d a b k x v e f h = h ∙ sym (ap (right_of w) (e ∙ ap (pair a) f))

pub operands_shape : (w : ℕ → List ℕ) (n : ℕ) (d a : Derivation) (ts us : List Tree) (first : Ex) (none more : List Operand) →
    d ≡ pair a (repeated (map derivation ts) done) → first ≡ level_of w n a → none ≡ [] → us ≡ ts →
    more ≡ none ++ map (λ t. operand_of w n (derivation t)) us → chained first more ≡ level_of w (n + 1) d
operands_shape w n d a ts us first none more e h i j k =
    let same : more ≡ operands_of w n (repeated (map derivation ts) done) =
    k
    ∙ ap (λ os. os ++ map (λ t. operand_of w n (derivation t)) us) i
    ∙ ap (map (λ t. operand_of w n (derivation t))) j
    ∙ sym (each_value (operand_of w n) (operands_of w n) refl (λ x y. refl) ts) in
    ap (λ v. chained v more) h
    ∙ ap (chained (level_of w n a)) same
    ∙ ap (λ m. level_of w m (pair a (repeated (map derivation ts) done))) (sym (add-one n))
    ∙ sym (ap (level_of w (n + 1)) e)

pub unary_shape : (w : ℕ → List ℕ) (d s m x : Derivation) (v : Ex) (t : Token) (op : UnOp) → d ≡ left s → s ≡ pair m x → v ≡ level_of w 0 x →
    t ≡ token_of m → op ≡ sign_of t.kind → Unary op v ≡ level_of w 0 d
unary_shape w d s m x v t op e f h i j =
    ap (λ k. Unary k v) (j ∙ ap (λ k. sign_of k.kind) i)
    ∙ ap (λ k. Unary (sign_of (token_of m).kind) k) h
    ∙ sym (ap (level_of w 0) (e ∙ ap left f))

pub group_shape : (w : ℕ → List ℕ) (d g o r x k : Derivation) (v : Ex) → d ≡ left g → g ≡ pair o r → r ≡ pair x k → v ≡ ex_of w x → v ≡ primary_of w d
group_shape w d g o r x k v e f h i = let shape : d ≡ left (pair o (pair x k)) = cc in i ∙ sym (ap (primary_of w) shape)

pub in_braces : (w : ℕ → List ℕ) (d o b : Derivation) → d ≡ right o → o ≡ left b → braces_of w b ≡ primary_of w d
in_braces w d o b e f = sym (ap (primary_of w) (e ∙ ap right f))

pub in_operand : (w : ℕ → List ℕ) (d o b : Derivation) → d ≡ right o → o ≡ right b → simple_of w b ≡ primary_of w d
in_operand w d o b e f = sym (ap (primary_of w) (e ∙ ap right f))

pub number_shape : (w : ℕ → List ℕ) (d : Derivation) (t : Token) → d ≡ leaf t → Number (digits_of (w t.place)) ≡ simple_of w d
number_shape w d t e = sym (ap (simple_of w) e)

pub join_shape : (w : ℕ → List ℕ) (d o r a s j k x : Derivation) (first : Ex) (all : List Ex) → d ≡ pair o r → r ≡ pair a s → s ≡ pair j k → j ≡ left x →
    first ≡ ex_of w a → all ≡ first ∷ others_of w x → Join all ≡ braces_of w d
join_shape w d o r a s j k x first all e f g h i l =
    let shape : d ≡ pair o (pair a (pair (left x) k)) = cc in
    ap Join (l ∙ ap (λ v. v ∷ others_of w x) i) ∙ sym (ap (braces_of w) shape)

pub repeat_shape : (w : ℕ → List ℕ) (d o r a s j k x : Derivation) (first : Ex) (all : List Ex) → d ≡ pair o r → r ≡ pair a s → s ≡ pair j k → j ≡ right x →
    first ≡ ex_of w a → all ≡ inner_of w x → Repeat first all ≡ braces_of w d
repeat_shape w d o r a s j k x first all e f g h i l =
    let shape : d ≡ pair o (pair a (pair (right x) k)) = cc in
    ap (λ v. Repeat v all) i ∙ ap (Repeat (ex_of w a)) l ∙ sym (ap (braces_of w) shape)

pub inner_shape : (w : ℕ → List ℕ) (d a b c e : Derivation) → d ≡ pair a b → b ≡ pair c e → list_of w c ≡ inner_of w d
inner_shape w d a b c e p q = sym (ap (inner_of w) (p ∙ ap (pair a) q))

pub list_shape : (w : ℕ → List ℕ) (d a o : Derivation) (v : Ex) → d ≡ pair a o → v ≡ ex_of w a → v ∷ others_of w o ≡ list_of w d
list_shape w d a o v p q = ap (λ x. x ∷ others_of w o) q ∙ sym (ap (list_of w) p)

pub others_shape : (w : ℕ → List ℕ) (d : Derivation) (ts us : List Tree) (v : Ex) (none start all : List Ex) → d ≡ repeated (map derivation ts) done → none ≡ [] →
    start ≡ none ++ v ∷ [] → us ≡ ts → all ≡ start ++ map (λ t. behind_of w (derivation t)) us → all ≡ v ∷ others_of w d
others_shape w d ts us v none start all p n q r s =
    let begun : start ≡ v ∷ [] = q ∙ ap (λ xs. xs ++ v ∷ []) n in
    s
    ∙ ap (λ xs. xs ++ map (λ t. behind_of w (derivation t)) us) begun
    ∙ ap (λ xs. v ∷ map (λ t. behind_of w (derivation t)) xs) r
    ∙ ap (λ xs. v ∷ xs) (sym (each_value (behind_of w) (others_of w) refl (λ x y. refl) ts))
    ∙ ap (λ e. v ∷ others_of w e) (sym p)

pub select_shape : (w : ℕ → List ℕ) (d o r a s u k : Derivation) (first : Ex) (second : Option Ex) → d ≡ pair o r → r ≡ pair a s → s ≡ pair u k →
    first ≡ ex_of w a → second ≡ upto_of w u → selected first second ≡ select_of w d
select_shape w d o r a s u k first second e f g h i =
    let shape : d ≡ pair o (pair a (pair u k)) = cc in
    ap (λ v. selected v second) h ∙ ap (selected (ex_of w a)) i ∙ sym (ap (select_of w) shape)

pub upto_shape : (w : ℕ → List ℕ) (d b k x : Derivation) (v : Ex) → d ≡ left b → b ≡ pair k x → v ≡ ex_of w x → Some v ≡ upto_of w d
upto_shape w d b k x v e f h = ap Some h ∙ sym (ap (upto_of w) (e ∙ ap left f))

pub condition_shape : (w : ℕ → List ℕ) (d a b x k : Derivation) (v : Ex) → d ≡ pair a b → b ≡ pair x k → v ≡ ex_of w x → v ≡ group_of w d
condition_shape w d a b x k v e f h = h ∙ sym (ap (group_of w) (e ∙ ap (pair a) f))
