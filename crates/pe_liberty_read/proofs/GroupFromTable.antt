-- The statements and the groups that the grammar derives are those that the rules of the format have.
use Rattle.std.proofs.Common.{◌≡◌, ℕ, zero, suc, ◌+◌, ◌<◌, Bool, true, false, List, [], ◌∷◌, ◌++◌, refl, ap, sym, ◌∙◌, subst, arith, inl, inr, append_assoc, append-nil}
use Rattle.std.specs.Prelude.{◌⊎◌}
use Rattle.pe_grammar.specs.declared.terminal.Token.{Token as Terminal}
use Rattle.pe_grammar.specs.Derivation.{Derivation, leaf, nothing, pair, left, right, done, more, text as spelled}
use Rattle.pe_grammar.specs.Written.{word, rule, empty, both, either, many, IsOf}
use Rattle.pe_text.specs.declared.token.Token.{Token}
use Rattle.pe_liberty_read.specs.Contents.{contents_of}
use Rattle.pe_liberty_read.specs.Format.{IsWord, IsEnding, IsArguments, words_of, IsList, list, IsGroup, group, IsStatement, inner_group, simple, complex, IsContents, nothing_more, unended, one_more}
use Rattle.pe_liberty_read.specs.LibertyGrammar.{liberty_grammar}
use Rattle.pe_liberty_read.specs.Meaning.{number_of, names_of, attr_with, group_with, statement_of, meaning_of, body_of, braced_of, statements_of, group_of}
use Rattle.pe_liberty_read.specs.declared.statement.Statement.{Statement}
use Rattle.pe_liberty_read.specs.declared.statement.Statement.TheVariants as statement
use Rattle.pe_liberty_read.proofs.Inverse.{size, in_pair, in_side, in_leaf, in_nothing, in_more}
use Rattle.pe_liberty_read.proofs.Walk.{walk, no_word, first}
use Rattle.pe_liberty_read.proofs.FromTable.{name_leaf, Ahead, IsMark, read_mark, read_word, read_listed, read_values, read_arguments}

-- a word and what stands in parentheses behind it
pub record Head (text : List ℕ) (tokens : List Token) (t : Terminal) (names : List (List ℕ)) (ps rest : List Terminal) : Type 0 where
  pub name : Terminal
  pub opening : Terminal
  pub between : List Terminal
  pub args : List Terminal
  pub close : Terminal
  pub others : List Terminal
  pub is : ps ≡ name ∷ opening ∷ (between ++ (close ∷ others))
  pub of_word : IsWord name
  pub kind : t.kind ≡ name.kind
  pub place : t.place ≡ name.place
  pub opens : opening.kind ≡ 4
  pub are : IsArguments between args
  pub closes : close.kind ≡ 5
  pub named : names ≡ words_of text tokens args
  pub goes_on : walk false others ≡ rest

kind_stays : (t : Terminal) (ps rest : List Terminal) (e : walk false ps ≡ t ∷ rest) (p : Terminal) (others : List Terminal) → ps ≡ p ∷ others → t.kind ≡ p.kind
kind_stays t ps rest e p others q =
    let f = first false ps t rest e in
    let same : f.token ∷ f.others ≡ p ∷ others = sym f.is ∙ q in
    let tokens_same : f.token ≡ p = cc in
    sym f.kind ∙ ap (λ (x : Terminal). x.kind) tokens_same

pub read_head : (text : List ℕ) (tokens : List Token) (t o : Terminal) (a : Derivation) (c : Terminal) → IsWord t → o.kind ≡ 4 → IsOf liberty_grammar (rule 9) a → c.kind ≡ 5 →
    (ps rest : List Terminal) → walk false ps ≡ t ∷ o ∷ (spelled a ++ (c ∷ rest)) → Head text tokens t (names_of text tokens a) ps rest
read_head text tokens t o a c is_t is_o is_a is_c ps rest e =
    let n = read_word t ps (o ∷ (spelled a ++ (c ∷ rest))) is_t e in
    let p = read_mark false false 4 o n.others (spelled a ++ (c ∷ rest)) is_o (λ x. omega arith) (λ x. omega arith) refl n.goes_on in
    let b = read_arguments text tokens a is_a p.others (c ∷ rest) p.goes_on in
    let k = read_mark false false 5 c b.others rest is_c (λ x. omega arith) (λ x. omega arith) refl b.goes_on in
    record {
      name = n.token;
      opening = p.token;
      between = b.between;
      args = b.args;
      close = k.token;
      others = k.others;
      is = n.is ∙ ap (λ xs. n.token ∷ xs) p.is ∙ ap (λ xs. n.token ∷ p.token ∷ xs) b.is ∙ ap (λ xs. n.token ∷ p.token ∷ (b.between ++ xs)) k.is;
      of_word = n.kind;
      kind = kind_stays t ps (o ∷ (spelled a ++ (c ∷ rest))) e n.token n.others n.is;
      place = n.place;
      opens = p.kind;
      are = b.are;
      closes = k.kind;
      named = b.named;
      goes_on = k.goes_on;
    }

pub record Ending (ps rest : List Terminal) : Type 0 where
  pub ending : List Terminal
  pub others : List Terminal
  pub is : ps ≡ ending ++ others
  pub ends : IsEnding ending
  pub goes_on : walk false others ≡ rest

pub read_ending : (d : Derivation) → IsOf liberty_grammar (rule 8) d → (ps rest : List Terminal) → walk false ps ≡ spelled d ++ rest → Ending ps rest
read_ending d h ps rest e = elim (in_side liberty_grammar (rule 8) (word 9) empty d refl h) [
  | inl s ↦
      let l = in_leaf liberty_grammar (word 9) 9 s.side refl s.of_side in
      let whole : d ≡ left (leaf l.0) = s.is ∙ ap left l.1 in
      let a = read_mark false false 9 l.0 ps rest l.2 (λ x. omega arith) (λ x. omega arith) refl (e ∙ ap (λ x. spelled x ++ rest) whole) in
      record { ending = a.token ∷ []; others = a.others; is = a.is; ends = a.kind; goes_on = a.goes_on }
  | inr s ↦
      let whole : d ≡ right nothing = s.is ∙ ap right (in_nothing liberty_grammar empty s.side refl s.of_side) in
      record { ending = []; others = ps; is = refl; ends = tt; goes_on = e ∙ ap (λ x. spelled x ++ rest) whole }
]

-- what stands before a closing brace, and the brace
pub record Inner (text : List ℕ) (tokens : List Token) (ss : List Statement) (ps rest : List Terminal) : Type 0 where
  pub inner : List Terminal
  pub end : Terminal
  pub others : List Terminal
  pub is : ps ≡ inner ++ (end ∷ others)
  pub are : IsContents text tokens inner ss
  pub ends : end.kind ≡ 7
  pub goes_on : walk false others ≡ rest

-- the statements d are the format's
abbrev pub Reads : List ℕ → List Token → Derivation → Type 0
Reads text tokens d = (e : Terminal) (ps rest : List Terminal) → e.kind ≡ 7 → walk false ps ≡ spelled d ++ (e ∷ rest) → Inner text tokens (statements_of text tokens d) ps rest

-- so are all statements that lie in d
abbrev pub ReadsIn : List ℕ → List Token → Derivation → Type 0
ReadsIn text tokens d = (s : Derivation) → size s < size d → IsOf liberty_grammar (rule 2) s → Reads text tokens s

pub record Braced (text : List ℕ) (tokens : List Token) (ss : List Statement) (ps rest : List Terminal) : Type 0 where
  pub begin : Terminal
  pub inner : List Terminal
  pub end : Terminal
  pub ending : List Terminal
  pub others : List Terminal
  pub is : ps ≡ begin ∷ (inner ++ (end ∷ (ending ++ others)))
  pub begins : begin.kind ≡ 6
  pub are : IsContents text tokens inner ss
  pub ends : end.kind ≡ 7
  pub is_ending : IsEnding ending
  pub goes_on : walk false others ≡ rest

within : (d b r l e g : Derivation) → d ≡ pair b (pair l (pair e g)) → size l < size d
within d b r l e g p = let q : size d ≡ size b + (size l + (size e + size g + 1) + 1) + 1 = ap size p in omega arith

pub read_braced : (text : List ℕ) (tokens : List Token) (d : Derivation) → IsOf liberty_grammar (rule 1) d → ReadsIn text tokens d → (ps rest : List Terminal) → walk false ps ≡ spelled d ++ rest → Braced text tokens (braced_of text tokens d) ps rest
read_braced text tokens d h ih ps rest e =
    let p = in_pair liberty_grammar (rule 1) (word 6) (both (rule 2) (both (word 7) (rule 8))) d refl h in
    let q = in_pair liberty_grammar (both (rule 2) (both (word 7) (rule 8))) (rule 2) (both (word 7) (rule 8)) p.two refl p.of_two in
    let r = in_pair liberty_grammar (both (word 7) (rule 8)) (word 7) (rule 8) q.two refl q.of_two in
    let b = in_leaf liberty_grammar (word 6) 6 p.one refl p.of_one in
    let z = in_leaf liberty_grammar (word 7) 7 r.one refl r.of_one in
    let last : q.two ≡ pair (leaf z.0) r.two = r.is ∙ ap (λ x. pair x r.two) z.1 in
    let rear : p.two ≡ pair q.one (pair (leaf z.0) r.two) = q.is ∙ ap (pair q.one) last in
    let whole : d ≡ pair (leaf b.0) (pair q.one (pair (leaf z.0) r.two)) = p.is ∙ ap (λ x. pair x p.two) b.1 ∙ ap (pair (leaf b.0)) rear in
    let e2 : walk false ps ≡ b.0 ∷ (spelled q.one ++ (z.0 ∷ (spelled r.two ++ rest))) = e ∙ ap (λ x. spelled x ++ rest) whole ∙ ap (λ xs. b.0 ∷ xs) (append_assoc (spelled q.one) (z.0 ∷ spelled r.two) rest) in
    let begun = read_mark false false 6 b.0 ps (spelled q.one ++ (z.0 ∷ (spelled r.two ++ rest))) b.2 (λ x. omega arith) (λ x. omega arith) refl e2 in
    let inner = ih q.one (within d (leaf b.0) d q.one (leaf z.0) r.two whole) q.of_one z.0 begun.others (spelled r.two ++ rest) z.2 begun.goes_on in
    let ending = read_ending r.two r.of_two inner.others rest inner.goes_on in
    record {
      begin = begun.token;
      inner = inner.inner;
      end = inner.end;
      ending = ending.ending;
      others = ending.others;
      is = begun.is ∙ ap (λ xs. begun.token ∷ xs) inner.is ∙ ap (λ xs. begun.token ∷ (inner.inner ++ (inner.end ∷ xs))) ending.is;
      begins = begun.kind;
      are = subst (λ ss. IsContents text tokens inner.inner ss) (sym (ap (braced_of text tokens) whole)) inner.are;
      ends = inner.ends;
      is_ending = ending.ends;
      goes_on = ending.goes_on;
    }

-- a part of the tokens of a kind, and what follows it
pub record Part {A : Type 0} (b : Bool) (is_part : List Terminal → A → Type 0) (x : A) (ps rest : List Terminal) : Type 0 where
  pub part : List Terminal
  pub others : List Terminal
  pub is : ps ≡ part ++ others
  pub are : is_part part x
  pub goes_on : walk b others ≡ rest

group_shape : (name opening : Terminal) (between : List Terminal) (close begin : Terminal) (inner : List Terminal) (end : Terminal) (ending others : List Terminal) →
    name ∷ opening ∷ (between ++ (close ∷ begin ∷ (inner ++ (end ∷ (ending ++ others))))) ≡ (name ∷ opening ∷ (between ++ (close ∷ begin ∷ (inner ++ (end ∷ ending))))) ++ others
group_shape name opening between close begin inner end ending others = simp append_assoc

pub read_group : (text : List ℕ) (tokens : List Token) (t : Terminal) (names : List (List ℕ)) (z : Derivation) → IsOf liberty_grammar (rule 1) z → ReadsIn text tokens z → (ps rest : List Terminal) →
    Head text tokens t names ps (spelled z ++ rest) → Part false (IsGroup text tokens) (group_with text tokens t.place names (contents_of (braced_of text tokens z))) ps rest
read_group text tokens t names z is_z ih ps rest h =
    let b = read_braced text tokens z is_z ih h.others rest h.goes_on in
    let ss = braced_of text tokens z in
    let g = group h.name h.opening h.between h.args h.close b.begin b.inner ss b.end b.ending h.of_word h.opens h.are h.closes b.begins b.are b.ends b.is_ending in
    let same : group_with text tokens h.name.place (words_of text tokens h.args) (contents_of ss) ≡ group_with text tokens t.place names (contents_of ss) =
    ap (λ n. group_with text tokens n (words_of text tokens h.args) (contents_of ss)) (sym h.place) ∙ ap (λ ns. group_with text tokens t.place ns (contents_of ss)) (sym h.named) in
    record {
      part = h.name ∷ h.opening ∷ (h.between ++ (h.close ∷ b.begin ∷ (b.inner ++ (b.end ∷ b.ending))));
      others = b.others;
      is = h.is ∙ ap (λ xs. h.name ∷ h.opening ∷ (h.between ++ (h.close ∷ xs))) b.is ∙ group_shape h.name h.opening h.between h.close b.begin b.inner b.end b.ending b.others;
      are = subst (λ x. IsGroup text tokens (h.name ∷ h.opening ∷ (h.between ++ (h.close ∷ b.begin ∷ (b.inner ++ (b.end ∷ b.ending))))) x) same g;
      goes_on = b.goes_on;
    }

complex_shape : (name opening : Terminal) (between : List Terminal) (close : Terminal) (ending others : List Terminal) →
    name ∷ opening ∷ (between ++ (close ∷ (ending ++ others))) ≡ (name ∷ opening ∷ (between ++ (close ∷ ending))) ++ others
complex_shape name opening between close ending others = simp append_assoc

-- a statement that ends, or a list that nothing ends
abbrev pub StatementRead : List ℕ → List Token → Statement → List Terminal → List Terminal → Type 0
StatementRead text tokens s ps rest = Part false (IsStatement text tokens) s ps rest ⊎ Part true (IsList text tokens) s ps rest

read_body : (text : List ℕ) (tokens : List Token) (t : Terminal) (names : List (List ℕ)) (z : Derivation) → IsOf liberty_grammar (rule 7) z → ReadsIn text tokens z → (ps rest : List Terminal) →
    Head text tokens t names ps (spelled z ++ rest) → Part false (IsStatement text tokens) (body_of text tokens t.place names z) ps rest
read_body text tokens t names z is_z ih ps rest h = elim (in_side liberty_grammar (rule 7) (rule 1) (rule 8) z refl is_z) [
  | inl s ↦
      let smaller : size s.side < size z = let q : size z ≡ size s.side + 1 = ap size s.is in omega arith in
      let ih2 : ReadsIn text tokens s.side = λ x l. ih x (let m : size x < size s.side = l in omega arith) in
      let h2 : Head text tokens t names ps (spelled s.side ++ rest) = subst (λ x. Head text tokens t names ps (spelled x ++ rest)) s.is h in
      let g = read_group text tokens t names s.side s.of_side ih2 ps rest h2 in
      let made = inner_group g.part (group_with text tokens t.place names (contents_of (braced_of text tokens s.side))) g.are in
      record { part = g.part; others = g.others; is = g.is; are = subst (λ x. IsStatement text tokens g.part (body_of text tokens t.place names x)) (sym s.is) made; goes_on = g.goes_on }
  | inr s ↦
      let h2 : Head text tokens t names ps (spelled s.side ++ rest) = subst (λ x. Head text tokens t names ps (spelled x ++ rest)) s.is h in
      let a = read_ending s.side s.of_side h2.others rest h2.goes_on in
      let part = h2.name ∷ h2.opening ∷ (h2.between ++ (h2.close ∷ a.ending)) in
      let made : IsStatement text tokens part (statement.Attribute (attr_with text tokens h2.name.place (words_of text tokens h2.args))) = complex h2.name h2.opening h2.between h2.args h2.close a.ending h2.of_word h2.opens h2.are h2.closes a.ends in
      let same : statement.Attribute (attr_with text tokens h2.name.place (words_of text tokens h2.args)) ≡ body_of text tokens t.place names z =
      ap (λ n. statement.Attribute (attr_with text tokens n (words_of text tokens h2.args))) (sym h2.place)
      ∙ ap (λ ns. statement.Attribute (attr_with text tokens t.place ns)) (sym h2.named)
      ∙ sym (ap (body_of text tokens t.place names) s.is) in
      record {
        part = part;
        others = a.others;
        is = h2.is ∙ ap (λ xs. h2.name ∷ h2.opening ∷ (h2.between ++ (h2.close ∷ xs))) a.is ∙ complex_shape h2.name h2.opening h2.between h2.close a.ending a.others;
        are = subst (λ x. IsStatement text tokens part x) same made;
        goes_on = a.goes_on;
      }
]

-- a word, a colon and values
read_list : (text : List ℕ) (tokens : List Token) (t c v : Terminal) (vs : Derivation) → IsWord t → c.kind ≡ 8 → v.kind ≡ 3 → IsOf liberty_grammar (many (word 3)) vs →
    (ps rest : List Terminal) → walk false ps ≡ t ∷ c ∷ v ∷ (spelled vs ++ rest) →
    Part true (IsList text tokens) (statement.Attribute (attr_with text tokens t.place (names_of text tokens (pair (leaf v) vs)))) ps rest
read_list text tokens t c v vs is_t is_c is_v is_vs ps rest e =
    let n = read_word t ps (c ∷ v ∷ (spelled vs ++ rest)) is_t e in
    let k = read_mark false true 8 c n.others (v ∷ (spelled vs ++ rest)) is_c (λ x. omega arith) (λ x. omega arith) refl n.goes_on in
    let w = read_listed v k.others (spelled vs ++ rest) is_v k.goes_on in
    let ws = read_values text tokens vs is_vs w.others rest w.goes_on in
    let part = n.token ∷ k.token ∷ w.token ∷ ws.values in
    let made : IsList text tokens part (statement.Attribute (attr_with text tokens n.token.place (words_of text tokens (w.token ∷ ws.values)))) = list n.token k.token w.token ws.values n.kind k.kind w.kind ws.are in
    let named : names_of text tokens (pair (leaf v) vs) ≡ words_of text tokens (w.token ∷ ws.values) =
    ap (λ m. names_of text tokens (pair (leaf (record { kind = v.kind; place = m })) vs)) w.place ∙ ap (λ xs. names_of text tokens (pair (leaf w.token) done) ++ xs) ws.named in
    let same : statement.Attribute (attr_with text tokens n.token.place (words_of text tokens (w.token ∷ ws.values))) ≡ statement.Attribute (attr_with text tokens t.place (names_of text tokens (pair (leaf v) vs))) =
    ap (λ m. statement.Attribute (attr_with text tokens m (words_of text tokens (w.token ∷ ws.values)))) (sym n.place) ∙ ap (λ ns. statement.Attribute (attr_with text tokens t.place ns)) (sym named) in
    record {
      part = part;
      others = ws.others;
      is = n.is ∙ ap (λ xs. n.token ∷ xs) k.is ∙ ap (λ xs. n.token ∷ k.token ∷ xs) w.is ∙ ap (λ xs. n.token ∷ k.token ∷ w.token ∷ xs) ws.is;
      are = subst (λ x. IsList text tokens part x) same made;
      goes_on = ws.goes_on;
    }

-- what ends the values
read_stop : (text : List ℕ) (tokens : List Token) (s : Statement) (d : Derivation) → IsOf liberty_grammar (rule 6) d → (ps rest : List Terminal) →
    Part true (IsList text tokens) s ps (spelled d ++ rest) → StatementRead text tokens s ps rest
read_stop text tokens s d h ps rest a = elim (in_side liberty_grammar (rule 6) (either (word 9) (word 11)) empty d refl h) [
  | inl x ↦ elim (in_side liberty_grammar (either (word 9) (word 11)) (word 9) (word 11) x.side refl x.of_side) [
    | inl y ↦
        let l = in_leaf liberty_grammar (word 9) 9 y.side refl y.of_side in
        let whole : d ≡ left (left (leaf l.0)) = x.is ∙ ap left y.is ∙ ap (λ z. left (left z)) l.1 in
        let k = read_mark true false 9 l.0 a.others rest l.2 (λ z. omega arith) (λ z. omega arith) refl (a.goes_on ∙ ap (λ z. spelled z ++ rest) whole) in
        inl (record { part = a.part ++ (k.token ∷ []); others = k.others; is = a.is ∙ ap (λ xs. a.part ++ xs) k.is ∙ sym (append_assoc a.part (k.token ∷ []) k.others); are = simple a.part s k.token a.are (inl k.kind); goes_on = k.goes_on })
    | inr y ↦
        let l = in_leaf liberty_grammar (word 11) 11 y.side refl y.of_side in
        let whole : d ≡ left (right (leaf l.0)) = x.is ∙ ap left y.is ∙ ap (λ z. left (right z)) l.1 in
        let k = read_mark true false 11 l.0 a.others rest l.2 (λ z. omega arith) (λ z. omega arith) refl (a.goes_on ∙ ap (λ z. spelled z ++ rest) whole) in
        inl (record { part = a.part ++ (k.token ∷ []); others = k.others; is = a.is ∙ ap (λ xs. a.part ++ xs) k.is ∙ sym (append_assoc a.part (k.token ∷ []) k.others); are = simple a.part s k.token a.are (inr k.kind); goes_on = k.goes_on })
  ]
  | inr x ↦
      let whole : d ≡ right nothing = x.is ∙ ap right (in_nothing liberty_grammar empty x.side refl x.of_side) in
      inr (record { part = a.part; others = a.others; is = a.is; are = a.are; goes_on = a.goes_on ∙ ap (λ z. spelled z ++ rest) whole })
]

read_simple : (text : List ℕ) (tokens : List Token) (n x : Derivation) → IsOf liberty_grammar (rule 12) n → IsOf liberty_grammar (both (word 8) (both (rule 5) (rule 6))) x → (ps rest : List Terminal) →
    walk false ps ≡ (spelled n ++ spelled x) ++ rest → StatementRead text tokens (meaning_of text tokens (number_of n) (left x)) ps rest
read_simple text tokens n x is_n is_x ps rest e =
    let p = in_pair liberty_grammar (both (word 8) (both (rule 5) (rule 6))) (word 8) (both (rule 5) (rule 6)) x refl is_x in
    let q = in_pair liberty_grammar (both (rule 5) (rule 6)) (rule 5) (rule 6) p.two refl p.of_two in
    let vs = in_pair liberty_grammar (rule 5) (word 3) (many (word 3)) q.one refl q.of_one in
    let c = in_leaf liberty_grammar (word 8) 8 p.one refl p.of_one in
    let v = in_leaf liberty_grammar (word 3) 3 vs.one refl vs.of_one in
    let t = name_leaf n is_n in
    let values : q.one ≡ pair (leaf v.0) vs.two = vs.is ∙ ap (λ y. pair y vs.two) v.1 in
    let whole : x ≡ pair (leaf c.0) (pair (pair (leaf v.0) vs.two) q.two) = p.is ∙ ap (λ y. pair y p.two) c.1 ∙ ap (pair (leaf c.0)) (q.is ∙ ap (λ y. pair y q.two) values) in
    let e2 : walk false ps ≡ t.token ∷ c.0 ∷ v.0 ∷ (spelled vs.two ++ (spelled q.two ++ rest)) =
    e ∙ ap (λ y. (spelled n ++ spelled y) ++ rest) whole ∙ ap (λ xs. (xs ++ (c.0 ∷ v.0 ∷ (spelled vs.two ++ spelled q.two))) ++ rest) t.is ∙ ap (λ xs. t.token ∷ c.0 ∷ v.0 ∷ xs) (append_assoc (spelled vs.two) (spelled q.two) rest) in
    let a = read_list text tokens t.token c.0 v.0 vs.two t.kind c.2 v.2 vs.of_two ps (spelled q.two ++ rest) e2 in
    let s = statement.Attribute (attr_with text tokens t.token.place (names_of text tokens (pair (leaf v.0) vs.two))) in
    let same : s ≡ meaning_of text tokens (number_of n) (left x) =
    ap (λ m. statement.Attribute (attr_with text tokens m (names_of text tokens (pair (leaf v.0) vs.two)))) (sym t.place) ∙ sym (ap (λ y. meaning_of text tokens (number_of n) (left y)) whole) in
    subst (λ y. StatementRead text tokens y ps rest) same (read_stop text tokens s q.two q.of_two ps rest a)

read_complex : (text : List ℕ) (tokens : List Token) (n x : Derivation) → IsOf liberty_grammar (rule 12) n → IsOf liberty_grammar (both (word 4) (both (rule 9) (both (word 5) (rule 7)))) x → ReadsIn text tokens x → (ps rest : List Terminal) →
    walk false ps ≡ (spelled n ++ spelled x) ++ rest → StatementRead text tokens (meaning_of text tokens (number_of n) (right x)) ps rest
read_complex text tokens n x is_n is_x ih ps rest e =
    let p = in_pair liberty_grammar (both (word 4) (both (rule 9) (both (word 5) (rule 7)))) (word 4) (both (rule 9) (both (word 5) (rule 7))) x refl is_x in
    let q = in_pair liberty_grammar (both (rule 9) (both (word 5) (rule 7))) (rule 9) (both (word 5) (rule 7)) p.two refl p.of_two in
    let r = in_pair liberty_grammar (both (word 5) (rule 7)) (word 5) (rule 7) q.two refl q.of_two in
    let o = in_leaf liberty_grammar (word 4) 4 p.one refl p.of_one in
    let c = in_leaf liberty_grammar (word 5) 5 r.one refl r.of_one in
    let t = name_leaf n is_n in
    let whole : x ≡ pair (leaf o.0) (pair q.one (pair (leaf c.0) r.two)) = p.is ∙ ap (λ y. pair y p.two) o.1 ∙ ap (pair (leaf o.0)) (q.is ∙ ap (pair q.one) (r.is ∙ ap (λ y. pair y r.two) c.1)) in
    let e2 : walk false ps ≡ t.token ∷ o.0 ∷ (spelled q.one ++ (c.0 ∷ (spelled r.two ++ rest))) =
    e ∙ ap (λ y. (spelled n ++ spelled y) ++ rest) whole ∙ ap (λ xs. (xs ++ (o.0 ∷ (spelled q.one ++ (c.0 ∷ spelled r.two)))) ++ rest) t.is ∙ ap (λ xs. t.token ∷ o.0 ∷ xs) (append_assoc (spelled q.one) (c.0 ∷ spelled r.two) rest) in
    let h = read_head text tokens t.token o.0 q.one c.0 t.kind o.2 q.of_one c.2 ps (spelled r.two ++ rest) e2 in
    let smaller : size r.two < size x = let z : size x ≡ 1 + (size q.one + (1 + size r.two + 1) + 1) + 1 = ap size whole in omega arith in
    let ih2 : ReadsIn text tokens r.two = λ y l. ih y (let m : size y < size r.two = l in omega arith) in
    let a = read_body text tokens t.token (names_of text tokens q.one) r.two r.of_two ih2 ps rest h in
    let same : body_of text tokens t.token.place (names_of text tokens q.one) r.two ≡ meaning_of text tokens (number_of n) (right x) =
    ap (λ m. body_of text tokens m (names_of text tokens q.one) r.two) (sym t.place) ∙ sym (ap (λ y. meaning_of text tokens (number_of n) (right y)) whole) in
    subst (λ y. StatementRead text tokens y ps rest) same (inl a)

read_statement : (text : List ℕ) (tokens : List Token) (d : Derivation) → IsOf liberty_grammar (rule 3) d → ReadsIn text tokens d → (ps rest : List Terminal) →
    walk false ps ≡ spelled d ++ rest → StatementRead text tokens (statement_of text tokens d) ps rest
read_statement text tokens d h ih ps rest e =
    let p = in_pair liberty_grammar (rule 3) (rule 12) (rule 4) d refl h in
    elim (in_side liberty_grammar (rule 4) (both (word 8) (both (rule 5) (rule 6))) (both (word 4) (both (rule 9) (both (word 5) (rule 7)))) p.two refl p.of_two) [
      | inl s ↦
          let whole : d ≡ pair p.one (left s.side) = p.is ∙ ap (pair p.one) s.is in
          let a = read_simple text tokens p.one s.side p.of_one s.of_side ps rest (e ∙ ap (λ x. spelled x ++ rest) whole) in
          subst (λ x. StatementRead text tokens (statement_of text tokens x) ps rest) (sym whole) a
      | inr s ↦
          let whole : d ≡ pair p.one (right s.side) = p.is ∙ ap (pair p.one) s.is in
          let smaller : size s.side < size d = let z : size d ≡ size p.one + (size s.side + 1) + 1 = ap size whole in omega arith in
          let ih2 : ReadsIn text tokens s.side = λ y l. ih y (let m : size y < size s.side = l in omega arith) in
          let a = read_complex text tokens p.one s.side p.of_one s.of_side ih2 ps rest (e ∙ ap (λ x. spelled x ++ rest) whole) in
          subst (λ x. StatementRead text tokens (statement_of text tokens x) ps rest) (sym whole) a
    ]

-- behind a list that nothing ends no statement stands
behind_list : (d : Derivation) → IsOf liberty_grammar (rule 2) d → (e : Terminal) (ps rest : List Terminal) → e.kind ≡ 7 → walk true ps ≡ spelled d ++ (e ∷ rest) → (d ≡ done) × Ahead false (IsMark 7) e.place ps rest
behind_list d h e ps rest k w = elim (in_more liberty_grammar (rule 2) (rule 3) d refl h) [
  | inl p ↦ (p, read_mark true false 7 e ps rest k (λ x. omega arith) (λ x. omega arith) refl (w ∙ ap (λ x. spelled x ++ (e ∷ rest)) p))
  | inr m ↦
      let p = in_pair liberty_grammar (rule 3) (rule 12) (rule 4) m.one refl m.of_one in
      let t = name_leaf p.one p.of_one in
      let whole : d ≡ more (pair p.one p.two) m.others = m.is ∙ ap (λ x. more x m.others) p.is in
      let w2 : walk true ps ≡ t.token ∷ ((spelled p.two ++ spelled m.others) ++ (e ∷ rest)) = w ∙ ap (λ x. spelled x ++ (e ∷ rest)) whole ∙ ap (λ xs. ((xs ++ spelled p.two) ++ spelled m.others) ++ (e ∷ rest)) t.is in
      let f = first true ps t.token ((spelled p.two ++ spelled m.others) ++ (e ∷ rest)) w2 in
      absurd (no_word f.token.kind t.token.kind f.kind t.kind)
]

-- by the size of the derivation
read_contents : (text : List ℕ) (tokens : List Token) (n : ℕ) (d : Derivation) → size d < n → IsOf liberty_grammar (rule 2) d → Reads text tokens d
read_contents text tokens zero d l h e ps rest k w = absurd (omega arith)
read_contents text tokens (suc n) d l h e ps rest k w = elim (in_more liberty_grammar (rule 2) (rule 3) d refl h) [
  | inl p ↦
      let a = read_mark false false 7 e ps rest k (λ x. omega arith) (λ x. omega arith) refl (w ∙ ap (λ x. spelled x ++ (e ∷ rest)) p) in
      record { inner = []; end = a.token; others = a.others; is = a.is; are = subst (λ x. IsContents text tokens [] (statements_of text tokens x)) (sym p) nothing_more; ends = a.kind; goes_on = a.goes_on }
  | inr m ↦
      let total : size d ≡ size m.one + size m.others + 1 = ap size m.is in
      let ih : ReadsIn text tokens m.one = λ s l2. read_contents text tokens n s (let q : size s < size m.one = l2 in omega arith) in
      let w2 : walk false ps ≡ spelled m.one ++ (spelled m.others ++ (e ∷ rest)) = w ∙ ap (λ x. spelled x ++ (e ∷ rest)) m.is ∙ append_assoc (spelled m.one) (spelled m.others) (e ∷ rest) in
      elim (read_statement text tokens m.one m.of_one ih ps (spelled m.others ++ (e ∷ rest)) w2) [
        | inl a ↦
            let r = read_contents text tokens n m.others (omega arith) m.of_others e a.others rest k a.goes_on in
            let made = one_more a.part r.inner (statement_of text tokens m.one) (statements_of text tokens m.others) a.are r.are in
            record {
              inner = a.part ++ r.inner;
              end = r.end;
              others = r.others;
              is = a.is ∙ ap (λ xs. a.part ++ xs) r.is ∙ sym (append_assoc a.part r.inner (r.end ∷ r.others));
              are = subst (λ x. IsContents text tokens (a.part ++ r.inner) (statements_of text tokens x)) (sym m.is) made;
              ends = r.ends;
              goes_on = r.goes_on;
            }
        | inr a ↦
            let b = behind_list m.others m.of_others e a.others rest k a.goes_on in
            let made = unended a.part (statement_of text tokens m.one) a.are in
            let whole : d ≡ more m.one done = m.is ∙ ap (more m.one) b.0 in
            record {
              inner = a.part;
              end = b.1.token;
              others = b.1.others;
              is = a.is ∙ ap (λ xs. a.part ++ xs) b.1.is;
              are = subst (λ x. IsContents text tokens a.part (statements_of text tokens x)) (sym whole) made;
              ends = b.1.kind;
              goes_on = b.1.goes_on;
            }
      ]
]

walk_empty : (ps : List Terminal) → walk false ps ≡ [] → ps ≡ []
walk_empty [] e = refl
walk_empty (p ∷ ps) e = cc

pub record Library (text : List ℕ) (tokens : List Token) (d : Derivation) (ps : List Terminal) : Type 0 where
  pub name : Terminal
  pub others : List Terminal
  pub is : ps ≡ name ∷ others
  pub kind : name.kind ≡ 0
  pub are : IsGroup text tokens ps (group_of text tokens d)

-- the whole grammar
pub read_library : (text : List ℕ) (tokens : List Token) (d : Derivation) → IsOf liberty_grammar (rule 0) d → (ps : List Terminal) → walk false ps ≡ spelled d → Library text tokens d ps
read_library text tokens d h ps e =
    let i = in_pair liberty_grammar (rule 0) (word 0) (both (word 4) (both (rule 9) (both (word 5) (rule 1)))) d refl h in
    let p = in_pair liberty_grammar (both (word 4) (both (rule 9) (both (word 5) (rule 1)))) (word 4) (both (rule 9) (both (word 5) (rule 1))) i.two refl i.of_two in
    let q = in_pair liberty_grammar (both (rule 9) (both (word 5) (rule 1))) (rule 9) (both (word 5) (rule 1)) p.two refl p.of_two in
    let r = in_pair liberty_grammar (both (word 5) (rule 1)) (word 5) (rule 1) q.two refl q.of_two in
    let t = in_leaf liberty_grammar (word 0) 0 i.one refl i.of_one in
    let o = in_leaf liberty_grammar (word 4) 4 p.one refl p.of_one in
    let c = in_leaf liberty_grammar (word 5) 5 r.one refl r.of_one in
    let rear : i.two ≡ pair (leaf o.0) (pair q.one (pair (leaf c.0) r.two)) = p.is ∙ ap (λ y. pair y p.two) o.1 ∙ ap (pair (leaf o.0)) (q.is ∙ ap (pair q.one) (r.is ∙ ap (λ y. pair y r.two) c.1)) in
    let whole : d ≡ pair (leaf t.0) (pair (leaf o.0) (pair q.one (pair (leaf c.0) r.two))) = i.is ∙ ap (λ y. pair y i.two) t.1 ∙ ap (pair (leaf t.0)) rear in
    let e2 : walk false ps ≡ t.0 ∷ o.0 ∷ (spelled q.one ++ (c.0 ∷ (spelled r.two ++ []))) = e ∙ ap spelled whole ∙ ap (λ xs. t.0 ∷ o.0 ∷ (spelled q.one ++ (c.0 ∷ xs))) (sym (append-nil (spelled r.two))) in
    let h2 = read_head text tokens t.0 o.0 q.one c.0 (inl t.2) o.2 q.of_one c.2 ps (spelled r.two ++ []) e2 in
    let ih : ReadsIn text tokens r.two = λ s l. read_contents text tokens (size r.two) s l in
    let g = read_group text tokens t.0 (names_of text tokens q.one) r.two r.of_two ih ps [] h2 in
    let all : ps ≡ g.part = g.is ∙ ap (λ xs. g.part ++ xs) (walk_empty g.others g.goes_on) ∙ append-nil g.part in
    let made = subst (λ xs. IsGroup text tokens xs (group_with text tokens t.0.place (names_of text tokens q.one) (contents_of (braced_of text tokens r.two)))) (sym all) g.are in
    record {
      name = h2.name;
      others = h2.opening ∷ (h2.between ++ (h2.close ∷ h2.others));
      is = h2.is;
      kind = sym h2.kind ∙ t.2;
      are = subst (λ x. IsGroup text tokens ps (group_of text tokens x)) (sym whole) made;
    }
